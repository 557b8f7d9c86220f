use Rattle.std.proofs.Common.{◌++◌, sym, ap, ◌∙◌}
use Rattle.arc_ast.specs.Tree.{unit_tree, field_trees}
use Rattle.arc_class.specs.BrokenRules.{first}
use Rattle.arc_class.specs.ClassRules.{broken_fields}
use Rattle.arc_class.specs.Classes.{class_number}
use Rattle.arc_class.specs.Fields.{if_before}
use Rattle.arc_class.proofs.FirstBrokenRule.{first_both}
use Rattle.arc_class.proofs.ClassViolations.{broken_fields-append}
use Rattle.arc_class.proofs.kept.Source.own_fields_fault.Goals as goal

pub returns : goal.returns
returns c =
    let u = unit_tree c.args.self.now.unit.now in
    let i = c.args.interface.now in
    let own = c.own_fields-own.result in
    let xs = field_trees own.earlier.now in
    let ys = field_trees own.later.now in
    let all = xs ++ ys in
    let above = c.superclass_before-above.result in
    first_both (broken_fields u above all xs) (broken_fields u above all ys) _ _ _
    (c.fields_fault-before.ensures u all c.requires.fields c.in_ok-places.ensures) (c.fields_fault-later_on.ensures u all c.requires.fields c.in_ok-places.ensures) c.earlier.ensures
    ∙ ap first (sym (broken_fields-append u above all xs ys)) ∙ ap (λ s. first (broken_fields u s all all)) c.superclass_before-above.ensures
    ∙ ap (λ fs. first (broken_fields u (if_before c.args.class (class_number u.interfaces i.superclass.items)) fs fs)) c.own_fields-own.ensures
