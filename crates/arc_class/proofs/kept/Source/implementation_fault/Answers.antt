use Rattle.std.proofs.Common.{◌≡◌, [], option_map, ap, ◌∙◌}
use Rattle.arc_ast.specs.Tree.{unit_tree, implementation_tree, method_trees}
use Rattle.arc_class.specs.BrokenRules.{first}
use Rattle.arc_class.specs.ClassRules.{broken_own_names, broken_methods}
use Rattle.arc_class.specs.Fault.{reported}
use Rattle.arc_class.proofs.FirstBrokenRule.{first_both}
use Rattle.arc_class.proofs.kept.Source.implementation_fault.Goals as goal

pub returns : goal.returns
returns c before held =
    let u = unit_tree c.args.self.now.unit.now in
    let i = implementation_tree c.args.implementation.now in
    let methods : option_map reported c.in_ok-methods.methods ≡ first (broken_methods [] i.methods) =
    c.in_ok-methods.ensures ∙ ap (λ us. first (broken_methods [] (method_trees us))) c.deref.ensures.value in
    first_both (broken_own_names u before i) (broken_methods [] i.methods) _ _ _ (c.own_names_fault-names.ensures before held) methods c.earlier.ensures
