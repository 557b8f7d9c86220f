use Rattle.std.proofs.Common.{◌≡◌, ◌||◌, not, is_some, is_none, ap, ◌∙◌}
use Rattle.arc_ast.specs.Tree.{unit_tree}
use Rattle.arc_class.specs.BrokenRules.{broken_if, first}
use Rattle.arc_class.specs.ClassRules.{is_implemented}
use Rattle.arc_class.specs.Classes.{is_root, class_number}
use Rattle.arc_class.specs.Table.{class_number_in}
use Rattle.arc_class.specs.private.Scopes.{holds}
use Rattle.arc_class.proofs.FirstBrokenRule.{first_both}
use Rattle.arc_class.proofs.ClassViolations.{class_number_kept, there_none}
use Rattle.arc_class.proofs.kept.Source.own_names_fault.Goals as goal

pub returns : goal.returns
returns c earlier held =
    let u = unit_tree c.args.self.now.unit.now in
    let i = c.args.implementation.now in
    let source = c.args.self.now in
    let known : c.is_some-known.result ≡ is_some (class_number u.interfaces i.name.items) =
    c.is_some-known.ensures ∙ ap is_some (c.class_number.ensures ∙ ap (class_number_in source.names) c.deref-2.ensures.value
    ∙ class_number_kept source.names u.interfaces i.name.items (c.requires.class_places i.name.items)) in
    let again = c.is_known-again.ensures ∙ ap (λ n. is_root n || holds c.args.before.now n) c.deref.ensures.value ∙ ap (λ b. is_root i.name.items || b) (held i.name.items) in
    first_both (broken_if (is_root i.name.items || is_implemented earlier i.name.items) i.at 21) (broken_if (is_none (class_number u.interfaces i.name.items)) i.at 22) _ _ _
    (c.fault_if.ensures ∙ ap (λ b. first (broken_if b i.at 21)) again)
    (c.fault_if-2.ensures ∙ ap (λ b. first (broken_if b i.at 22)) (ap not known ∙ there_none (class_number u.interfaces i.name.items))) c.earlier.ensures
