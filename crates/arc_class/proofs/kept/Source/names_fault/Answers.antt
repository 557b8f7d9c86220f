use Rattle.std.proofs.Common.{◌≡◌, ◌||◌, ◌++◌, not, is_some, is_none, ap, ◌∙◌}
use Rattle.arc_ast.specs.Tree.{unit_tree, interface_tree}
use Rattle.arc_class.specs.BrokenRules.{broken_if, first}
use Rattle.arc_class.specs.ClassRules.{is_implemented, is_taken}
use Rattle.arc_class.specs.Classes.{is_root, class_number, bodies}
use Rattle.arc_class.specs.Table.{at_name}
use Rattle.arc_class.specs.private.Scopes.{holds}
use Rattle.arc_class.proofs.FirstBrokenRule.{first_both}
use Rattle.arc_class.proofs.ClassViolations.{implemented_known, class_missing}
use Rattle.arc_class.proofs.kept.Source.names_fault.Goals as goal

pub returns : goal.returns
returns c earlier held =
    let u = unit_tree c.args.self.now.unit.now in
    let i = c.args.interface.now in
    let source = c.args.self.now in
    let there : c.is_some-implemented.result ≡ is_implemented u.implementations i.name.items =
    c.is_some-implemented.ensures ∙ ap is_some (c.at_name.ensures ∙ ap (at_name source.implemented) c.deref.ensures.value)
    ∙ implemented_known (at_name source.implemented i.name.items) (bodies u.functions) u.implementations i.name.items (c.requires.implementations i.name.items) in
    let missing = c.is_known-known.ensures ∙ ap (λ n. is_root n || holds c.args.before.now n) c.deref-2.ensures.value ∙ ap (λ b. is_root i.superclass.items || b) (held i.superclass.items) in
    first_both (broken_if (is_taken u earlier (interface_tree i)) i.at 21 ++ broken_if (not (is_implemented u.implementations i.name.items)) i.at 26) (broken_if (is_none (class_number earlier i.superclass.items)) i.superclass_at 22) _ _ _
    (first_both (broken_if (is_taken u earlier (interface_tree i)) i.at 21) (broken_if (not (is_implemented u.implementations i.name.items)) i.at 26) _ _ _
    (c.fault_if.ensures ∙ ap (λ b. first (broken_if b i.at 21)) (c.is_taken-taken.ensures earlier held))
    (c.fault_if-2.ensures ∙ ap (λ b. first (broken_if (not b) i.at 26)) there) c.earlier-name.ensures)
    (c.fault_if-above.ensures ∙ ap (λ b. first (broken_if b i.superclass_at 22)) (ap not missing ∙ class_missing earlier i.superclass.items)) c.earlier.ensures
