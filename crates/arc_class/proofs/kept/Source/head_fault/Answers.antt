use Rattle.std.proofs.Common.{List, [], ◌++◌, append-nil, ap, sym, ◌∙◌, flat_map}
use Rattle.arc_ast.specs.declared.tree.Parameter.{Parameter}
use Rattle.arc_ast.specs.Tree.{unit_tree, head_tree, result_tree, parameter_trees}
use Rattle.arc_class.specs.BrokenRules.{Broken, broken_if, first}
use Rattle.arc_class.specs.SiteRules.{changes_kind, is_hook, signature_types, unknown_class}
use Rattle.arc_class.proofs.FirstBrokenRule.{first_both}
use Rattle.arc_class.proofs.kept.Source.head_fault.Goals as goal

pub returns : goal.returns
returns c knows =
    let u = unit_tree c.args.self.now.unit.now in
    let h = c.args.head.now in
    let types : List Parameter → List Broken = λ ps. flat_map (unknown_class u) (signature_types (result_tree h.result) (parameter_trees ps)) in
    let kind = broken_if (changes_kind u (head_tree h)) h.at 24 in
    let hook = broken_if (is_hook (head_tree h)) h.at 28 in
    first_both (types h.parameters.items) (kind ++ (hook ++ [])) _ _ _ (c.signature_fault-types.ensures knows ∙ ap (λ ps. first (types ps)) c.deref.ensures.value)
    (first_both kind (hook ++ []) _ _ _ (c.fault_if-kind.ensures ∙ ap (λ b. first (broken_if b h.at 24)) (c.changes_kind.ensures knows))
    (c.fault_if-hook.ensures ∙ ap (λ b. first (broken_if b h.at 28)) c.is_hook.ensures ∙ ap first (sym (append-nil hook))) c.earlier.ensures) c.earlier-2.ensures
