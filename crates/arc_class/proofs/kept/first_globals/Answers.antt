use Rattle.std.proofs.Common.{◌≡◌, ◌+◌, drop, sym, ap, ◌∙◌}
use Rattle.arc_ast.specs.Tree.{type_tree, global_tree, global_trees}
use Rattle.arc_ast.specs.Types.{type_kind}
use Rattle.std.specs.Option.{option_or}
use Rattle.arc_class.specs.Globals.{variable_after, variables}
use Rattle.arc_class.specs.KeptNames.{one_at}
use Rattle.arc_spec.specs.Sorts.{held_by, with_one}
use Rattle.arc_class.specs.Table.{at_name}
use Rattle.arc_class.proofs.FirstDeclaration.{kept_turn, or_one}
use Rattle.arc_class.proofs.ListSuffixes.{drop_turn}
use Rattle.arc_class.proofs.kept.first_globals.Goals as goal

pub loop-global-preserved : goal.loop-global-preserved
loop-global-preserved c = λ interfaces names sought.
    let xs = c.args.globals.now in
    let k = c.loop-global.global-index in
    let x = c.global-item.result in
    let before = c.loop-global.before in
    let kind = type_kind (type_tree x.type_name) in
    let next : c.in_ok-before.before ≡ with_one (held_by kind) before = c.in_ok-before.ensures.counted ∙ ap (λ s. with_one s before) c.held_by.ensures ∙ ap (λ k. with_one (held_by k) before) c.variable-variable.ensures.kind in
    let old = at_name c.loop-global.map sought in
    let found = variable_after interfaces before (global_tree x) in
    let others = global_trees (drop (k + 1) xs) in
    kept_turn old (one_at x.name.items found sought) _ (variables interfaces c.in_ok-before.before others sought) _
    (c.in_ok-keep_first.ensures sought ∙ ap (λ v. option_or old (one_at c.deref.result.now v sought)) (c.variable-variable.ensures.variable interfaces names) ∙ ap (λ n. option_or old (one_at n found sought)) c.deref.ensures.value)
    (c.loop-global.invariant interfaces names sought ∙ ap (option_or old) (ap (λ us. variables interfaces before (global_trees us) sought) (drop_turn xs k x c.loop-global-test.true c.global-item.is)
    ∙ or_one x.name.items found (variables interfaces (with_one (held_by kind) before) others sought) sought
    ∙ ap (λ n. option_or (one_at x.name.items found sought) (variables interfaces n others sought)) (sym next)))
