use Rattle.std.proofs.Common.{◌+◌, ap, ◌∙◌, drop, sym, option_map, arith}
use Rattle.std.proofs.lemmas.Grind.{common_steps}
use Rattle.arc_ast.specs.Tree.{head_tree, method_trees, implementation_trees}
use Rattle.arc_class.specs.Classes.{heads, first_head, defined}
use Rattle.arc_class.specs.KeptNames.{head_in}
use Rattle.arc_class.proofs.FirstDeclaration.{kept_turn, first_head-append}
use Rattle.arc_class.proofs.ListSuffixes.{drop_turn}
use Rattle.arc_class.proofs.kept.defined_heads.Goals as goal
use Rattle.std.specs.Option.{option_or}

pub loop-implementation-init : goal.loop-implementation-init
loop-implementation-init c sign sought =
    sym (ap (λ o. option_or (option_map (λ h. head_tree h.now) o) (first_head sign sought (defined (implementation_trees c.args.implementations.now)))) (c.in_ok-map.ensures sign sought))

pub loop-implementation-preserved : goal.loop-implementation-preserved
loop-implementation-preserved c sign sought =
    let xs = c.args.implementations.now in
    let i = c.loop-implementation.implementation-index in
    let x = c.implementation-item.result in
    let old = head_in c.loop-implementation.map sign sought in
    kept_turn old (first_head sign sought (heads (method_trees x.methods.items))) _ _ _ (c.in_ok-keep_methods.ensures sign sought ∙ ap (λ us. option_or old (first_head sign sought (heads (method_trees us)))) c.deref.ensures.value)
    (c.loop-implementation.invariant sign sought ∙ ap (option_or old) (ap (λ us. first_head sign sought (defined (implementation_trees us))) (drop_turn xs i x c.loop-implementation-test.true c.implementation-item.is)
    ∙ first_head-append sign sought (heads (method_trees x.methods.items)) (defined (implementation_trees (drop (i + 1) xs)))))

pub returns : goal.returns
returns c = grind (arith, common_steps)
