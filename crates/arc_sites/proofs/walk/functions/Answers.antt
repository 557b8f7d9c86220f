use Rattle.std.proofs.Common.{◌+◌, drop, flat_map, refl, ◌∙◌}
use Rattle.arc_ast.specs.Tree.{function_trees, function_tree}
use Rattle.arc_sites.specs.Sites.{function_sites}
use Rattle.arc_sites.proofs.FoundIsFirst.{turn}
use Rattle.arc_sites.proofs.walk.functions.Goals as goal

pub loop-one-preserved : goal.loop-one-preserved
loop-one-preserved g c =
    let rest = drop (c.loop-one.one-index + 1) c.args.all.now in
    (c.in_ok-function.ensures.same ∙ c.loop-one.invariant.0, turn (g.V.Visitor.violations c.args.visitor.now) _ (λ xs. flat_map function_sites (function_trees xs)) (function_sites (function_tree c.one-item.result)) (flat_map function_sites (function_trees rest)) c.args.all.now c.loop-one.one-index c.one-item.result _ _ _ refl c.loop-one.invariant.0 c.loop-one-test.true c.one-item.is c.in_ok-function.ensures.found c.loop-one.invariant.1)
