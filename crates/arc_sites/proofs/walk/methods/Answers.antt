use Rattle.std.proofs.Common.{◌+◌, drop, flat_map, refl, ◌∙◌}
use Rattle.arc_ast.specs.Tree.{method_trees, method_tree}
use Rattle.arc_sites.specs.Sites.{method_sites}
use Rattle.arc_sites.proofs.FoundIsFirst.{turn}
use Rattle.arc_sites.proofs.walk.methods.Goals as goal

pub loop-one-preserved : goal.loop-one-preserved
loop-one-preserved g c =
    let rest = drop (c.loop-one.one-index + 1) c.args.all.now in
    (c.in_ok-method.ensures.same ∙ c.loop-one.invariant.0, turn (g.V.Visitor.violations c.args.visitor.now) _ (λ xs. flat_map (method_sites c.args.implementation.now.name.items) (method_trees xs)) ((method_sites c.args.implementation.now.name.items) (method_tree c.one-item.result)) (flat_map (method_sites c.args.implementation.now.name.items) (method_trees rest)) c.args.all.now c.loop-one.one-index c.one-item.result _ _ _ refl c.loop-one.invariant.0 c.loop-one-test.true c.one-item.is c.in_ok-method.ensures.found c.loop-one.invariant.1)
