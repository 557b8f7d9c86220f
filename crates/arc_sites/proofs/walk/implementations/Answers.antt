use Rattle.std.proofs.Common.{◌+◌, drop, flat_map, refl, ◌∙◌}
use Rattle.arc_ast.specs.Tree.{method_trees, field_trees, implementation_trees, implementation_tree}
use Rattle.arc_sites.specs.Sites.{InImplementation, method_sites, field_sites, implementation_sites}
use Rattle.arc_sites.proofs.FoundIsFirst.{found_both, turn}
use Rattle.arc_sites.proofs.walk.implementations.Goals as goal

pub loop-implementation-preserved : goal.loop-implementation-preserved
loop-implementation-preserved g c =
    let i = c.implementation-item.result in
    let rest = drop (c.loop-implementation.implementation-index + 1) c.args.all.now in
    (c.in_ok-methods.ensures.same ∙ c.in_ok-fields.ensures.same ∙ c.loop-implementation.invariant.0, turn (g.V.Visitor.violations c.args.visitor.now) _ (λ xs. flat_map implementation_sites (implementation_trees xs)) (implementation_sites (implementation_tree c.implementation-item.result)) (flat_map implementation_sites (implementation_trees rest)) c.args.all.now c.loop-implementation.implementation-index c.implementation-item.result _ _ _ refl c.loop-implementation.invariant.0 c.loop-implementation-test.true c.implementation-item.is (found_both _ _ _ _ _ (field_sites (InImplementation i.name.items) (field_trees i.fields.items)) (flat_map (method_sites i.name.items) (method_trees i.methods.items)) c.in_ok-fields.ensures.same (rw c.deref.ensures.value at c.in_ok-fields.ensures.found) (rw c.deref-in-loop-implementation.ensures.value at c.in_ok-methods.ensures.found)) c.loop-implementation.invariant.1)
