use Rattle.std.proofs.Common.{◌+◌, drop, flat_map, refl, ◌∙◌}
use Rattle.arc_ast.specs.Tree.{head_trees, field_trees, interface_trees, interface_tree}
use Rattle.arc_sites.specs.Sites.{InInterface, Declared, site, field_sites, interface_sites}
use Rattle.arc_sites.proofs.FoundIsFirst.{found_both, turn}
use Rattle.arc_sites.proofs.walk.interfaces.Goals as goal

pub loop-interface-preserved : goal.loop-interface-preserved
loop-interface-preserved g c =
    let i = c.interface-item.result in
    let rest = drop (c.loop-interface.interface-index + 1) c.args.all.now in (
      c.in_ok-heads.ensures.same ∙ c.in_ok-fields.ensures.same ∙ c.loop-interface.invariant.0,
      turn (g.V.Visitor.violations c.args.visitor.now) _ (λ xs. flat_map interface_sites (interface_trees xs)) (interface_sites (interface_tree c.interface-item.result)) (flat_map interface_sites (interface_trees rest)) c.args.all.now c.loop-interface.interface-index c.interface-item.result _ _ _
          refl c.loop-interface.invariant.0 c.loop-interface-test.true c.interface-item.is (found_both _ _ _ _ _ (field_sites (InInterface i.name.items) (field_trees i.fields.items)) (flat_map (λ h. site (InInterface i.name.items) (Declared h)) (head_trees i.methods.items)) c.in_ok-fields.ensures.same (rw c.deref.ensures.value at c.in_ok-fields.ensures.found) (rw c.deref-in-loop-interface.ensures.value at c.in_ok-heads.ensures.found)) c.loop-interface.invariant.1,
    )
