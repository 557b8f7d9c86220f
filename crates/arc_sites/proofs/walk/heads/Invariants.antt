use Rattle.std.proofs.Common.{◌≡◌, flat_map, drop}
use Rattle.arc_ast.specs.Tree.{head_trees}
use Rattle.arc_sites.specs.Sites.{InInterface, Declared, site}
use Rattle.arc_sites.specs.FoundViolations.{found_from}
use Rattle.arc_sites.proofs.walk.heads.Given as goal

-- the rules stay the same, and what is found so far and at the rest is found at all
abbrev pub invariant-loop-head : goal.invariant-loop-head
invariant-loop-head g l = (g.V.Visitor.violations l.visitor ≡ g.V.Visitor.violations l.initial.visitor) × (found_from (g.V.Visitor.violations l.initial.visitor) (g.V.Visitor.found l.initial.visitor) (flat_map (λ h. site (InInterface l.interface.name.items) (Declared h)) (head_trees l.all)) ≡ found_from (g.V.Visitor.violations l.initial.visitor) (g.V.Visitor.found l.visitor) (flat_map (λ h. site (InInterface l.interface.name.items) (Declared h)) (head_trees (drop l.head-index l.all))))
