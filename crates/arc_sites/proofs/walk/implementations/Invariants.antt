use Rattle.std.proofs.Common.{◌≡◌, flat_map, drop}
use Rattle.arc_ast.specs.Tree.{implementation_trees}
use Rattle.arc_sites.specs.Sites.{implementation_sites}
use Rattle.arc_sites.specs.FoundViolations.{found_from}
use Rattle.arc_sites.proofs.walk.implementations.Given as goal

-- the rules stay the same, and what is found so far and at the rest is found at all
abbrev pub invariant-loop-implementation : goal.invariant-loop-implementation
invariant-loop-implementation g l = (g.V.Visitor.violations l.visitor ≡ g.V.Visitor.violations l.initial.visitor) × (found_from (g.V.Visitor.violations l.initial.visitor) (g.V.Visitor.found l.initial.visitor) (flat_map implementation_sites (implementation_trees l.all)) ≡ found_from (g.V.Visitor.violations l.initial.visitor) (g.V.Visitor.found l.visitor) (flat_map implementation_sites (implementation_trees (drop l.implementation-index l.all))))
