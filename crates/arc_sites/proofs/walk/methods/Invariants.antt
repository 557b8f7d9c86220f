use Rattle.std.proofs.Common.{◌≡◌, flat_map, drop}
use Rattle.arc_ast.specs.Tree.{method_trees}
use Rattle.arc_sites.specs.Sites.{method_sites}
use Rattle.arc_sites.specs.FoundViolations.{found_from}
use Rattle.arc_sites.proofs.walk.methods.Given as goal

-- the rules stay the same, and what is found so far and at the rest is found at all
abbrev pub invariant-loop-one : goal.invariant-loop-one
invariant-loop-one g l = (g.V.Visitor.violations l.visitor ≡ g.V.Visitor.violations l.initial.visitor) × (found_from (g.V.Visitor.violations l.initial.visitor) (g.V.Visitor.found l.initial.visitor) (flat_map (method_sites l.implementation.name.items) (method_trees l.all)) ≡ found_from (g.V.Visitor.violations l.initial.visitor) (g.V.Visitor.found l.visitor) (flat_map (method_sites l.implementation.name.items) (method_trees (drop l.one-index l.all))))
