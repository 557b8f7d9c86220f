use Rattle.std.proofs.Common.{◌≡◌, flat_map, drop}
use Rattle.arc_ast.specs.Tree.{interface_trees}
use Rattle.arc_sites.specs.Sites.{interface_sites}
use Rattle.arc_sites.specs.FoundViolations.{found_from}
use Rattle.arc_sites.proofs.walk.interfaces.Given as goal

-- the rules stay the same, and what is found so far and at the rest is found at all
abbrev pub invariant-loop-interface : goal.invariant-loop-interface
invariant-loop-interface g l = (g.V.Visitor.violations l.visitor ≡ g.V.Visitor.violations l.initial.visitor) × (found_from (g.V.Visitor.violations l.initial.visitor) (g.V.Visitor.found l.initial.visitor) (flat_map interface_sites (interface_trees l.all)) ≡ found_from (g.V.Visitor.violations l.initial.visitor) (g.V.Visitor.found l.visitor) (flat_map interface_sites (interface_trees (drop l.interface-index l.all))))
