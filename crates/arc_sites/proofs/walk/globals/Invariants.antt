use Rattle.std.proofs.Common.{◌≡◌, flat_map, drop}
use Rattle.arc_ast.specs.Tree.{global_trees}
use Rattle.arc_sites.specs.Sites.{InSource, Global, site}
use Rattle.arc_sites.specs.FoundViolations.{found_from}
use Rattle.arc_sites.proofs.walk.globals.Given as goal

-- the rules stay the same, and what is found so far and at the rest is found at all
abbrev pub invariant-loop-global : goal.invariant-loop-global
invariant-loop-global g l = (g.V.Visitor.violations l.visitor ≡ g.V.Visitor.violations l.initial.visitor) × (found_from (g.V.Visitor.violations l.initial.visitor) (g.V.Visitor.found l.initial.visitor) (flat_map (λ g. site InSource (Global g)) (global_trees l.all)) ≡ found_from (g.V.Visitor.violations l.initial.visitor) (g.V.Visitor.found l.visitor) (flat_map (λ g. site InSource (Global g)) (global_trees (drop l.global-index l.all))))
