use Rattle.std.proofs.Common.{◌≡◌, drop}
use Rattle.arc_ast.specs.Tree.{field_trees}
use Rattle.arc_sites.specs.Sites.{field_sites}
use Rattle.arc_sites.specs.FoundViolations.{enclosing_of, found_from}
use Rattle.arc_sites.proofs.walk.fields.Given as goal

-- the rules stay the same, and what is found so far and at the rest is found at all
abbrev pub invariant-loop-field : goal.invariant-loop-field
invariant-loop-field g l = (g.V.Visitor.violations l.visitor ≡ g.V.Visitor.violations l.initial.visitor) × (found_from (g.V.Visitor.violations l.initial.visitor) (g.V.Visitor.found l.initial.visitor) (field_sites (enclosing_of l.enclosing) (field_trees l.all)) ≡ found_from (g.V.Visitor.violations l.initial.visitor) (g.V.Visitor.found l.visitor) (field_sites (enclosing_of l.enclosing) (field_trees (drop l.field-index l.all))))
