use Rattle.std.proofs.Common.{◌≡◌, drop}
use Rattle.arc_ast.specs.Tree.{type_tree, variable_trees}
use Rattle.arc_sites.specs.Sites.{variable_sites}
use Rattle.arc_sites.specs.FoundViolations.{enclosing_of, found_from}
use Rattle.arc_sites.proofs.walk.variables.Given as goal

-- the rules stay the same, and what is found so far and at the rest is found at all
abbrev pub invariant-loop-variable : goal.invariant-loop-variable
invariant-loop-variable g l = (g.V.Visitor.violations l.visitor ≡ g.V.Visitor.violations l.initial.visitor) × (found_from (g.V.Visitor.violations l.initial.visitor) (g.V.Visitor.found l.initial.visitor) (variable_sites (enclosing_of l.enclosing) l.qualifiers (type_tree l.type_name) (variable_trees l.all))
    ≡ found_from (g.V.Visitor.violations l.initial.visitor) (g.V.Visitor.found l.visitor) (variable_sites (enclosing_of l.enclosing) l.qualifiers (type_tree l.type_name) (variable_trees (drop l.variable-index l.all))))
