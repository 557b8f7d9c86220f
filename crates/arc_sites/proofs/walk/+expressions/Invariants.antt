use Rattle.std.proofs.Common.{◌≡◌, drop}
use Rattle.arc_ast.specs.Tree.{expr_trees}
use Rattle.arc_sites.specs.Sites.{arguments}
use Rattle.arc_sites.specs.FoundViolations.{enclosing_of, found_from}
use Rattle.arc_sites.proofs.walk.+expressions.Given as goal

-- the rules stay the same, and what is found so far and at the rest is found at all
abbrev pub invariant-arguments-loop-argument : goal.invariant-arguments-loop-argument
invariant-arguments-loop-argument g l = (g.V.Visitor.violations l.visitor ≡ g.V.Visitor.violations l.initial.visitor) × (found_from (g.V.Visitor.violations l.initial.visitor) (g.V.Visitor.found l.initial.visitor) (arguments (enclosing_of l.enclosing) (expr_trees l.all))
    ≡ found_from (g.V.Visitor.violations l.initial.visitor) (g.V.Visitor.found l.visitor) (arguments (enclosing_of l.enclosing) (expr_trees (drop l.argument-index l.all))))
