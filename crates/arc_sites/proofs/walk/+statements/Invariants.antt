use Rattle.std.proofs.Common.{◌≡◌, drop}
use Rattle.arc_ast.specs.Tree.{stmt_trees}
use Rattle.arc_sites.specs.Sites.{all_sites}
use Rattle.arc_sites.specs.FoundViolations.{enclosing_of, found_from}
use Rattle.arc_sites.proofs.walk.+statements.Given as goal

-- the rules stay the same, and what is found so far and at the rest is found at all
abbrev pub invariant-statements-loop-stmt : goal.invariant-statements-loop-stmt
invariant-statements-loop-stmt g l = (g.V.Visitor.violations l.visitor ≡ g.V.Visitor.violations l.initial.visitor) × (found_from (g.V.Visitor.violations l.initial.visitor) (g.V.Visitor.found l.initial.visitor) (all_sites (enclosing_of l.enclosing) (stmt_trees l.all))
    ≡ found_from (g.V.Visitor.violations l.initial.visitor) (g.V.Visitor.found l.visitor) (all_sites (enclosing_of l.enclosing) (stmt_trees (drop l.stmt-index l.all))))
