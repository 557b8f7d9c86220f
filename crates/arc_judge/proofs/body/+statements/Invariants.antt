use Rattle.std.proofs.Common.{◌≡◌, ◌+◌, ◌*◌, max, option_map, drop, take, length}
use Rattle.arc_ast.specs.declared.tree.Stmt.{size-Stmt}
use Rattle.arc_ast.specs.Tree.{stmt_trees}
use Rattle.arc_class.specs.BrokenRules.{first, earlier_of}
use Rattle.arc_judge.specs.Fault.{reported}
use Rattle.arc_judge.specs.Rules.{broken_stmts}
use Rattle.arc_scope.specs.Scopes.{scope_after_all}
use Rattle.arc_scope.specs.Views.{seen}
use Rattle.arc_judge.proofs.body.+statements.Given as goal

-- the deepest of what is still to be looked at, and in front of it what calls what
abbrev pub decreases-statement : goal.decreases-statement
decreases-statement l = 4 * goal.size-statement l

abbrev pub decreases-scoped : goal.decreases-scoped
decreases-scoped l = 4 * goal.size-scoped l + 1

abbrev pub decreases-statements : goal.decreases-statements
decreases-statements l = 4 * goal.size-statements l + 1

abbrev pub decreases-block : goal.decreases-block
decreases-block l = 4 * goal.size-block l + 2

abbrev pub decreases-stepped : goal.decreases-stepped
decreases-stepped l = 4 * max (size-Stmt l.beginning.now) (size-Stmt l.body.now) + 2

-- what is reported so far and what is reported of the rest is reported of all, and the outer variables are there still
abbrev pub invariant-statements-loop-one : goal.invariant-statements-loop-one
invariant-statements-loop-one l = record {
  fault : first (broken_stmts l.in_loop (seen l.table l.initial.visible) (stmt_trees l.all)) ≡ earlier_of (option_map reported l.fault) (first (broken_stmts l.in_loop (seen l.table l.visible) (stmt_trees (drop l.one-index l.all))));
  scope : scope_after_all (seen l.table l.initial.visible) (stmt_trees l.all) ≡ scope_after_all (seen l.table l.visible) (stmt_trees (drop l.one-index l.all));
  keeps : take (length l.initial.visible.bound.items) l.visible.bound.items ≡ l.initial.visible.bound.items;
}
