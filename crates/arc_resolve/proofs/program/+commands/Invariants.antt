use Rattle.std.proofs.Common.{◌≡◌, ◌+◌, ◌*◌, max, drop, take, length}
use Rattle.arc_ast.specs.declared.tree.Stmt.{size-Stmt}
use Rattle.arc_ast.specs.Tree.{stmt_trees}
use Rattle.arc_resolve.specs.private.ResolvedNodes.{ahead_of}
use Rattle.arc_resolve.specs.SourceResolution.{resolved_stmts}
use Rattle.arc_scope.specs.Scopes.{scope_after_all}
use Rattle.arc_scope.specs.Views.{seen}
use Rattle.arc_resolve.proofs.program.+commands.Given as goal

-- the deepest of what is still to be resolved, and in front of it what calls what
abbrev pub decreases-command : goal.decreases-command
decreases-command l = 4 * goal.size-command l

abbrev pub decreases-scoped : goal.decreases-scoped
decreases-scoped l = 4 * goal.size-scoped l + 1

abbrev pub decreases-commands : goal.decreases-commands
decreases-commands l = 4 * goal.size-commands l + 1

abbrev pub decreases-block : goal.decreases-block
decreases-block l = 4 * goal.size-block l + 2

abbrev pub decreases-chosen_or_nothing : goal.decreases-chosen_or_nothing
decreases-chosen_or_nothing l = 4 * size-Stmt l.then.now + 2

abbrev pub decreases-chosen : goal.decreases-chosen
decreases-chosen l = 4 * max (size-Stmt l.then.now) (size-Stmt l.other.now) + 2

abbrev pub decreases-repeated : goal.decreases-repeated
decreases-repeated l = 4 * size-Stmt l.body.now + 2

abbrev pub decreases-turns : goal.decreases-turns
decreases-turns l = 4 * size-Stmt l.body.now + 2

abbrev pub decreases-stepped : goal.decreases-stepped
decreases-stepped l = 4 * max (size-Stmt l.beginning.now) (size-Stmt l.body.now) + 3

-- the commands so far and those of the rest are all, and the outer variables are there still
abbrev pub invariant-commands-loop-statement : goal.invariant-commands-loop-statement
invariant-commands-loop-statement l = record {
  commands : resolved_stmts (seen l.table l.initial.visible) (stmt_trees l.statements) ≡ ahead_of l.all.items (resolved_stmts (seen l.table l.visible) (stmt_trees (drop l.statement-index l.statements)));
  scope : scope_after_all (seen l.table l.initial.visible) (stmt_trees l.statements) ≡ scope_after_all (seen l.table l.visible) (stmt_trees (drop l.statement-index l.statements));
  keeps : take (length l.initial.visible.bound.items) l.visible.bound.items ≡ l.initial.visible.bound.items;
}
