use Rattle.std.proofs.Common.{◌≡◌, drop, take, length}
use Rattle.arc_ast.specs.Tree.{type_tree, variable_trees}
use Rattle.arc_resolve.specs.private.ResolvedNodes.{ahead_of}
use Rattle.arc_resolve.specs.SourceResolution.{resolved_variables}
use Rattle.arc_scope.specs.Scopes.{with_variables}
use Rattle.arc_scope.specs.Views.{seen}
use Rattle.arc_resolve.proofs.program.variables.Given as goal

-- the commands so far and those of the rest are all, and the outer variables are there still
abbrev pub invariant-loop-variable : goal.invariant-loop-variable
invariant-loop-variable l = record {
  commands : resolved_variables (type_tree l.type_name) (seen l.table l.initial.visible) (variable_trees l.declared) ≡ ahead_of l.all.items (resolved_variables (type_tree l.type_name) (seen l.table l.visible) (variable_trees (drop l.variable-index l.declared)));
  scope : with_variables (type_tree l.type_name) (seen l.table l.initial.visible) (variable_trees l.declared) ≡ with_variables (type_tree l.type_name) (seen l.table l.visible) (variable_trees (drop l.variable-index l.declared));
  keeps : take (length l.initial.visible.bound.items) l.visible.bound.items ≡ l.initial.visible.bound.items;
}
