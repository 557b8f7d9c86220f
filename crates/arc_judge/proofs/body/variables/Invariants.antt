use Rattle.std.proofs.Common.{◌≡◌, option_map, drop, take, length}
use Rattle.arc_ast.specs.Tree.{type_tree, variable_trees}
use Rattle.arc_class.specs.BrokenRules.{first, earlier_of}
use Rattle.arc_judge.specs.Fault.{reported}
use Rattle.arc_judge.specs.Rules.{broken_variables}
use Rattle.arc_scope.specs.Scopes.{with_variables}
use Rattle.arc_scope.specs.Views.{seen}
use Rattle.arc_judge.proofs.body.variables.Given as goal

-- what is reported so far and what is reported of the rest is reported of all, and the outer variables are there still
abbrev pub invariant-loop-variable : goal.invariant-loop-variable
invariant-loop-variable l = record {
  fault : first (broken_variables (type_tree l.type_name) (seen l.table l.initial.visible) (variable_trees l.all)) ≡ earlier_of (option_map reported l.fault) (first (broken_variables (type_tree l.type_name) (seen l.table l.visible) (variable_trees (drop l.variable-index l.all))));
  scope : with_variables (type_tree l.type_name) (seen l.table l.initial.visible) (variable_trees l.all) ≡ with_variables (type_tree l.type_name) (seen l.table l.visible) (variable_trees (drop l.variable-index l.all));
  keeps : take (length l.initial.visible.bound.items) l.visible.bound.items ≡ l.initial.visible.bound.items;
}
