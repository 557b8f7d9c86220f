use Rattle.std.proofs.Common.{◌≡◌, option_map, drop}
use Rattle.arc_ast.specs.Tree.{parameter_trees}
use Rattle.arc_class.specs.BrokenRules.{first, earlier_of}
use Rattle.arc_judge.specs.Fault.{reported}
use Rattle.arc_judge.specs.Rules.{broken_parameters}
use Rattle.arc_scope.specs.Scopes.{with_parameters}
use Rattle.arc_scope.specs.Views.{seen}
use Rattle.arc_judge.proofs.body.parameters.Given as goal

-- what is reported so far and what is reported of the rest is reported of all
abbrev pub invariant-loop-parameter : goal.invariant-loop-parameter
invariant-loop-parameter l = record {
  fault : first (broken_parameters (seen l.table l.initial.visible) (parameter_trees l.all)) ≡ earlier_of (option_map reported l.fault) (first (broken_parameters (seen l.table l.visible) (parameter_trees (drop l.parameter-index l.all))));
  scope : with_parameters (seen l.table l.initial.visible) (parameter_trees l.all) ≡ with_parameters (seen l.table l.visible) (parameter_trees (drop l.parameter-index l.all));
}
