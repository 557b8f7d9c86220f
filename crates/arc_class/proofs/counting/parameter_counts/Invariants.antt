use Rattle.std.proofs.Common.{◌≡◌, ◌≤◌, drop, map}
use Rattle.arc_ast.specs.Tree.{parameter_trees}
use Rattle.arc_class.specs.FunctionNames.{parameter_kinds}
use Rattle.arc_spec.specs.Sorts.{held_by, with_all, counts_of_kinds, total}
use Rattle.arc_class.proofs.counting.parameter_counts.Given as goal

-- those so far and those of the rest are all
abbrev pub invariant-loop-parameter : goal.invariant-loop-parameter
invariant-loop-parameter l = record {
  all : counts_of_kinds (parameter_kinds (parameter_trees l.parameters)) ≡ with_all l.counts (map held_by (parameter_kinds (parameter_trees (drop l.parameter-index l.parameters))));
  few : total l.counts ≤ l.parameter-index;
}
