use Rattle.std.proofs.Common.{◌≡◌, option_map, drop}
use Rattle.std.specs.List.{flat_map}
use Rattle.arc_ast.specs.Tree.{interface_trees}
use Rattle.arc_class.specs.BrokenRules.{first, earlier_of}
use Rattle.arc_judge.specs.Fault.{reported}
use Rattle.arc_judge.specs.private.ExpressionJudgements.{broken_interface}
use Rattle.arc_judge.proofs.method.judge_interfaces.Given as goal

-- what is reported so far and what is reported of the rest is reported of all
abbrev pub invariant-loop-one : goal.invariant-loop-one
invariant-loop-one l =
    first (flat_map broken_interface (interface_trees l.all)) ≡ earlier_of (option_map reported l.fault) (first (flat_map broken_interface (interface_trees (drop l.one-index l.all))))
