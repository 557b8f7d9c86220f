use Rattle.std.proofs.Common.{◌≡◌, option_map, drop}
use Rattle.std.specs.List.{flat_map}
use Rattle.arc_ast.specs.Tree.{global_trees}
use Rattle.arc_class.specs.BrokenRules.{first, earlier_of}
use Rattle.arc_judge.specs.Fault.{reported}
use Rattle.arc_judge.specs.Rules.{broken_global}
use Rattle.arc_judge.proofs.global.judge_globals.Given as goal

-- what is reported so far and what is reported of the rest is reported of all
abbrev pub invariant-loop-global : goal.invariant-loop-global
invariant-loop-global l =
    first (flat_map broken_global (global_trees l.globals)) ≡ earlier_of (option_map reported l.fault) (first (flat_map broken_global (global_trees (drop l.global-index l.globals))))
