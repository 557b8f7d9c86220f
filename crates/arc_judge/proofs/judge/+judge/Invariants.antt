use Rattle.std.proofs.Common.{◌≡◌, ◌+◌, ◌*◌, ◌&&◌, false, max, option_map, drop}
use denote.Param.Weighed.{most}
use Rattle.arc_ast.specs.declared.tree.Expr.{size-Expr}
use Rattle.arc_ast.specs.Tree.{expr_trees}
use Rattle.arc_class.specs.BrokenRules.{first, earlier_of}
use Rattle.arc_judge.specs.Fault.{reported}
use Rattle.arc_scope.specs.Formats.{fits, wanted}
use Rattle.arc_judge.specs.private.ExpressionJudgements.{counted}
use Rattle.arc_judge.specs.Rules.{kinds, all_taken, broken_arguments}
use Rattle.arc_scope.specs.Views.{kinds_wanted, seen}
use Rattle.arc_judge.proofs.judge.+judge.Given as goal

-- the deepest of what is still to be judged, and in front of it what calls what
abbrev pub decreases-judge : goal.decreases-judge
decreases-judge l = 8 * goal.size-judge l

abbrev pub decreases-judge_unary : goal.decreases-judge_unary
decreases-judge_unary l = 8 * goal.size-judge_unary l + 1

abbrev pub decreases-judge_cast : goal.decreases-judge_cast
decreases-judge_cast l = 8 * goal.size-judge_cast l + 1

abbrev pub decreases-judge_arrow : goal.decreases-judge_arrow
decreases-judge_arrow l = 8 * goal.size-judge_arrow l + 1

abbrev pub decreases-judge_argument : goal.decreases-judge_argument
decreases-judge_argument l = 8 * goal.size-judge_argument l + 1

abbrev pub decreases-judge_arguments : goal.decreases-judge_arguments
decreases-judge_arguments l = 8 * goal.size-judge_arguments l + 2

abbrev pub decreases-judge_print : goal.decreases-judge_print
decreases-judge_print l = 8 * goal.size-judge_print l + 3

abbrev pub decreases-judge_super : goal.decreases-judge_super
decreases-judge_super l = 8 * goal.size-judge_super l + 3

abbrev pub decreases-judge_call : goal.decreases-judge_call
decreases-judge_call l = 8 * goal.size-judge_call l + 4

abbrev pub decreases-judge_assignment : goal.decreases-judge_assignment
decreases-judge_assignment l = 8 * max (size-Expr l.left.now) (size-Expr l.right.now) + 1

abbrev pub decreases-judge_update : goal.decreases-judge_update
decreases-judge_update l = 8 * max (size-Expr l.left.now) (size-Expr l.right.now) + 1

abbrev pub decreases-judge_choice : goal.decreases-judge_choice
decreases-judge_choice l = 8 * max (size-Expr l.test.now) (max (size-Expr l.first.now) (size-Expr l.second.now)) + 1

abbrev pub decreases-judge_send : goal.decreases-judge_send
decreases-judge_send l = 8 * max (size-Expr l.receiver.now) (most size-Expr l.arguments.now) + 3

-- what is reported so far and what is reported of the rest is reported of all
abbrev pub invariant-judge_arguments-loop-argument : goal.invariant-judge_arguments-loop-argument
invariant-judge_arguments-loop-argument l =
    let s = seen l.table l.visible in
    record {
      fit : fits (wanted l.format) (kinds s (expr_trees l.arguments)) ≡ (l.reported.fit && fits (wanted l.rest) (kinds s (expr_trees (drop l.argument-index l.arguments))));
      fault : first (broken_arguments s (kinds_wanted l.fn.passed) false (expr_trees l.arguments)) ≡ earlier_of (option_map reported l.reported.fault) (first (broken_arguments s (kinds_wanted l.parameters) false (expr_trees (drop l.argument-index l.arguments))));
      taken : counted l.fn.before (all_taken s (expr_trees l.arguments)) ≡ counted l.reported.taken (all_taken s (expr_trees (drop l.argument-index l.arguments)));
    }
