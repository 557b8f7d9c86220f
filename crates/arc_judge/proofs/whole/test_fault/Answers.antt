use Rattle.std.proofs.Common.{ap, ◌∙◌, option_map}
use Rattle.arc_ast.specs.Tree.{expr_tree}
use Rattle.arc_class.specs.BrokenRules.{earlier_of}
use Rattle.arc_judge.specs.Fault.{reported}
use Rattle.arc_judge.specs.Rules.{unmet, broken_whole}
use Rattle.arc_judge.specs.Rules.{AValue}
use Rattle.arc_scope.specs.Views.{seen}
use Rattle.arc_judge.proofs.ExpressionViolations.{with_rule}
use Rattle.arc_judge.proofs.whole.test_fault.Goals as goal

pub returns : goal.returns
returns c =
    let s = seen c.args.table.now c.args.visible.now in
    let a = expr_tree c.args.expr.now in
    let j = c.judge_whole-judged.result in
    with_rule s (broken_whole s a) a (unmet AValue) (option_map reported j.fault) (option_map reported c.earlier.result) j.kind c.place.result c.judge_whole-judged.ensures.fault c.judge_whole-judged.ensures.kind c.place.ensures
    (c.earlier.ensures ∙ ap (earlier_of (option_map reported j.fault)) c.no_value.ensures)
