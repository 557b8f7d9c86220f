use Rattle.std.proofs.Common.{refl, option_map}
use Rattle.arc_ast.specs.Tree.{expr_tree}
use Rattle.arc_judge.specs.Fault.{reported}
use Rattle.arc_scope.specs.Views.{seen}
use Rattle.arc_judge.proofs.ExpressionViolations.{judges_whole}
use Rattle.arc_judge.proofs.whole.judge_whole.Goals as goal

pub returns : goal.returns
returns c =
    let j = c.judge-judged.result in
    judges_whole (seen c.args.table.now c.args.visible.now) (expr_tree c.args.expr.now) j (record { kind = j.kind; class = j.class; fault = c.earlier.result; taken = j.taken; unread = j.unread }) (option_map reported c.fault.result) (rw c.none.ensures at c.judge-judged.ensures) refl c.fault.ensures c.earlier.ensures
