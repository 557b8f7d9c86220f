use Rattle.std.proofs.Common.{option_map}
use Rattle.arc_judge.specs.Fault.{reported}
use Rattle.arc_scope.specs.Views.{known_in}
use Rattle.arc_judge.proofs.StatementViolations.{functions_turn}
use Rattle.arc_judge.proofs.body.judge_functions.Goals as goal

pub loop-one-preserved : goal.loop-one-preserved
loop-one-preserved c =
    functions_turn (known_in c.args.table.now) c.args.functions.now c.loop-one.one-index c.one-item.result (option_map reported c.loop-one.fault) (option_map reported c.in_ok-function.field-0) (option_map reported c.earlier-fault.result) _
    c.loop-one-test.true c.one-item.is c.in_ok-function.ensures c.earlier-fault.ensures c.loop-one.invariant
