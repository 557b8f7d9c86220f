use Rattle.std.proofs.Common.{option_map}
use Rattle.arc_judge.specs.Fault.{reported}
use Rattle.arc_judge.proofs.GlobalViolations.{globals_turn}
use Rattle.arc_judge.proofs.global.judge_globals.Goals as goal

pub loop-global-preserved : goal.loop-global-preserved
loop-global-preserved c =
    globals_turn c.args.globals.now c.loop-global.global-index c.global-item.result (option_map reported c.loop-global.fault) (option_map reported c.judge_global.result) (option_map reported c.earlier-fault.result) _ c.loop-global-test.true c.global-item.is c.judge_global.ensures c.earlier-fault.ensures c.loop-global.invariant
