use Rattle.std.proofs.Common.{option_map}
use Rattle.arc_judge.specs.Fault.{reported}
use Rattle.arc_judge.proofs.MethodViolations.{interfaces_turn}
use Rattle.arc_judge.proofs.method.judge_interfaces.Goals as goal

pub loop-one-preserved : goal.loop-one-preserved
loop-one-preserved c =
    interfaces_turn c.args.all.now c.loop-one.one-index c.one-item.result c.deref.result.now (option_map reported c.loop-one.fault) (option_map reported c.heads.result) (option_map reported c.earlier-fault.result) _ c.loop-one-test.true c.one-item.is c.deref.ensures.value c.heads.ensures c.earlier-fault.ensures c.loop-one.invariant
