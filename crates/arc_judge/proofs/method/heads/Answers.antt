use Rattle.std.proofs.Common.{option_map}
use Rattle.arc_judge.specs.Fault.{reported}
use Rattle.arc_judge.proofs.MethodViolations.{heads_turn}
use Rattle.arc_judge.proofs.method.heads.Goals as goal

pub loop-one-preserved : goal.loop-one-preserved
loop-one-preserved c =
    heads_turn c.args.all.now c.loop-one.one-index c.one-item.result (option_map reported c.loop-one.fault) (option_map reported c.head.result) (option_map reported c.earlier-fault.result) _ c.loop-one-test.true c.one-item.is c.head.ensures c.earlier-fault.ensures c.loop-one.invariant
