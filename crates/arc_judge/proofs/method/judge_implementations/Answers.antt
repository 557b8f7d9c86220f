use Rattle.std.proofs.Common.{option_map}
use Rattle.arc_class.specs.Table.{number_of_class}
use Rattle.arc_judge.specs.Fault.{reported}
use Rattle.arc_scope.specs.Views.{known_in}
use Rattle.arc_judge.proofs.MethodViolations.{implementations_turn}
use Rattle.arc_judge.proofs.method.judge_implementations.Goals as goal

pub loop-one-preserved : goal.loop-one-preserved
loop-one-preserved c =
    implementations_turn (known_in c.args.table.now) c.args.all.now c.loop-one.one-index c.one-item.result c.deref.result.now (option_map number_of_class c.objc_get_class-class.result) c.deref-in-loop-one.result.now (option_map reported c.loop-one.fault) (option_map reported c.in_ok-methods.field-0) (option_map reported c.earlier-fault.result) _
    c.loop-one-test.true c.one-item.is c.deref.ensures.value c.objc_get_class-class.ensures c.deref-in-loop-one.ensures.value c.in_ok-methods.ensures c.earlier-fault.ensures c.loop-one.invariant
