use Rattle.std.proofs.Common.{option_map}
use Rattle.arc_class.specs.Table.{number_of_class}
use Rattle.arc_judge.specs.Fault.{reported}
use Rattle.arc_scope.specs.Views.{known_in}
use Rattle.arc_judge.proofs.MethodViolations.{methods_turn}
use Rattle.arc_judge.proofs.method.methods.Goals as goal

pub loop-one-preserved : goal.loop-one-preserved
loop-one-preserved c =
    methods_turn (known_in c.args.table.now) (option_map number_of_class c.args.class) c.args.all.now c.loop-one.one-index c.one-item.result (option_map reported c.loop-one.fault) (option_map reported c.in_ok-method.field-0) (option_map reported c.earlier-fault.result) _
    c.loop-one-test.true c.one-item.is c.in_ok-method.ensures c.earlier-fault.ensures c.loop-one.invariant
