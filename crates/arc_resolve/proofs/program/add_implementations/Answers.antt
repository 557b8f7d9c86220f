use Rattle.std.proofs.Common.{option_map}
use Rattle.arc_class.specs.Table.{number_of_class}
use Rattle.arc_scope.specs.Views.{known_in}
use Rattle.arc_resolve.proofs.MethodResolution.{implementation_turn, implementation_end}
use Rattle.arc_resolve.proofs.program.add_implementations.Goals as goal

pub loop-one-preserved : goal.loop-one-preserved
loop-one-preserved c =
    implementation_turn (known_in c.args.table.now) c.args.implementations.now c.loop-one.one-index c.one-item.result c.deref.result.now (option_map number_of_class c.objc_get_class-class.result) c.deref-in-loop-one.result.now c.loop-one.all.items c.add_methods.new.all.items _
    c.loop-one-test.true c.one-item.is c.deref.ensures.value c.objc_get_class-class.ensures c.deref-in-loop-one.ensures.value c.in_ok-add_methods.ensures c.loop-one.invariant

pub returns : goal.returns
returns c = implementation_end (known_in c.args.table.now) c.args.implementations.now c.loop-one.one-index c.args.all.now.items c.loop-one.all.items c.loop-one-test.false c.loop-one.invariant
