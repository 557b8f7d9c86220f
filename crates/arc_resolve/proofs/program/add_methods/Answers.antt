use Rattle.std.proofs.Common.{option_map}
use Rattle.arc_class.specs.Table.{number_of_class}
use Rattle.arc_scope.specs.Views.{known_in, seen}
use Rattle.arc_resolve.proofs.MethodResolution.{method_turn, method_end}
use Rattle.arc_resolve.proofs.program.add_methods.Goals as goal

pub loop-one-preserved : goal.loop-one-preserved
loop-one-preserved c = λ others.
    let table = c.args.table.now in
    method_turn (known_in table) (option_map number_of_class c.args.class) c.args.methods.now c.loop-one.one-index c.one-item.result c.deref.result.now c.deref-in-loop-one.result.now (seen table c.in_method-visible.result) c.in_ok-function.field-0 c.loop-one.all.items c.keep.new.all.items others _
    c.loop-one-test.true c.one-item.is (c.in_method-visible.ensures table) c.deref.ensures.value c.deref-in-loop-one.ensures.value c.in_ok-function.ensures c.in_ok-keep.ensures.items (c.loop-one.invariant others)

pub returns : goal.returns
returns c = λ others.
    method_end (known_in c.args.table.now) (option_map number_of_class c.args.class) c.args.methods.now c.loop-one.one-index c.loop-one.all.items others _ c.loop-one-test.false (c.loop-one.invariant others)
