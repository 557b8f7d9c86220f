use Rattle.std.proofs.Common.{arith}
use Rattle.arc_resolve.proofs.InitialGlobals.{object_turn, object_pass, object_end}
use Rattle.arc_resolve.proofs.global.strong_globals.Goals as goal
use Rattle.arc_resolve.proofs.global.strong_globals.Goals.{then-names_objects, else-names_objects}

pub loop-global-preserved : goal.loop-global-preserved
loop-global-preserved c =
    let xs = c.args.globals.now in
    let i = c.loop-global.global-index in
    let x = c.global-item.result in
    let named = c.names_objects.result in
    elim c.if-names_objects.branch [
      | then-names_objects w ↦ record {
        all = object_turn xs i x named c.loop-global.count c.if-names_objects.count _ c.loop-global-test.true c.global-item.is c.names_objects.ensures w.if-names_objects.true w.count-is c.loop-global.invariant.all;
        few = omega (arith, w.count-is, c.loop-global.invariant.few);
      }
      | else-names_objects w ↦ record {
        all = object_pass xs i x named c.loop-global.count c.if-names_objects.count _ c.loop-global-test.true c.global-item.is c.names_objects.ensures w.if-names_objects.false w.count-is c.loop-global.invariant.all;
        few = omega (arith, w.count-is, c.loop-global.invariant.few);
      }
    ]

pub returns : goal.returns
returns c = object_end c.args.globals.now c.loop-global.global-index c.loop-global.count _ c.loop-global-test.false c.loop-global.invariant.all
