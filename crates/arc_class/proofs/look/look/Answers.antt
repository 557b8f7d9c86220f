use Rattle.std.proofs.Common.{◌<◌, ◌≤◌, length, arith}
use Rattle.std.proofs.lemmas.Grind.{common_steps}
use Rattle.arc_class.proofs.KnownFunctions.{turn, few_bodies}
use Rattle.arc_class.proofs.look.look.Goals as goal

pub add-requires : goal.add-requires
add-requires c =
    let l : c.loop-function.function-index < length c.args.functions.now = c.loop-function-test.true in
    let b : c.loop-function.seen.bodies ≤ c.loop-function.function-index = few_bodies c.args.functions.now c.loop-function.function-index c.loop-function.seen l c.loop-function.invariant in
    grind (arith, common_steps)

pub loop-function-preserved : goal.loop-function-preserved
loop-function-preserved c = turn c.args.functions.now c.loop-function.function-index c.function-item.result c.loop-function.seen c.add.new.self c.loop-function-test.true c.function-item.is c.loop-function.invariant c.in_ok-add.ensures

pub returns : goal.returns
returns c = grind (arith, common_steps)
