use Rattle.std.proofs.Common.{arith}
use Rattle.std.proofs.lemmas.Grind.{common_steps}
use Rattle.arc_class.proofs.building.add_in_order.Goals as goal

pub loop-interface-preserved : goal.loop-interface-preserved
loop-interface-preserved c = grind (arith, common_steps)

pub returns : goal.returns
returns c = grind (arith, common_steps)
