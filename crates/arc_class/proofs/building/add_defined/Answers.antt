use Rattle.std.proofs.Common.{arith}
use Rattle.std.proofs.lemmas.Grind.{common_steps}
use Rattle.arc_class.proofs.building.add_defined.Goals as goal

pub loop-implementation-preserved : goal.loop-implementation-preserved
loop-implementation-preserved c = grind (arith, common_steps)

pub returns : goal.returns
returns c = grind (arith, common_steps)
