use Rattle.std.proofs.Common.{arith}
use Rattle.std.proofs.lemmas.Grind.{common_steps}
use Rattle.arc_class.proofs.kept.first_functions.Goals as goal

pub loop-function-preserved : goal.loop-function-preserved
loop-function-preserved c = grind (arith, common_steps)
