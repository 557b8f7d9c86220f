use Rattle.std.proofs.Common.{arith}
use Rattle.std.proofs.lemmas.Grind.{common_steps}
use Rattle.arc_judge.proofs.conversion.next_conversion.Goals as goal

pub returns-in-Gives : goal.returns-in-Gives
returns-in-Gives c = grind (arith, common_steps)
