use Rattle.std.proofs.Common.{arith}
use Rattle.std.proofs.lemmas.Grind.{common_steps}
use Rattle.arc_spec.proofs.number.combine.Goals as goal

pub returns-in-ShiftRight : goal.returns-in-ShiftRight
returns-in-ShiftRight c = grind (arith, common_steps)
