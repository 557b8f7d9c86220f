use Rattle.std.proofs.Common.{arith}
use Rattle.std.proofs.lemmas.Grind.{common_steps}
use Rattle.arc_plain.proofs.place.push_frame.Goals as goal

pub returns-clause-below : goal.returns-clause-below
returns-clause-below c = grind (arith, common_steps)

pub returns-clause-world : goal.returns-clause-world
returns-clause-world c = grind (arith, common_steps)
