use Rattle.std.proofs.Common.{arith}
use Rattle.std.proofs.lemmas.Grind.{common_steps}
use Rattle.arc_plain.proofs.object.begin_end.Goals as goal

pub returns : goal.returns
returns c = grind (arith, common_steps)
