use Rattle.std.proofs.lemmas.Grind.{common_steps}
use Rattle.std.proofs.Common.{arith}
use Rattle.arc_parse.proofs.node.times.Goals as goal

pub returns-clause-made : goal.returns-clause-made
returns-clause-made c = grind (arith, common_steps)
