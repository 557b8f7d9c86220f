use Rattle.std.proofs.Common.{arith}
use Rattle.std.proofs.lemmas.Grind.{common_steps}
use Rattle.arc_cells.proofs.stack.Stack.push.Goals as goal

pub returns-clause-len : goal.returns-clause-len
returns-clause-len g c = grind (arith, common_steps)

pub returns-clause-value : goal.returns-clause-value
returns-clause-value g c = grind (arith, common_steps)
