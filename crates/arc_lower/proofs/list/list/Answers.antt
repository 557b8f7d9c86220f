use Rattle.std.proofs.Common.{arith}
use Rattle.std.proofs.lemmas.Grind.{common_steps}
use Rattle.arc_lower.proofs.ActionLists.{raised_append}
use Rattle.arc_lower.proofs.list.list.Goals as goal

pub returns-clause-most : goal.returns-clause-most
returns-clause-most c = grind (arith, raised_append, common_steps)
