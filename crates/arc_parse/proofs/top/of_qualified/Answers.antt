use Rattle.std.proofs.Common.{arith}
use Rattle.arc_parse.proofs.Globals.{read_of_qualified}
use Rattle.arc_parse.proofs.top.of_qualified.Goals as goal

pub returns-clause-gives : goal.returns-clause-gives
returns-clause-gives c = grind (arith, read_of_qualified)

pub returns-in_err-all-clause-gives : goal.returns-in_err-all-clause-gives
returns-in_err-all-clause-gives c = grind (arith, read_of_qualified)
