use Rattle.std.proofs.Common.{arith}
use Rattle.arc_parse.proofs.Signatures.{read_function}
use Rattle.arc_parse.proofs.function.function.Goals as goal

pub returns-clause-gives : goal.returns-clause-gives
returns-clause-gives c = grind (arith, read_function)

pub returns-in_err-body-clause-gives : goal.returns-in_err-body-clause-gives
returns-in_err-body-clause-gives c = grind (arith, read_function)

pub returns-in_err-parameters-clause-gives : goal.returns-in_err-parameters-clause-gives
returns-in_err-parameters-clause-gives c = grind (arith, read_function)
