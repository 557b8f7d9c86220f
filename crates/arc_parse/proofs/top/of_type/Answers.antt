use Rattle.std.proofs.Common.{arith}
use Rattle.arc_parse.proofs.Globals.{read_of_type}
use Rattle.arc_parse.proofs.top.of_type.Goals as goal

pub returns-in_err-all-clause-gives : goal.returns-in_err-all-clause-gives
returns-in_err-all-clause-gives c = grind (arith, read_of_type)

pub returns-clause-gives : goal.returns-clause-gives
returns-clause-gives c = grind (arith, read_of_type)

pub returns-then-not-sees_name_and-clause-gives : goal.returns-then-not-sees_name_and-clause-gives
returns-then-not-sees_name_and-clause-gives c = grind (arith, read_of_type)

pub returns-in_err-function-clause-gives : goal.returns-in_err-function-clause-gives
returns-in_err-function-clause-gives c = grind (arith, read_of_type)
