use Rattle.std.proofs.Common.{arith}
use Rattle.arc_parse.proofs.Variables.{read_more_variables, read_variables}
use Rattle.arc_form.proofs.Joining.{all_push}
use Rattle.arc_parse.proofs.variable.variables.Goals as goal

pub returns-clause-gives : goal.returns-clause-gives
returns-clause-gives c = grind (arith, read_variables, read_more_variables, all_push)

pub variables-preserved : goal.variables-preserved
variables-preserved c = grind (arith, read_variables, read_more_variables, all_push)

pub variables-init : goal.variables-init
variables-init c = grind (arith, read_variables, read_more_variables, all_push)

pub returns-in_err-next-clause-gives : goal.returns-in_err-next-clause-gives
returns-in_err-next-clause-gives c = grind (arith, read_variables, read_more_variables, all_push)
