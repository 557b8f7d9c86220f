use Rattle.std.proofs.Common.{arith}
use Rattle.arc_parse.proofs.Signatures.{read_more_parameters}
use Rattle.arc_form.proofs.Joining.{all_push}
use Rattle.arc_grammar.proofs.Lists.{alls}
use Rattle.arc_parse.proofs.parameter.parameters_after.Goals as goal

pub parameters-init : goal.parameters-init
parameters-init c = grind (arith, read_more_parameters, all_push, alls)

pub returns-clause-gives : goal.returns-clause-gives
returns-clause-gives c = grind (arith, read_more_parameters, all_push, alls)

pub parameters-preserved : goal.parameters-preserved
parameters-preserved c = grind (arith, read_more_parameters, all_push, alls)

pub returns-in_err-next-clause-gives : goal.returns-in_err-next-clause-gives
returns-in_err-next-clause-gives c = grind (arith, read_more_parameters, all_push, alls)
