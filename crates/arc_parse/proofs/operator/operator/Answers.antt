use Rattle.std.proofs.Common.{arith}
use Rattle.arc_parse.proofs.Table.{takes_table}
use Rattle.arc_parse.proofs.operator.operator.Goals as goal

pub returns-in_default-of_token-clause-gives : goal.returns-in_default-of_token-clause-gives
returns-in_default-of_token-clause-gives c = grind (arith, takes_table)

pub returns-in-Some-of_token-clause-gives : goal.returns-in-Some-of_token-clause-gives
returns-in-Some-of_token-clause-gives c = grind (arith, takes_table)

pub returns-in_default-of_token-2-clause-gives : goal.returns-in_default-of_token-2-clause-gives
returns-in_default-of_token-2-clause-gives c = grind (arith, takes_table)
