use Rattle.std.proofs.Common.{arith}
use Rattle.arc_parse.proofs.Signatures.{read_counted}
use Rattle.arc_parse.proofs.parameter.counted_parameters.Goals as goal

pub returns-then-begins_texts-clause-gives : goal.returns-then-begins_texts-clause-gives
returns-then-begins_texts-clause-gives c = grind (arith, read_counted)

pub returns-else-begins_texts-clause-gives : goal.returns-else-begins_texts-clause-gives
returns-else-begins_texts-clause-gives c = grind (arith, read_counted)

pub returns-in_default-clause-gives : goal.returns-in_default-clause-gives
returns-in_default-clause-gives c = grind (arith, read_counted)
