use Rattle.arc_parse.proofs.Signatures.{read_parameters}
use Rattle.std.proofs.Common.{arith}
use Rattle.arc_parse.proofs.parameter.parameters.Goals as goal

pub returns-then-not-begins_qualified_type-clause-gives : goal.returns-then-not-begins_qualified_type-clause-gives
returns-then-not-begins_qualified_type-clause-gives c = grind (arith, read_parameters)
