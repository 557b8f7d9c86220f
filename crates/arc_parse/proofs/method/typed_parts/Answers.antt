use Rattle.arc_parse.proofs.Given.{read_typed_parts, read_more_typed}
use Rattle.std.proofs.Common.{arith}
use Rattle.arc_parse.proofs.method.typed_parts.Goals as goal

pub parts-preserved : goal.parts-preserved
parts-preserved c = grind (arith, read_typed_parts, read_more_typed)

pub returns-clause-gives : goal.returns-clause-gives
returns-clause-gives c = grind (arith, read_typed_parts, read_more_typed)

pub parts-init : goal.parts-init
parts-init c = grind (arith, read_typed_parts, read_more_typed)

pub returns-in_err-next_typed-clause-gives : goal.returns-in_err-next_typed-clause-gives
returns-in_err-next_typed-clause-gives c = grind (arith, read_typed_parts, read_more_typed)

pub returns-in_err-next_typed-2-clause-gives : goal.returns-in_err-next_typed-2-clause-gives
returns-in_err-next_typed-2-clause-gives c = grind (arith, read_typed_parts, read_more_typed)
