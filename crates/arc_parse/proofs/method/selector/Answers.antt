use Rattle.arc_parse.proofs.Given.{read_selector}
use Rattle.std.proofs.Common.{arith}
use Rattle.arc_parse.proofs.method.selector.Goals as goal

pub returns-in_err-typed_parts-clause-gives : goal.returns-in_err-typed_parts-clause-gives
returns-in_err-typed_parts-clause-gives c = grind (arith, read_selector)

pub returns-clause-gives : goal.returns-clause-gives
returns-clause-gives c = grind (arith, read_selector)
