use Rattle.arc_form.proofs.Joining.{all_push}
use Rattle.arc_parse.specs.private.Given.{next_typed_on}
use Rattle.std.proofs.Common.{arith}
use Rattle.arc_parse.proofs.method.next_typed.Goals as goal

pub returns-clause-gives : goal.returns-clause-gives
unfolding next_typed_on
returns-clause-gives c = grind (arith, all_push)
