use Rattle.std.proofs.Common.{arith}
use Rattle.std.proofs.lemmas.Grind.{common_steps}
use Rattle.arc_form.proofs.reader.Reader.directive.Goals as goal

pub returns-in_default-3-clause-gives : goal.returns-in_default-3-clause-gives
returns-in_default-3-clause-gives c = grind (arith, common_steps)
