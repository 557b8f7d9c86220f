use Rattle.std.proofs.Common.{arith}
use Rattle.std.proofs.lemmas.Grind.{common_steps}
use Rattle.arc_form.proofs.reader.Reader.take.Goals as goal

pub returns-in_default-3-clause-taken : goal.returns-in_default-3-clause-taken
returns-in_default-3-clause-taken c = grind (arith, common_steps)
