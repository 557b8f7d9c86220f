use Rattle.std.proofs.Common.{arith}
use Rattle.std.proofs.lemmas.Grind.{common_steps}
use Rattle.arc_sites.proofs.walk.fields.Goals as goal

pub loop-field-preserved : goal.loop-field-preserved
loop-field-preserved g c = grind (arith, common_steps)

pub returns-clause-found : goal.returns-clause-found
returns-clause-found g c = grind (arith, common_steps)
