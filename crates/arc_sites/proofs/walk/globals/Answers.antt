use Rattle.std.proofs.Common.{arith}
use Rattle.std.proofs.lemmas.Grind.{common_steps}
use Rattle.arc_sites.proofs.walk.globals.Goals as goal

pub loop-global-preserved : goal.loop-global-preserved
loop-global-preserved g c = grind (arith, common_steps)

pub returns-clause-found : goal.returns-clause-found
returns-clause-found g c = grind (arith, common_steps)
