use Rattle.std.proofs.Common.{arith}
use Rattle.std.proofs.lemmas.Grind.{common_steps}
use Rattle.arc_lower.proofs.LoweringCorrect.{performs}
use Rattle.arc_lower.proofs.lower.lower.Goals as goal

pub returns-clause-exact : goal.returns-clause-exact
returns-clause-exact c = grind (arith, common_steps)

pub returns-clause-performs : goal.returns-clause-performs
returns-clause-performs c = performs _ _ (returns-clause-exact c)
