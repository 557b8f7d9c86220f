use Rattle.std.proofs.Common.{arith}
use Rattle.std.proofs.lemmas.Grind.{common_steps}
use Rattle.arc_class.proofs.by_name.make_part.Goals as goal

pub returns-in_ok-push-clause-entries : goal.returns-in_ok-push-clause-entries
returns-in_ok-push-clause-entries c = grind (arith, common_steps)

pub returns-in_ok-push-clause-placed : goal.returns-in_ok-push-clause-placed
returns-in_ok-push-clause-placed c = grind (arith, common_steps)
