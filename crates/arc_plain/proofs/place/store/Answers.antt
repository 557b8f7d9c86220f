use Rattle.std.proofs.Common.{arith}
use Rattle.std.proofs.lemmas.Grind.{common_steps}
use Rattle.arc_plain.proofs.place.store.Goals as goal

pub returns-in-Local-clause-after : goal.returns-in-Local-clause-after
returns-in-Local-clause-after c = grind (arith, common_steps)

pub returns-in-Global-clause-after : goal.returns-in-Global-clause-after
returns-in-Global-clause-after c = grind (arith, common_steps)
