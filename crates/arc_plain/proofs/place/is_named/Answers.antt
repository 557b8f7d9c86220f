use Rattle.std.proofs.Common.{arith}
use Rattle.std.proofs.lemmas.Grind.{common_steps}
use Rattle.arc_plain.proofs.place.is_named.Goals as goal

pub returns-then-has_name-4 : goal.returns-then-has_name-4
returns-then-has_name-4 c = grind (arith, common_steps)

pub returns-then-has_name-2 : goal.returns-then-has_name-2
returns-then-has_name-2 c = grind (arith, common_steps)
