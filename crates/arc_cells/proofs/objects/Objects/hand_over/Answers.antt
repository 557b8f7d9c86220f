use Rattle.std.proofs.Common.{arith}
use Rattle.std.proofs.lemmas.Grind.{common_steps}
use Rattle.arc_cells.proofs.objects.Objects.hand_over.Goals as goal

pub top-result-requires : goal.top-result-requires
top-result-requires c = grind (arith, common_steps)

pub returns : goal.returns
returns g c = grind (arith, common_steps)
