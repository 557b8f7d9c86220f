use Rattle.std.proofs.lemmas.Grind.{common_steps}
use Rattle.std.proofs.Common.{arith}
use Rattle.arc_lower.proofs.ActionLists.{begins_within}
use Rattle.arc_lower.proofs.stub.append_stub.Goals as goal

pub slice_bounds-raise-start : goal.slice_bounds-raise-start
slice_bounds-raise-start c = grind (arith, begins_within, common_steps)

pub slice_bounds-raise-count : goal.slice_bounds-raise-count
slice_bounds-raise-count c = grind (arith, begins_within, common_steps)
