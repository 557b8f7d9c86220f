use Rattle.arc_cells.proofs.StackTopFirst.{first_is}
use Rattle.arc_cells.proofs.stack.Stack.top.Goals as goal

pub returns : goal.returns
returns g c = first_is _ _ c.get.ensures
