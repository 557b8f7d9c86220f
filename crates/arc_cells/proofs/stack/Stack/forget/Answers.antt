use Rattle.std.proofs.Common.{◌≤◌, length, arith}
use Rattle.std.proofs.lemmas.List.{length-reverse}
use Rattle.arc_cells.proofs.StackTopFirst.{pile_drop}
use Rattle.arc_cells.proofs.stack.Stack.forget.Goals as goal

pub returns-clause-items : goal.returns-clause-items
returns-clause-items g c =
    let items = c.self.inside.items in
    let below = rw (← c.self.view_is) at c.requires in
    let few : c.args.count ≤ length items.items = omega (arith, below, length-reverse items.items) in
    pile_drop items.items _ c.args.count _ _ _ (omega arith) few c.truncate.ensures.items c.self.view_is
