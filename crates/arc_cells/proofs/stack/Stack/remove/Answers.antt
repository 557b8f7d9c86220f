use Rattle.std.proofs.Common.{◌≡◌, suc, ◌+◌, ◌-◌, ◌<◌, ◌++◌, length, take, drop, ◌∙◌, ap, arith}
use Rattle.std.proofs.lemmas.List.{length-reverse}
use Rattle.arc_cells.proofs.StackTopFirst.{pile_remove}
use Rattle.arc_cells.proofs.stack.Stack.remove.Goals as goal

pub returns-clause-items : goal.returns-clause-items
returns-clause-items g c =
    let items = c.self.inside.items in
    let below = rw (← c.self.view_is) at c.requires in
    let within : c.args.depth < length items.items = omega (arith, below, length-reverse items.items) in
    let place = c.len.result - 1 - c.args.depth in
    let next : suc place ≡ place + 1 = omega arith in
    let all : place + c.args.depth + 1 ≡ length items.items = omega (arith, within, c.len.ensures) in
    pile_remove items.items _ place c.args.depth _ _ all (c.remove.ensures.items ∙ ap (λ d. take place items.items ++ drop d items.items) next) c.self.view_is
