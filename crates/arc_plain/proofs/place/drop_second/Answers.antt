use Rattle.std.proofs.Common.{arith, ◌≡◌, ◌+◌, ◌-◌, length}
use Rattle.arc_plain.proofs.SecondTemporaryRemoved.{second_follows}
use Rattle.arc_plain.proofs.place.drop_second.Goals as goal

pub returns-clause-second : goal.returns-clause-second
returns-clause-second c =
    let before = c.args.progress.now.frame.temporaries in
    let i = c.len-count.result - 2 in
    let count : length before.items ≡ i + 2 = omega (arith, c.len-count.ensures, before.ok.0, c.if-count-lt2.false) in
    second_follows before.items c.remove.new.self.items i c.remove.result count c.remove.ensures.value c.remove.ensures.items
