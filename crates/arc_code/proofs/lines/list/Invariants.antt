use Rattle.std.proofs.Common.{take, Ok}
use Rattle.arc_code.specs.CountedDevices.{failures_of, held_by}
use Rattle.arc_code.specs.WrittenBytes.{Written}
use Rattle.arc_code.specs.Listing.{listing}
use Rattle.arc_code.proofs.lines.list.Given as goal

abbrev pub invariant-loop-number : goal.invariant-loop-number
invariant-loop-number g l =
    Written (Ok tt) (listing (take l.number l.code.instrs.items)) (held_by g.W.Output.contents l.fn.writer) (held_by g.W.Output.contents l.writer) (failures_of l.fn.writer) (failures_of l.writer) (Unit {0})
