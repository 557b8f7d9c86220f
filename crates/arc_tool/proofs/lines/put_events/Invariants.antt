use Rattle.std.proofs.Common.{◌≡◌, ◌++◌, ℕ, List, drop, map, Ok}
use Rattle.arc_code.specs.CountedDevices.{failures_of, held_by}
use Rattle.arc_code.specs.WrittenBytes.{Written}
use Rattle.arc_tool.specs.CompiledCode.{bytes_of_name}
use Rattle.arc_tool.specs.TraceLines.{events_text}
use Rattle.arc_tool.proofs.lines.put_events.Given as goal

-- what was written, and what is still to be written, is the whole text
abbrev pub invariant-loop-event : goal.invariant-loop-event
invariant-loop-event g l =
    (text : List ℕ) × Written (Ok tt) text (held_by g.W.Output.contents l.fn.writer) (held_by g.W.Output.contents l.writer) (failures_of l.fn.writer) (failures_of l.writer) (Unit {0})
    × (text ++ events_text (map bytes_of_name l.classes) l.line_is_open (drop l.event-index l.events) ≡ events_text (map bytes_of_name l.classes) l.begun l.events)
