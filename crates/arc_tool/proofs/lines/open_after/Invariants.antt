use Rattle.std.proofs.Common.{◌≡◌, drop}
use Rattle.arc_tool.specs.TraceLines.{open_after}
use Rattle.arc_tool.proofs.lines.open_after.Given as goal

abbrev pub invariant-loop-event : goal.invariant-loop-event
invariant-loop-event l = open_after l.line_is_open (drop l.event-index l.events) ≡ open_after l.begun l.events
