use Rattle.std.proofs.Common.{◌≡◌, map}
use Rattle.arc_code.specs.CountedDevices.{failures_of, left_in, held_by}
use Rattle.arc_steps.specs.declared.answer.Answer.TheVariants as answer
use Rattle.arc_tool.specs.CompiledCode.{bytes_of_name}
use Rattle.arc_tool.proofs.StepEventsWritten.{Shows}
use Rattle.arc_tool.proofs.trace.follow.Given as goal

abbrev pub invariant-loop : goal.invariant-loop
invariant-loop g l =
    (l.machine.steps ≡ l.counter) × (l.machine.answer ≡ answer.Going) × (failures_of l.reader ≡ failures_of l.fn.reader)
    × Shows g.S.Store.out l.fn.machine.program (map bytes_of_name l.classes) l.machine l.begun
    (left_in g.R.Input.remaining l.fn.reader) (left_in g.R.Input.remaining l.reader) (held_by g.W.Output.contents l.fn.writer) (held_by g.W.Output.contents l.writer) (failures_of l.fn.writer) (failures_of l.writer)
