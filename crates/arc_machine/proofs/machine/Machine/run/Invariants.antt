use Rattle.std.proofs.Common.{◌-◌, ◌^◌, ◌≡◌, ◌<◌, ◌≤◌}
use Rattle.arc_code.specs.Attempts.{HasFailedToRead, HasFailedToWrite}
use Rattle.arc_code.specs.CountedDevices.{failures_of, inner_of, left_in, held_by}
use Rattle.arc_steps.specs.declared.answer.Answer.TheVariants as answer
use Rattle.arc_turns.proofs.RunExtendedByStep.{Turned}
use Rattle.arc_machine.proofs.machine.Machine.run.Given as goal

abbrev pub invariant-loop-turns : goal.invariant-loop-turns
invariant-loop-turns g l =
    record {
      few : l.turns ≤ l.steps;
      going : l.fn.self.answer ≡ answer.Going;
      turned : Turned g.S.Store.out g.S.Store.stock g.S.Store.refuses l.fn.self l.self-inside.engine
          (left_in g.R.Input.remaining l.fn.reader) (left_in g.R.Input.remaining l.reader)
          (held_by g.W.Output.contents l.fn.writer) (held_by g.W.Output.contents l.writer)
          (failures_of l.fn.reader) (failures_of l.reader) (failures_of l.fn.writer) (failures_of l.writer) l.turns
          (HasFailedToRead g.R.Input.reads (inner_of l.reader)) (HasFailedToWrite g.W.Output.writes g.W.Output.flushes (inner_of l.writer));
      none : l.turns ≡ 0 → (l.self-inside.engine ≡ l.fn.self) × (l.reader ≡ l.fn.reader) × (l.writer ≡ l.fn.writer);
      room : 0 < l.turns → l.fn.self.steps < 2 ^ 64 - 1;
    }

abbrev pub decreases-loop-turns : goal.decreases-loop-turns
decreases-loop-turns g l = l.steps - l.turns
