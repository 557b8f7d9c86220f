-- A run of a source's code, and what it says of the source.
use Rattle.std.specs.Prelude.{◌≡◌, ℕ, suc, ◌<◌, ◌≤◌, List, ◌++◌, Option, Some, None, ⊤}
use Rattle.std.specs.Io.KnownBytes.{Consumes}
use Rattle.arc_spec.specs.declared.event.Event.{Event}
use Rattle.arc_spec.specs.SmallSteps.{Reached}
use Rattle.arc_spec.specs.Correctness as correct
use Rattle.arc_spec.specs.Correctness.{Observation, IsPrefix}
use Rattle.arc_code.specs.CodeSteps.{Program, State, seen}
use Rattle.arc_machine.specs.declared.stop.Stop.TheVariants.{Ended, Fault, StepsUsed, NoHeap}
use Rattle.arc_turns.specs.Runs.{Leaves}
use Rattle.arc_source.specs.Accepted.{meant}
use Rattle.arc_tool.specs.declared.lines.Left.{Left}
use Rattle.arc_tool.specs.declared.lines.Left.TheVariants.{Stopped, Unread}
use Rattle.arc_tool.specs.CompiledCode.{Compiles}
use Rattle.arc_tool.specs.Progress.{run_of, Takes, MakesObject, ReadsByte}

-- the stop that is seen of a run that was left so, where it is over
abbrev pub stop_seen : Left → Option correct.Stop
stop_seen (Stopped (Ended n)) = Some (correct.Ends n)
stop_seen (Stopped (Fault f)) = Some (correct.Faults f)
stop_seen _ = None

-- how many of the steps that were allowed a run made that was left so: all, where they are used, and fewer where the next one had no room for an object or
-- broke
abbrev pub Within : Left → (made steps : ℕ) → Type 0
Within (Stopped StepsUsed) made steps = made ≡ steps
Within (Stopped NoHeap) made steps = made < steps
Within Unread made steps = made < steps
Within _ made steps = made ≤ steps

-- where there was no room for an object, the code goes on with one, and where the reader failed, with an instruction that reads
abbrev pub GoesOn : Left → Program → Reached State → Type 0
GoesOn (Stopped NoHeap) p r = MakesObject p r
GoesOn Unread p r = ReadsByte p r
GoesOn _ p r = ⊤

-- A run of so many steps of the code, which took some first bytes of the reader's known ones: whatever comes after these, it takes exactly these, shows these
-- events, and is over where it was left so.
pub record Follows (code : Program) (made : ℕ) (left : Left) (in0 in1 : Option (List ℕ)) (events : List Event) : Type 0 where
  pub taken : List ℕ
  pub reads : Consumes in0 in1 taken
  pub takes : (rest : List ℕ) → Leaves in1 rest → Takes code made taken rest
  pub shown : (rest : List ℕ) → Leaves in1 rest → seen code (taken ++ rest) made ≡ record { trace = events; stop = stop_seen left }
  pub goes_on : (rest : List ℕ) → Leaves in1 rest → GoesOn left code (run_of code (taken ++ rest) made)

-- what a run showed, with its stop, is what the program means to show; where it had none, these are the first events
abbrev pub Means : Option correct.Stop → List Event → Observation → Type 0
Means (Some s) events m = m ≡ record { trace = events; stop = Some s }
Means None events m = IsPrefix events m.trace

-- A run of the source's code, of at most so many steps, that was left so; whatever comes after the bytes that it took, its events and its stop are those of the
-- program's meaning on that input, or the first ones.
pub record SourceRun (source : List ℕ) (steps : ℕ) (left : Left) (in0 in1 : Option (List ℕ)) : Type 0 where
  pub code : Program
  pub compiled : Compiles source code
  pub made : ℕ
  pub within : Within left made steps
  pub events : List Event
  pub follows : Follows code made left in0 in1 events
  pub means : (rest : List ℕ) → Leaves in1 rest → Means (stop_seen left) events (meant compiled.program (follows.taken ++ rest) (suc made))
