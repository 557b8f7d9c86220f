-- A run of code, and what it printed.
use Rattle.std.specs.Prelude.{◌⊎◌, ℕ, suc, ◌<◌, List, ◌++◌, Option, None, Some, Result, Ok, Err}
use Rattle.std.specs.Io.KnownBytes.{Appends}
use Rattle.arc_spec.specs.declared.event.Event.{Event}
use Rattle.arc_spec.specs.Correctness.{IsPrefix}
use Rattle.arc_code.specs.declared.code.IoFault.{IoFault}
use Rattle.arc_code.specs.declared.code.IoFault.TheVariants.{Read, Write}
use Rattle.arc_code.specs.CodeSteps.{Program, seen}
use Rattle.arc_machine.specs.declared.stop.Stop.{Stop}
use Rattle.arc_machine.specs.declared.stop.Stop.TheVariants.{StepsUsed}
use Rattle.arc_steps.specs.Steps.{bytes_of}
use Rattle.arc_turns.specs.Runs.{Leaves}
use Rattle.arc_tool.specs.declared.lines.Left.{Left}
use Rattle.arc_tool.specs.declared.lines.Left.TheVariants.{Stopped, Unread}
use Rattle.arc_tool.specs.Progress.{run_of, WritesByte}
use Rattle.arc_tool.specs.SourceRun.{Follows, Within}

-- A run of the code, of at most so many steps, that was left so, and what it printed was written.
pub record Printed (code : Program) (steps : ℕ) (left : Left) (in0 in1 out0 out1 : Option (List ℕ)) : Type 0 where
  pub made : ℕ
  pub within : Within left made steps
  pub events : List Event
  pub follows : Follows code made left in0 in1 events
  pub writes : Appends out0 out1 (bytes_of events)

-- The writer failed in the step after these, one of those that were allowed: that step has a further byte to write, or reads one. What they printed was
-- written, and some first bytes of what that step prints.
pub record PrintedPart (code : Program) (steps : ℕ) (in0 in1 out0 out1 : Option (List ℕ)) : Type 0 where
  pub made : ℕ
  pub fewer : made < steps
  pub events : List Event
  pub follows : Follows code made (Stopped StepsUsed) in0 in1 events
  pub part : List ℕ
  pub writes : Appends out0 out1 (bytes_of events ++ part)
  pub writing : (rest : List ℕ) → Leaves in1 rest → WritesByte code part (run_of code (follows.taken ++ rest) made)
  pub begins : (rest : List ℕ) → Leaves in1 rest → IsPrefix (bytes_of events ++ part) (bytes_of (seen code (follows.taken ++ rest) (suc made)).trace)

-- what each answer says of the run; the writer failed in a step, or after the last one
abbrev pub RanCode : Program → (steps : ℕ) → Result Stop IoFault → (in0 in1 out0 out1 : Option (List ℕ)) → Type 0
RanCode code steps (Ok stop) i0 i1 o0 o1 = Printed code steps (Stopped stop) i0 i1 o0 o1
RanCode code steps (Err Read) i0 i1 o0 o1 = Printed code steps Unread i0 i1 o0 o1
RanCode code steps (Err Write) i0 i1 o0 o1 = PrintedPart code steps i0 i1 o0 o1 ⊎ ((stop : Stop) × Printed code steps (Stopped stop) i0 i1 o0 o1)

-- where the run stopped, what was printed is passed on; where the reader failed, it is as well, or the writer has failed, too
abbrev pub PassesPrinted : Result Stop IoFault → (passed_on writer_failed : Type 0) → Type 0
PassesPrinted (Ok stop) passed failed = passed
PassesPrinted (Err Read) passed failed = passed ⊎ failed
PassesPrinted (Err Write) passed failed = Unit {0}

-- the device that failed, if one did
abbrev pub failed_device : Result Stop IoFault → Option IoFault
failed_device (Ok stop) = None
failed_device (Err fault) = Some fault
