-- What a call has done that compiles a source and runs it, by its answer.
use Rattle.std.specs.Prelude.{◌≡◌, ◌⊎◌, ℕ, suc, ◌+◌, ◌<◌, List, ◌++◌, codes, Option, Some, None, Result, Ok, Err}
use Rattle.std.specs.Io.KnownBytes.{Appends}
use Rattle.arc_spec.specs.Correctness.{IsPrefix}
use Rattle.arc_code.specs.declared.code.IoFault.{IoFault}
use Rattle.arc_code.specs.declared.code.IoFault.TheVariants.{Read, Write}
use Rattle.arc_code.specs.CodeSteps.{seen}
use Rattle.arc_machine.specs.declared.stop.Stop.{Stop}
use Rattle.arc_machine.specs.declared.stop.Stop.TheVariants.{StepsUsed}
use Rattle.arc_turns.specs.Runs.{Leaves}
use Rattle.arc_steps.specs.Steps.{bytes_of}
use Rattle.arc_tool.specs.declared.lines.Left.{Left}
use Rattle.arc_tool.specs.declared.lines.Left.TheVariants.{Stopped, Unread}
use Rattle.arc_tool.specs.declared.run.ToolFault.{ToolFault}
use Rattle.arc_tool.specs.declared.run.ToolFault.TheVariants.{Refused, Memory, Io}
use Rattle.arc_source.specs.Accepted.{meant}
use Rattle.arc_tool.specs.Progress.{run_of, WritesByte}
use Rattle.arc_tool.specs.RefusalStages.{IsRefusal}
use Rattle.arc_tool.specs.Reports.{Names}
use Rattle.arc_tool.specs.SourceRun.{SourceRun}

-- A run of the source's code, of at most so many steps, that was left so, and what it printed was written.
abbrev pub PrintsAll : List ℕ → (steps : ℕ) → Left → (in0 in1 out0 out1 : Option (List ℕ)) → Type 0
PrintsAll source steps left i0 i1 o0 o1 = (run : SourceRun source steps left i0 i1) × Appends o0 o1 (bytes_of run.events)

-- The writer failed in the step after those of a run, one of those that were allowed: that step has a further byte to write, or reads one. What they printed was
-- written, and some first bytes of what that step prints; and all of these are first ones of what the program means to print.
pub record PrintsPart (source : List ℕ) (steps : ℕ) (in0 in1 out0 out1 : Option (List ℕ)) : Type 0 where
  pub made : ℕ
  pub fewer : made < steps
  pub run : SourceRun source made (Stopped StepsUsed) in0 in1
  pub part : List ℕ
  pub writes : Appends out0 out1 (bytes_of run.events ++ part)
  pub writing : (rest : List ℕ) → Leaves in1 rest → WritesByte run.code part (run_of run.code (run.follows.taken ++ rest) made)
  pub begins : (rest : List ℕ) → Leaves in1 rest → IsPrefix (bytes_of run.events ++ part) (bytes_of (seen run.code (run.follows.taken ++ rest) (suc made)).trace)
  pub means : (rest : List ℕ) → Leaves in1 rest → IsPrefix (bytes_of run.events ++ part) (bytes_of (meant run.compiled.program (run.follows.taken ++ rest) (suc made)).trace)

-- what each answer says; the writer failed in a step, or after the last one, where what is held back is passed on
abbrev pub Answered : List ℕ → (steps : ℕ) → Result Stop ToolFault → (in0 in1 out0 out1 : Option (List ℕ)) → Type 0
Answered source steps (Err (Refused r)) i0 i1 o0 o1 = IsRefusal source r × (Names (codes "Memory") r → ⊥)
Answered source steps (Err Memory) i0 i1 o0 o1 = Unit {0}
Answered source steps (Err (Io Read)) i0 i1 o0 o1 = PrintsAll source steps Unread i0 i1 o0 o1
Answered source steps (Err (Io Write)) i0 i1 o0 o1 = PrintsPart source steps i0 i1 o0 o1 ⊎ ((stop : Stop) × PrintsAll source steps (Stopped stop) i0 i1 o0 o1)
Answered source steps (Ok stop) i0 i1 o0 o1 = PrintsAll source steps (Stopped stop) i0 i1 o0 o1

-- where nothing was run, nothing was read or written
abbrev pub Untouched : {R W : Type 0} → Result Stop ToolFault → (r0 r1 : R) (w0 w1 : W) → Type 0
Untouched (Ok stop) r0 r1 w0 w1 = Unit {0}
Untouched (Err (Io f)) r0 r1 w0 w1 = Unit {0}
Untouched (Err _) r0 r1 w0 w1 = (r1 ≡ r0) × (w1 ≡ w0)

-- Where a run stopped, what was written is passed on; where the reader failed, it is as well, or the writer has failed, too.
abbrev pub PassesOn : Result Stop ToolFault → (passed_on writer_failed : Type 0) → Type 0
PassesOn (Ok stop) passed failed = passed
PassesOn (Err (Io Read)) passed failed = passed ⊎ failed
PassesOn (Err _) passed failed = Unit {0}

-- the device that an answer blames, if it does
abbrev pub blamed : Result Stop ToolFault → Option IoFault
blamed (Err (Io fault)) = Some fault
blamed _ = None

-- A device is blamed only where it has failed and its failures rose by one; the reader's stay where the writer is blamed, and both devices' where none is.
abbrev pub Blames : Option IoFault → (reads0 reads1 writes0 writes1 : ℕ) → (reader_failed writer_failed : Type 0) → Type 0
Blames (Some Read) r0 r1 w0 w1 reader writer = (r1 ≡ r0 + 1) × reader
Blames (Some Write) r0 r1 w0 w1 reader writer = (r1 ≡ r0) × (w1 ≡ w0 + 1) × writer
Blames None r0 r1 w0 w1 reader writer = (r1 ≡ r0) × (w1 ≡ w0)
