-- What a call has done that compiles a source and shows its run in lines, by its answer.
use Rattle.std.specs.Prelude.{◌≡◌, ◌⊎◌, ℕ, suc, ◌<◌, List, ◌++◌, codes, false, Option, Result, Ok, Err}
use Rattle.std.specs.Io.KnownBytes.{Appends}
use Rattle.arc_spec.specs.declared.event.Event.{Event}
use Rattle.arc_code.specs.declared.code.IoFault.{IoFault}
use Rattle.arc_code.specs.declared.code.IoFault.TheVariants.{Read, Write}
use Rattle.arc_code.specs.CountedDevices.{AppendsLess, AppendsPart}
use Rattle.arc_code.specs.CodeSteps.{seen}
use Rattle.arc_code.specs.WrittenBytes.{WrittenAndFlushed}
use Rattle.arc_machine.specs.declared.stop.Stop.{Stop}
use Rattle.arc_turns.specs.Runs.{Leaves}
use Rattle.arc_tool.specs.declared.lines.Left.{Left}
use Rattle.arc_tool.specs.declared.lines.Left.TheVariants.{Stopped, Unread}
use Rattle.arc_tool.specs.declared.run.ToolFault.{ToolFault}
use Rattle.arc_tool.specs.declared.run.ToolFault.TheVariants.{Refused, Memory, Io}
use Rattle.arc_tool.specs.CompiledCode.{class_names}
use Rattle.arc_tool.specs.TraceLines.{trace_text, events_text, end_text, open_after}
use Rattle.arc_tool.specs.RefusalStages.{IsRefusal}
use Rattle.arc_tool.specs.Reports.{Names}
use Rattle.arc_tool.specs.SourceRun.{SourceRun}

-- the text of a run
abbrev pub text_of : {source : List ℕ} {steps : ℕ} (left : Left) {in0 in1 : Option (List ℕ)} → SourceRun source steps left in0 in1 → List ℕ
text_of left run = trace_text (class_names run.compiled.program.tree) run.events left

-- A run of the source's code, of at most so many steps, in which the writer failed within the lines of the last step's events: those of the steps before it
-- were written whole, and of its own some first bytes and not all. No further step was made.
pub record BrokenOff (source : List ℕ) (steps : ℕ) (in0 in1 out0 out1 : Option (List ℕ)) : Type 0 where
  pub before : ℕ
  pub fewer : before < steps
  pub left : Left
  pub run : SourceRun source (suc before) left in0 in1
  pub made : run.made ≡ suc before
  pub earlier : List Event
  pub last : List Event
  pub all : run.events ≡ earlier ++ last
  pub shown : (rest : List ℕ) → Leaves in1 rest → (seen run.code (run.follows.taken ++ rest) before).trace ≡ earlier
  pub held : Option (List ℕ)
  pub whole : Appends out0 held (events_text (class_names run.compiled.program.tree) false earlier)
  pub part : AppendsLess held out1 (events_text (class_names run.compiled.program.tree) (open_after false earlier) last)

-- a text was written and flushed; or where the writer failed some first bytes of it, or all before the flush
abbrev pub WritesUpTo : List ℕ → (out0 out1 : Option (List ℕ)) → (writes0 writes1 : ℕ) → (writer_failed : Type 0) → Type 0
WritesUpTo text o0 o1 w0 w1 failed = (answer : Result (Unit {0}) IoFault) × WrittenAndFlushed answer text o0 o1 w0 w1 failed

-- the text of a run's events, and that of how it was left, which comes after it
abbrev pub events_of : {source : List ℕ} {steps : ℕ} (left : Left) {in0 in1 : Option (List ℕ)} → SourceRun source steps left in0 in1 → List ℕ
events_of left run = events_text (class_names run.compiled.program.tree) false run.events

abbrev pub end_of : {source : List ℕ} {steps : ℕ} (left : Left) {in0 in1 : Option (List ℕ)} → SourceRun source steps left in0 in1 → List ℕ
end_of left run = end_text (open_after false run.events) left

-- What each answer says. The writer failed within the lines of the last step's events; or after the last step of a run that had stopped, or had made all the
-- steps that were allowed: then the lines of its events were written whole, and the writer failed in the line that says how it was left, or in the flush after
-- it. Where the reader failed, they were written whole as well, and that line too, or some first bytes of it.
abbrev pub AnsweredTrace : List ℕ → (steps : ℕ) → Result Stop ToolFault → (in0 in1 out0 out1 : Option (List ℕ)) → (writes0 writes1 : ℕ) → (writer_failed : Type 0) → Type 0
AnsweredTrace source steps (Err (Refused r)) i0 i1 o0 o1 w0 w1 failed = IsRefusal source r × (Names (codes "Memory") r → ⊥)
AnsweredTrace source steps (Err Memory) i0 i1 o0 o1 w0 w1 failed = Unit {0}
AnsweredTrace source steps (Err (Io Read)) i0 i1 o0 o1 w0 w1 failed =
    (run : SourceRun source steps Unread i0 i1) × (held : Option (List ℕ)) × Appends o0 held (events_of Unread run) × WritesUpTo (end_of Unread run) held o1 w0 w1 failed
AnsweredTrace source steps (Err (Io Write)) i0 i1 o0 o1 w0 w1 failed =
    BrokenOff source steps i0 i1 o0 o1 ⊎ ((stop : Stop) × (run : SourceRun source steps (Stopped stop) i0 i1) × (held : Option (List ℕ))
    × Appends o0 held (events_of (Stopped stop) run) × AppendsPart held o1 (end_of (Stopped stop) run))
AnsweredTrace source steps (Ok stop) i0 i1 o0 o1 w0 w1 failed =
    (run : SourceRun source steps (Stopped stop) i0 i1) × Appends o0 o1 (text_of (Stopped stop) run)
