-- What a run that is shown in lines did, step by step, as private functions speak of it.
use Rattle.std.specs.Prelude.{◌≡◌, ℕ, suc, ◌+◌, ◌<◌, List, [], ◌++◌, Bool, false, nat_eq, if◌then◌else◌, Option, Result, Ok, Err, ⊤}
use Rattle.arc_spec.specs.declared.event.Event.{Event}
use Rattle.arc_code.specs.declared.code.IoFault.{IoFault}
use Rattle.arc_code.specs.declared.code.IoFault.TheVariants.{Read}
use Rattle.arc_code.specs.CodeSteps.{Program, seen}
use Rattle.arc_code.specs.WrittenBytes.{Written, WrittenAndFlushed}
use Rattle.arc_machine.specs.declared.stop.Stop.{Stop}
use Rattle.arc_turns.specs.Runs.{Leaves}
use Rattle.arc_steps.specs.Views.{Seen}
use Rattle.arc_tool.specs.declared.lines.Left.{Left}
use Rattle.arc_tool.specs.declared.lines.Left.TheVariants.{Stopped, Unread}
use Rattle.arc_tool.specs.declared.run.ToolFault.{ToolFault}
use Rattle.arc_tool.specs.declared.run.ToolFault.TheVariants.{Io}
use Rattle.arc_tool.specs.TraceLines.{events_text, end_text, open_after}
use Rattle.arc_tool.specs.SourceRun.{Follows, Within}
use Rattle.arc_tool.specs.TraceAnswers.{WritesUpTo}

-- the events that a machine has of a step, where it has made one since it had made so many
abbrev pub new_events : {S : Type 0} → Seen S → (before : ℕ) → List Event
new_events m before = if nat_eq m.steps before then [] else m.events

-- the reader's failures rose by one where it failed, and else they are the same
abbrev pub Reads : Left → (reads0 reads1 : ℕ) → (reader_failed : Type 0) → Type 0
Reads Unread r0 r1 failed = (r1 ≡ r0 + 1) × failed
Reads (Stopped stop) r0 r1 failed = r1 ≡ r0

-- Such a run of at most so many steps, whose events were written in lines, of which the last one may be open.
pub record Followed (code : Program) (names : List (List ℕ)) (steps : ℕ) (left : Left) (begun : Bool) (in0 in1 out0 out1 : Option (List ℕ)) (reads0 reads1 writes0 writes1 : ℕ) (reader_failed : Type 0) : Type 0 where
  pub made : ℕ
  pub events : List Event
  pub within : Within left made steps
  pub follows : Follows code made left in0 in1 events
  pub opens : begun ≡ open_after false events
  pub written : Written (Ok tt) (events_text names false events) out0 out1 writes0 writes1 ⊤
  pub reader : Reads left reads0 reads1 reader_failed

-- Such a run, in which the writer failed within the lines of the last step's events: those of the steps before it were written whole, and of its own some first
-- bytes and not all. No further step was made.
pub record Interrupted (code : Program) (names : List (List ℕ)) (steps : ℕ) (fault : IoFault) (in0 in1 out0 out1 : Option (List ℕ)) (writes0 writes1 : ℕ) (writer_failed : Type 0) : Type 0 where
  pub made : ℕ
  pub left : Left
  pub earlier : List Event
  pub last : List Event
  pub within : made < steps
  pub last_made : Within left (suc made) (suc made)
  pub follows : Follows code (suc made) left in0 in1 (earlier ++ last)
  pub shown : (rest : List ℕ) → Leaves in1 rest → (seen code (follows.taken ++ rest) made).trace ≡ earlier
  pub held : Option (List ℕ)
  pub writes : ℕ
  pub whole : Written (Ok tt) (events_text names false earlier) out0 held writes0 writes ⊤
  pub part : Written (Err fault) (events_text names (open_after false earlier) last) held out1 writes writes1 writer_failed

-- The end of a text was written and passed on, and the answer is the run's; or the writer failed, and some first bytes of it were written, or all before the
-- flush. Where the reader failed before, that is the answer, whatever the writer does.
abbrev pub EndsTrace : Left → (begun : Bool) → Result Stop ToolFault → (out0 out1 : Option (List ℕ)) → (writes0 writes1 : ℕ) → (writer_failed : Type 0) → Type 0
EndsTrace (Stopped stop) begun (Ok answer) o0 o1 w0 w1 failed = (answer ≡ stop) × WrittenAndFlushed (Ok tt) (end_text begun (Stopped stop)) o0 o1 w0 w1 failed
EndsTrace (Stopped stop) begun (Err (Io f)) o0 o1 w0 w1 failed = WrittenAndFlushed (Err f) (end_text begun (Stopped stop)) o0 o1 w0 w1 failed
EndsTrace Unread begun (Err (Io Read)) o0 o1 w0 w1 failed = WritesUpTo (end_text begun Unread) o0 o1 w0 w1 failed
EndsTrace _ begun _ o0 o1 w0 w1 failed = ⊥
