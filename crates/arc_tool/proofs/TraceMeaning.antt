-- What the text of a traced run says of the meaning of the source.
use Rattle.std.proofs.Common.{◌≡◌, ℕ, suc, ◌+◌, List, ◌++◌, Bool, false, inl, inr, Option, Some, Result, Ok, Err, refl, sym, ap, subst, ◌∙◌, ⊎_elim}
use Rattle.std.specs.Io.KnownBytes.{Appends}
use Rattle.arc_code.specs.declared.code.IoFault.{IoFault}
use Rattle.arc_code.specs.declared.code.IoFault.TheVariants.{Read, Write}
use Rattle.arc_code.specs.CountedDevices.{AppendsLess, AppendsPart}
use Rattle.arc_code.specs.CodeSteps.{Program}
use Rattle.arc_code.specs.WrittenBytes.{Written, WrittenAndFlushed}
use Rattle.arc_code.proofs.WritesCompose.{then_written}
use Rattle.arc_machine.specs.declared.stop.Stop.{Stop}
use Rattle.arc_machine.specs.declared.stop.Stop.TheVariants as stop
use Rattle.arc_tool.specs.declared.lines.Left.{Left}
use Rattle.arc_tool.specs.declared.lines.Left.TheVariants.{Stopped, Unread}
use Rattle.arc_tool.specs.declared.refusal.Refusal.{Refusal}
use Rattle.arc_tool.specs.declared.run.ToolFault.{ToolFault}
use Rattle.arc_tool.specs.declared.run.ToolFault.TheVariants.{Refused, Memory, Io}
use Rattle.arc_tool.specs.CompiledCode.{CompilesNamed}
use Rattle.arc_tool.specs.TraceLines.{trace_text, events_text, end_text, open_after}
use Rattle.arc_tool.specs.RunAnswers as ran
use Rattle.arc_tool.specs.RunAnswers.{Untouched, Blames}
use Rattle.arc_tool.specs.RefusalStages.{IsRefusal}
use Rattle.arc_tool.specs.Reports.{Becomes}
use Rattle.arc_tool.specs.SourceRun.{SourceRun}
use Rattle.arc_tool.specs.private.TraceSteps.{Followed, Interrupted, EndsTrace}
use Rattle.arc_tool.specs.TraceAnswers.{AnsweredTrace, text_of, events_of, end_of}
use Rattle.arc_tool.proofs.RunMeaning.{source_run}

module _ (source : List ℕ) (p : Program) (names : List (List ℕ)) (compiled : CompilesNamed source p names) (steps : ℕ) (i0 i1 : Option (List ℕ)) where
  -- ---- the writer failed in the middle of the events

  module _ (o0 o1 : Option (List ℕ)) (w0 w1 : ℕ) (W : Type 0) where
    pub was_interrupted : (f : IoFault) → Interrupted p names steps f i0 i1 o0 o1 w0 w1 W → AnsweredTrace source steps (Err (Io f)) i0 i1 o0 o1 w0 w1 W
    was_interrupted Read run = absurd (let no = run.part.0 in cc)
    was_interrupted Write run = inl (record {
      before = run.made;
      fewer = run.within;
      left = run.left;
      run = source_run source p compiled.compiled (suc run.made) (suc run.made) run.left i0 i1 (run.earlier ++ run.last) run.last_made run.follows;
      made = refl;
      earlier = run.earlier;
      last = run.last;
      all = refl;
      shown = run.shown;
      held = run.held;
      whole = subst (λ n. Appends o0 run.held (events_text n false run.earlier)) compiled.named run.whole.0;
      part = subst (λ n. AppendsLess run.held o1 (events_text n (open_after false run.earlier) run.last)) compiled.named run.part.1;
    })

    -- a writer's failure is reported as its own
    pub interrupted_blamed : (f : IoFault) (r0 r1 : ℕ) (R : Type 0) → r1 ≡ r0 → Interrupted p names steps f i0 i1 o0 o1 w0 w1 W → Blames (Some f) r0 r1 w0 w1 R W
    interrupted_blamed Read r0 r1 R same run = absurd (let no = run.part.0 in cc)
    interrupted_blamed Write r0 r1 R same run = (same, run.part.2 ∙ ap (λ w. w + 1) run.whole.1, run.part.3)

  -- ---- the end of the text

  module _ (begun : Bool) (o0 o1 o2 : Option (List ℕ)) (r0 r1 w0 w1 w2 : ℕ) (R W : Type 0) where
    module _ (left : Left) (run : Followed p names steps left begun i0 i1 o0 o1 r0 r1 w0 w1 R) where
      -- what it is of the source
      abbrev source_runs : SourceRun source steps left i0 i1
      source_runs = source_run source p compiled.compiled steps run.made left i0 i1 run.events run.within run.follows

      abbrev front : List ℕ
      front = events_text names false run.events

      -- its lines, by the names of the source's classes, were written whole
      events_so : Appends o0 o1 (events_of left source_runs)
      events_so = subst (λ n. Appends o0 o1 (events_text n false run.events)) compiled.named run.written.0

      -- what holds of a text that ends as the lines left it holds of the end of the source's run
      end_so : (P : List ℕ → Type 0) → P (end_text begun left) → P (end_of left source_runs)
      end_so P = subst (λ b. P (end_text b left)) run.opens

      same_text : front ++ end_text begun left ≡ text_of left source_runs
      same_text = ap (λ b. front ++ end_text b left) run.opens ∙ ap (λ n. trace_text n run.events left) compiled.named

      all_text : Written (Ok tt) (end_text begun left) o1 o2 w1 w2 W → Appends o0 o2 (text_of left source_runs)
      all_text end = (subst (λ t. Written (Ok tt) t o0 o2 w0 w2 W) same_text (then_written (Ok tt) o0 o1 o2 w0 w1 w2 W front (end_text begun left) run.written end)).0

    pub ended : (left : Left) (r : Result Stop ToolFault) → Followed p names steps left begun i0 i1 o0 o1 r0 r1 w0 w1 R → EndsTrace left begun r o1 o2 w1 w2 W → AnsweredTrace source steps r i0 i1 o0 o2 w0 w2 W
    ended (Stopped t) (Ok s) run end = subst (λ x. AnsweredTrace source steps (Ok x) i0 i1 o0 o2 w0 w2 W) (sym end.0)
        (source_runs (Stopped t) run, all_text (Stopped t) run end.1)
    ended (Stopped t) (Err (Io Write)) run end = inr (t, source_runs (Stopped t) run, o1, events_so (Stopped t) run, end_so (Stopped t) run (AppendsPart o1 o2) end.1)
    ended (Stopped t) (Err (Io Read)) run end = absurd (let no = end.0 in cc)
    ended (Stopped t) (Err (Refused x)) run end = absurd end
    ended (Stopped t) (Err Memory) run end = absurd end
    ended Unread (Ok s) run end = absurd end
    ended Unread (Err (Io Write)) run end = absurd end
    ended Unread (Err (Io Read)) run end =
        let same = subst (λ w. WrittenAndFlushed end.0 (end_text begun Unread) o1 o2 w w2 W) run.written.1 end.1 in
        (source_runs Unread run, o1, events_so Unread run, (end.0, end_so Unread run (λ t. WrittenAndFlushed end.0 t o1 o2 w0 w2 W) same))
    ended Unread (Err (Refused x)) run end = absurd end
    ended Unread (Err Memory) run end = absurd end

    -- which device is at fault
    pub blamed : (left : Left) (r : Result Stop ToolFault) → Followed p names steps left begun i0 i1 o0 o1 r0 r1 w0 w1 R → EndsTrace left begun r o1 o2 w1 w2 W → Blames (ran.blamed r) r0 r1 w0 w2 R W
    blamed (Stopped t) (Ok s) run end = (run.reader, end.1.1 ∙ run.written.1)
    blamed (Stopped t) (Err (Io Write)) run end = (run.reader, end.2 ∙ ap (λ w. w + 1) run.written.1, end.3)
    blamed (Stopped t) (Err (Io Read)) run end = absurd (let no = end.0 in cc)
    blamed (Stopped t) (Err (Refused x)) run end = absurd end
    blamed (Stopped t) (Err Memory) run end = absurd end
    blamed Unread (Ok s) run end = absurd end
    blamed Unread (Err (Io Write)) run end = absurd end
    blamed Unread (Err (Io Read)) run end = run.reader
    blamed Unread (Err (Refused x)) run end = absurd end
    blamed Unread (Err Memory) run end = absurd end

-- something was run
pub run_untouched : {A B : Type 0} → (left : Left) (begun : Bool) (r : Result Stop ToolFault) (o1 o2 : Option (List ℕ)) (w1 w2 : ℕ) (W : Type 0) (a b : A) (c d : B) → EndsTrace left begun r o1 o2 w1 w2 W → Untouched r a b c d
run_untouched left begun (Ok s) o1 o2 w1 w2 W a b c d end = tt
run_untouched left begun (Err (Io f)) o1 o2 w1 w2 W a b c d end = tt
run_untouched (Stopped t) begun (Err (Refused x)) o1 o2 w1 w2 W a b c d end = absurd end
run_untouched Unread begun (Err (Refused x)) o1 o2 w1 w2 W a b c d end = absurd end
run_untouched (Stopped t) begun (Err Memory) o1 o2 w1 w2 W a b c d end = absurd end
run_untouched Unread begun (Err Memory) o1 o2 w1 w2 W a b c d end = absurd end

-- ---- a source that is refused

pub no_trace : (source : List ℕ) (steps : ℕ) (i0 i1 o0 o1 : Option (List ℕ)) (w0 w1 : ℕ) (W : Type 0) (r : Refusal) (f : ToolFault) → IsRefusal source r → Becomes Memory Refused r f → AnsweredTrace source steps (Err f) i0 i1 o0 o1 w0 w1 W
no_trace source steps i0 i1 o0 o1 w0 w1 W r f is becomes = ⊎_elim
    (λ memory. subst (λ x. AnsweredTrace source steps (Err x) i0 i1 o0 o1 w0 w1 W) (sym memory.1) tt)
    (λ other. subst (λ x. AnsweredTrace source steps (Err x) i0 i1 o0 o1 w0 w1 W) (sym other.1) (is, other.0))
    becomes
