-- A run whose events are written step by step, each before the next step is made.
use Rattle.std.proofs.Common.{◌≡◌, ◌≢◌, ℕ, suc, ◌+◌, ◌<◌, ◌≤◌, List, [], ◌++◌, Bool, true, false, Option, Some, None, Ok, Err, refl, sym, ap, subst, ◌∙◌, arith}
use Rattle.std.specs.Prelude.{slice_get, ⊤}
use Rattle.arc_spec.specs.declared.event.Event.{Event}
use Rattle.arc_code.specs.declared.code.IoFault.{IoFault}
use Rattle.arc_code.specs.declared.instr.Op.TheVariants.{Alloc}
use Rattle.arc_code.specs.declared.instr.Instr.TheVariants.{Plain}
use Rattle.arc_code.specs.CodeSteps.{Program, IsSound, seen}
use Rattle.arc_code.specs.WrittenBytes.{Written}
use Rattle.arc_code.proofs.WritesCompose.{then_ok, none_written}
use Rattle.arc_heap.specs.Blocks.{Blocks}
use Rattle.arc_steps.specs.declared.answer.Answer.TheVariants as answer
use Rattle.arc_steps.specs.Views.{Seen, fresh}
use Rattle.arc_turns.specs.Runs.{Runs, Leaves, is_stopped}
use Rattle.arc_tool.specs.declared.lines.Left.{Left}
use Rattle.arc_tool.specs.TraceLines.{events_text, open_after}
use Rattle.arc_tool.specs.SourceRun.{Follows, Within}
use Rattle.arc_tool.specs.private.TraceSteps.{new_events, Followed, Interrupted, Reads}
use Rattle.arc_tool.proofs.EventTextComposes.{more_events, open_further}
use Rattle.arc_tool.proofs.StepwiseRuns.{Reaches, starts, goes_on, follows, follows_before, left_of, within_so}

-- the machine's steps are steps of the code, and their events were written
pub record Shows {S : Type 0} (out : S → Blocks) (p : Program) (names : List (List ℕ)) (m : Seen S) (begun : Bool) (in0 in1 out0 out1 : Option (List ℕ)) (writes0 writes1 : ℕ) : Type 0 where
  pub events : List Event
  pub reaches : Reaches out p m in0 in1 events
  pub opens : begun ≡ open_after false events
  pub written : Written (Ok tt) (events_text names false events) out0 out1 writes0 writes1 ⊤

pub shows_nothing : {S : Type 0} → (out : S → Blocks) (p : Program) (names : List (List ℕ)) (store : S) (i o : Option (List ℕ)) (w : ℕ) → IsSound p → Shows out p names (fresh p store) false i i o o w w
shows_nothing out p names store i o w sound = record { events = []; reaches = starts out p store i sound; opens = refl; written = none_written o w ⊤ }

-- a machine that was made for the code
pub shows_fresh : {S : Type 0} → (out : S → Blocks) (p : Program) (names : List (List ℕ)) (store : S) (m : Seen S) (i o : Option (List ℕ)) (w : ℕ) → m ≡ fresh p store → IsSound p
    → (m.steps ≡ 0) × (m.answer ≡ answer.Going) × Shows out m.program names m false i i o o w w
shows_fresh {S} out p names store m i o w e sound = subst (λ (n : Seen S). (n.steps ≡ 0) × (n.answer ≡ answer.Going) × Shows out n.program names n false i i o o w w) (sym e) (refl, refl, shows_nothing out p names store i o w sound)

module _ {S : Type 0} (out : S → Blocks) (p : Program) (names : List (List ℕ)) (old new : Seen S) (begun : Bool) (i0 i1 i2 o0 o1 : Option (List ℕ)) (w0 w1 : ℕ)
    (way : Shows out p names old begun i0 i1 o0 o1 w0 w1) (going : old.answer ≡ answer.Going)
    (runs : Runs out 1 old new i1 i2 None None) (held : is_stopped new.answer ≡ true → new.steps < old.steps + 1) where
  abbrev shown : List Event
  shown = new_events new old.steps

  pub one_step : new.steps ≤ old.steps + 1
  one_step = (goes_on out p old new i0 i1 i2 way.events way.reaches going held runs).2

  abbrev reached_on : Reaches out p new i0 i2 (way.events ++ shown)
  reached_on = (goes_on out p old new i0 i1 i2 way.events way.reaches going held runs).0.0

  one_more : new.steps ≢ old.steps → new.steps ≡ suc old.steps
  one_more more = omega (arith, one_step, (goes_on out p old new i0 i1 i2 way.events way.reaches going held runs).1)

  pub was_made : new.steps ≢ old.steps → is_stopped new.answer ≡ true → ⊥
  was_made more stopped = omega (arith, held stopped, one_more more)

  abbrev more_text : Bool → List ℕ
  more_text b = events_text names b shown

  whole : events_text names false way.events ++ more_text begun ≡ events_text names false (way.events ++ shown)
  whole = ap (λ b. events_text names false way.events ++ more_text b) way.opens ∙ sym (more_events names false way.events shown)

  -- what the step showed was written
  pub shows_on : (o2 : Option (List ℕ)) (w2 : ℕ) (next : Bool) → Written (Ok tt) (more_text begun) o1 o2 w1 w2 ⊤ → next ≡ open_after begun shown → Shows out p names new next i0 i2 o0 o2 w0 w2
  shows_on o2 w2 next wrote opens = record {
    events = way.events ++ shown;
    reaches = reached_on;
    opens = opens ∙ ap (λ b. open_after b shown) way.opens ∙ sym (open_further false way.events shown);
    written = subst (λ l. Written (Ok tt) l o0 o2 w0 w2 ⊤) whole (then_ok o0 o1 o2 w0 w1 w2 ⊤ (events_text names false way.events) (more_text begun) way.written wrote);
  }

  -- a run of so many steps had shown what it showed before the last one
  abbrev FollowsOn : (made : ℕ) → Type 0
  FollowsOn made = (run : Follows p made (left_of new.answer) i0 i2 (way.events ++ shown)) × ((rest : List ℕ) → Leaves i2 rest → (seen p (run.taken ++ rest) old.steps).trace ≡ way.events)

  follows_on : (new.answer ≡ answer.NoHeap → slice_get new.program.instrs new.machine_view.at ≡ Some (Plain Alloc)) → FollowsOn new.steps
  follows_on makes = (
    follows out p new i0 i2 (way.events ++ shown) reached_on makes,
    follows_before out p new i0 i2 (way.events ++ shown) way.events reached_on makes old.steps (goes_on out p old new i0 i1 i2 way.events way.reaches going held runs).0.1,
  )

  -- the writer failed
  pub shows_part : (o2 : Option (List ℕ)) (w2 : ℕ) (F : Type 0) (f : IoFault) (steps : ℕ) → new.steps ≢ old.steps → old.steps < steps
      → (new.answer ≡ answer.NoHeap → slice_get new.program.instrs new.machine_view.at ≡ Some (Plain Alloc)) → Written (Err f) (more_text begun) o1 o2 w1 w2 F → Interrupted p names steps f i0 i2 o0 o2 w0 w2 F
  shows_part o2 w2 F f steps more within makes wrote =
      let run = subst FollowsOn (one_more more) (follows_on makes) in
      record {
        made = old.steps;
        left = left_of new.answer;
        earlier = way.events;
        last = shown;
        within = within;
        last_made = within_so new.answer (suc old.steps) (suc old.steps) (omega arith) (λ going. refl) (λ stopped. absurd (was_made more stopped)) (λ broke. absurd (was_made more (ap is_stopped broke)));
        follows = run.0;
        shown = run.1;
        held = o1;
        writes = w1;
        whole = way.written;
        part = subst (λ b. Written (Err f) (more_text b) o1 o2 w1 w2 F) way.opens wrote;
      }

-- the run was left
pub is_left : {S : Type 0} → (out : S → Blocks) (p : Program) (names : List (List ℕ)) (m : Seen S) (begun : Bool) (i0 i1 o0 o1 : Option (List ℕ)) (w0 w1 : ℕ) → Shows out p names m begun i0 i1 o0 o1 w0 w1
    → (steps : ℕ) (left : Left) (r0 r1 : ℕ) (R : Type 0) → left_of m.answer ≡ left → (m.answer ≡ answer.NoHeap → slice_get m.program.instrs m.machine_view.at ≡ Some (Plain Alloc)) → Within left m.steps steps → Reads left r0 r1 R
    → Followed p names steps left begun i0 i1 o0 o1 r0 r1 w0 w1 R
is_left out p names m begun i0 i1 o0 o1 w0 w1 way steps left r0 r1 R e makes within reads =
    subst (λ l. Within l m.steps steps → Reads l r0 r1 R → Followed p names steps l begun i0 i1 o0 o1 r0 r1 w0 w1 R) e
    (λ within reads. record {
      made = m.steps;
      events = way.events;
      within = within;
      follows = follows out p m i0 i1 way.events way.reaches makes;
      opens = way.opens;
      written = way.written;
      reader = reads;
    }) within reads
