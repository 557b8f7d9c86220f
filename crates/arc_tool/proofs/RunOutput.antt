-- What a run of compiled code prints, and that it is what the source means.
use Rattle.std.proofs.Common.{◌≡◌, ℕ, suc, ◌⊎◌, ◌+◌, ◌-◌, ◌^◌, ◌<◌, ◌≤◌, ℤ, true, List, [], ◌∷◌, ◌++◌, Option, Some, None, Ok, Err, refl, sym, ap, ◌∙◌, subst, append_assoc, ⊎_elim, arith, inl, inr}
use Rattle.std.specs.Prelude.{slice_get}
use Rattle.std.proofs.lemmas.List.{append-nil}
use Rattle.std.specs.Io.KnownBytes.{Appends, Keeps}
use Rattle.std.proofs.KnownBytes.{Appends-kept}
use Rattle.arc_spec.specs.declared.event.Event.{Event}
use Rattle.arc_spec.specs.SmallSteps.{Next, Goes, Asks, Ends, Faults, Stuck, follow, further, on_top}
use Rattle.arc_spec.specs.Classes.{class_at}
use Rattle.arc_spec.specs.Correctness.{IsPrefix, run_seen}
use Rattle.arc_code.specs.declared.code.IoFault.{IoFault}
use Rattle.arc_code.specs.declared.code.IoFault.TheVariants.{Read, Write}
use Rattle.arc_code.specs.declared.instr.Op.TheVariants.{Alloc}
use Rattle.arc_code.specs.declared.instr.Instr.TheVariants.{Plain}
use Rattle.arc_code.specs.CodeSteps.{Program, State, start, executes, step, allocates, seen, IsSound}
use Rattle.arc_heap.specs.Blocks.{Blocks}
use Rattle.arc_heap.specs.Stock.{Stock}
use Rattle.arc_machine.specs.declared.stop.Stop.{Stop}
use Rattle.arc_machine.specs.declared.stop.Stop.TheVariants.{StepsUsed}
use Rattle.arc_steps.specs.declared.answer.Answer.{Answer}
use Rattle.arc_steps.specs.declared.answer.Answer.TheVariants as answer
use Rattle.arc_steps.specs.Views.{Seen, fresh}
use Rattle.arc_machine.specs.RunAnswer.{said}
use Rattle.arc_turns.specs.Runs.{Leaves, Writes, Moves, IsAsking, IsWriting, Runs, Lacks, is_stopped, reached, next_events}
use Rattle.arc_steps.specs.Steps.{bytes_of}
use Rattle.arc_turns.proofs.RunExtendedByStep.{bytes_of-append}
use Rattle.arc_tool.specs.declared.lines.Left.{Left}
use Rattle.arc_tool.specs.declared.lines.Left.TheVariants.{Stopped, Unread}
use Rattle.arc_tool.specs.declared.run.ToolFault.{ToolFault}
use Rattle.arc_tool.specs.declared.run.ToolFault.TheVariants.{Refused, Memory, Io}
use Rattle.arc_source.specs.Accepted.{meant}
use Rattle.arc_tool.specs.CompiledCode.{Compiles}
use Rattle.arc_tool.specs.declared.refusal.Refusal.{Refusal}
use Rattle.arc_tool.specs.RefusalStages.{IsRefusal}
use Rattle.arc_tool.specs.Reports.{Becomes}
use Rattle.arc_tool.specs.private.PrintedRun.{Printed, PrintedPart, RanCode}
use Rattle.arc_tool.specs.RunAnswers.{PrintsAll, PrintsPart, Answered}
use Rattle.arc_tool.specs.Progress.{run_of, WritesByte}
use Rattle.arc_tool.specs.SourceRun.{Follows}
use Rattle.arc_machine.proofs.StartRepresented.{fresh_stands}
use Rattle.arc_tool.proofs.StepwiseRuns.{follows_moves, left_of, left_stopped, left_unread, makes_so, write_broke, within_so}
use Rattle.arc_tool.proofs.RunMeaning.{source_run}

-- the bytes of more events
starts_so : (a b : List Event) → IsPrefix a b → IsPrefix (bytes_of a) (bytes_of b)
starts_so a b p = (bytes_of p.0, ap bytes_of p.1 ∙ bytes_of-append a p.0)

starts_trans : (a b c : List ℕ) → IsPrefix a b → IsPrefix b c → IsPrefix a c
starts_trans a b c p q = (p.0 ++ q.0, q.1 ∙ ap (λ t. t ++ q.0) p.1 ∙ append_assoc a p.0 q.0)

-- the bytes that one step more prints
follow_bytes : (n : Next State) (i : List ℕ) (t : List Event) → bytes_of (run_seen (follow n i t)).trace ≡ bytes_of t ++ bytes_of (next_events n)
follow_bytes (Goes s es) i t = bytes_of-append t es
follow_bytes (Asks k) [] t = sym (append-nil (bytes_of t))
follow_bytes (Asks k) (b ∷ i) t = sym (append-nil (bytes_of t))
follow_bytes (Ends v) i t = sym (append-nil (bytes_of t))
follow_bytes (Faults f) i t = sym (append-nil (bytes_of t))
follow_bytes Stuck i t = sym (append-nil (bytes_of t))

-- ---- an instruction that makes an object shows nothing

class_silent : (p : Program) (s : State) (rest : List ℤ) (class : Option ℕ) → next_events (allocates p.classes s rest class) ≡ []
class_silent p s rest None = refl
class_silent p s rest (Some c) = refl

stack_silent : (p : Program) (s : State) (stack : List ℤ) → next_events (on_top stack (λ v rest. allocates p.classes s rest (class_at v))) ≡ []
stack_silent p s [] = refl
stack_silent p s (v ∷ rest) = class_silent p s rest (class_at v)

none_given : (given others : List Event) → given ++ others ≡ [] → given ≡ []
none_given [] others e = refl
none_given (x ∷ given) others e = absurd (cc)

silent : (p : Program) (s : State) (given others : List Event) → slice_get p.instrs s.at ≡ Some (Plain Alloc) → next_events (step p s) ≡ given ++ others → given ≡ []
silent p s given others makes split = none_given given others (sym split ∙ ap (λ op. next_events (executes p op s)) makes ∙ stack_silent p s s.stack)

-- nor does one that reads
asking_silent : (n : Next State) → IsAsking n → next_events n ≡ []
asking_silent (Goes s es) asks = absurd asks
asking_silent (Asks k) asks = refl
asking_silent (Ends n) asks = absurd asks
asking_silent (Faults f) asks = absurd asks
asking_silent Stuck asks = absurd asks

-- all that was shown was written, but where the writer failed
all_written : (p : Program) (s : State) (trace given : List Event) (o0 o1 : Option (List ℕ)) (a : Answer) → (a ≡ answer.NoHeap → slice_get p.instrs s.at ≡ Some (Plain Alloc))
    → (a ≡ answer.Broken Read → IsAsking (step p s)) → (a ≡ answer.Broken Write → ⊥) → Writes (is_stopped a) (step p s) trace given o0 o1 → Appends o0 o1 (bytes_of trace)
all_written p s trace given o0 o1 answer.Going makes asks written writes = writes
all_written p s trace given o0 o1 (answer.Ended n) makes asks written writes = writes
all_written p s trace given o0 o1 (answer.Faulted f) makes asks written writes = writes
all_written p s trace given o0 o1 (answer.Broken Read) makes asks written (others, split, writes) =
    let none = none_given given others (sym split ∙ asking_silent (step p s) (asks refl)) in
    subst (λ es. Appends o0 o1 (bytes_of es)) (ap (λ es. trace ++ es) none ∙ append-nil trace) writes
all_written p s trace given o0 o1 (answer.Broken Write) makes asks written writes = absurd (written refl)
all_written p s trace given o0 o1 answer.NoHeap makes asks written (others, split, writes) =
    subst (λ es. Appends o0 o1 (bytes_of es)) (ap (λ es. trace ++ es) (silent p s given others (makes refl) split) ∙ append-nil trace) writes

-- ---- a run of a machine that was made for the code

module _ {S : Type 0} (out : S → Blocks) (stock : S → Option Stock) (refuses : S → ℕ → S → Type 0) (store : S) (p : Program) (sound : IsSound p) (steps : ℕ) (limit : steps < 2 ^ 64) (old new : Seen S)
    (in0 in1 out0 out1 out2 : Option (List ℕ)) (first : old ≡ fresh p store) (moves : old.answer ≡ answer.Going → Runs out steps old new in0 in1 out0 out1)
    (used : new.answer ≡ answer.Going → (new.steps ≡ old.steps + steps) ⊎ (new.steps ≡ 2 ^ 64 - 1)) (held : old.answer ≡ answer.Going → is_stopped new.answer ≡ true → new.steps < old.steps + steps)
    (lacking : old.answer ≡ answer.Going → new.answer ≡ answer.NoHeap → Lacks out stock refuses new) (kept : Keeps out1 out2) where
  runs : (made : ℕ) × (taken : List ℕ) × (trace : List Event) × (made ≤ steps) × Moves (out store) out (fresh p store) new (start p) in0 in1 out0 out1 made taken trace
  runs = subst (λ (m : Seen S). m.answer ≡ answer.Going → Runs out steps m new in0 in1 out0 out1) first moves refl (out store) (start p) (fresh_stands out p store) sound

  wrote : Writes (is_stopped new.answer) (step p runs.4.state) runs.2 new.events out0 out1
  wrote = subst (λ (q : Program). Writes (is_stopped new.answer) (step q runs.4.state) runs.2 new.events out0 out1) runs.4.program runs.4.writes

  none : old.steps ≡ 0
  none = ap (λ (m : Seen S). m.steps) first

  going : old.answer ≡ answer.Going
  going = ap (λ (m : Seen S). m.answer) first

  all_made : new.answer ≡ answer.Going → runs.0 ≡ steps
  all_made on =
      let made : new.steps ≡ 0 + runs.0 = runs.4.steps in
      let within : runs.0 ≤ steps = runs.3 in
      ⊎_elim (λ e. omega (arith, e, none, made, within, limit)) (λ e. omega (arith, e, none, made, within, limit)) (used on)

  fewer : is_stopped new.answer ≡ true → runs.0 < steps
  fewer stopped = let made : new.steps ≡ 0 + runs.0 = runs.4.steps in omega (arith, held going stopped, none, made)

  makes : new.answer ≡ answer.NoHeap → slice_get new.program.instrs new.machine_view.at ≡ Some (Plain Alloc)
  makes full = (lacking going full).op

  asks : new.answer ≡ answer.Broken Read → IsAsking (step p runs.4.state)
  asks broke = subst (λ (q : Program). IsAsking (step q runs.4.state)) runs.4.program (runs.4.asks broke)

  -- the machine's moves, as a run of the code
  abbrev run : Follows p runs.0 (left_of new.answer) in0 in1 runs.2
  run = follows_moves out p store new in0 in1 out0 out1 runs.0 runs.1 runs.2 runs.4 makes

  program_is : p ≡ old.program
  program_is = sym (ap (λ (m : Seen S). m.program) first)

  -- the writer didn't fail in the run
  printed : (left : Left) → left_of new.answer ≡ left → (new.answer ≡ answer.Broken Write → ⊥) → Printed old.program steps left in0 in1 out0 out2
  printed left is written =
      let all : Appends out0 out1 (bytes_of runs.2) = all_written p runs.4.state runs.2 new.events out0 out1 new.answer
      (λ full. makes_so out p new runs.4.state runs.4.program runs.4.stands (makes full)) asks written wrote in
      subst (λ q. Printed q steps left in0 in1 out0 out2) program_is (subst (λ l. Printed p steps l in0 in1 out0 out2) is (record {
        made = runs.0;
        within = within_so new.answer runs.0 steps runs.3 all_made fewer written;
        events = runs.2;
        follows = run;
        writes = Appends-kept out0 out1 out2 (bytes_of runs.2) all kept;
      }))

  pub machine_stopped : (t : Stop) → said new.answer ≡ Ok t → Printed old.program steps (Stopped t) in0 in1 out0 out2
  machine_stopped t is = printed (Stopped t) (left_stopped new.answer t is) (λ broke. absurd (let no = sym (ap said broke) ∙ is in cc))

  pub machine_unread : said new.answer ≡ Err Read → Printed old.program steps Unread in0 in1 out0 out2
  machine_unread is = printed Unread (left_unread new.answer is) (λ broke. absurd (let no = sym (ap said broke) ∙ is in cc))

  -- the flush failed after it
  pub machine_held : (f : IoFault) → f ≡ Write → (t : Stop) → said new.answer ≡ Ok t → RanCode old.program steps (Err f) in0 in1 out0 out2
  machine_held f is t stopped = subst (λ e. RanCode old.program steps (Err e) in0 in1 out0 out2) (sym is) (inr (t, machine_stopped t stopped))

  -- the writer failed in a step
  abbrev part : List ℕ
  part = bytes_of new.events

  abbrev Begins : Left → Type 0
  Begins left =
      (r : Follows p runs.0 left in0 in1 runs.2)
      × ((rest : List ℕ) → Leaves in1 rest → WritesByte p part (run_of p (r.taken ++ rest) runs.0))
      × ((rest : List ℕ) → Leaves in1 rest → IsPrefix (bytes_of runs.2 ++ part) (bytes_of (seen p (r.taken ++ rest) (suc runs.0)).trace))

  writing_in : new.answer ≡ answer.Broken Write → (rest : List ℕ) → Leaves in1 rest → WritesByte p part (run_of p (runs.1 ++ rest) runs.0)
  writing_in broke rest l =
      let here = runs.4.run rest l ∙ ap (λ a. reached a runs.4.state rest runs.2) broke in
      subst (WritesByte p part) (sym here) (new.events, refl, subst (λ (q : Program). IsWriting (step q runs.4.state) new.events) runs.4.program (runs.4.writing broke))

  broken_in : new.answer ≡ answer.Broken Write → (others : List Event) → next_events (step p runs.4.state) ≡ new.events ++ others → (rest : List ℕ) → Leaves in1 rest
      → IsPrefix (bytes_of runs.2 ++ part) (bytes_of (seen p (runs.1 ++ rest) (suc runs.0)).trace)
  broken_in broke others split rest l =
      let here = runs.4.run rest l ∙ ap (λ a. reached a runs.4.state rest runs.2) broke in
      let next : bytes_of (seen p (runs.1 ++ rest) (suc runs.0)).trace ≡ bytes_of runs.2 ++ bytes_of (next_events (step p runs.4.state)) =
      ap (λ r. bytes_of (run_seen (further (step p) r)).trace) here ∙ follow_bytes (step p runs.4.state) rest runs.2 in
      let all = ap (λ es. bytes_of runs.2 ++ bytes_of es) split ∙ ap (λ t. bytes_of runs.2 ++ t) (bytes_of-append new.events others) ∙ sym (append_assoc (bytes_of runs.2) part (bytes_of others)) in
      (bytes_of others, next ∙ all)

  pub machine_broken : said new.answer ≡ Err Write → RanCode old.program steps (Err Write) in0 in1 out0 out1
  machine_broken is =
      let broke = write_broke new.answer is in
      let w = subst (λ a. Writes (is_stopped a) (step p runs.4.state) runs.2 new.events out0 out1) broke wrote in
      let b = subst (λ a. Begins (left_of a)) broke (run, writing_in broke, broken_in broke w.0 w.1) in
      inl (subst (λ q. PrintedPart q steps in0 in1 out0 out1) program_is (record {
        made = runs.0;
        fewer = fewer (ap is_stopped broke);
        events = runs.2;
        follows = b.0;
        part = part;
        writes = subst (Appends out0 out1) (bytes_of-append runs.2 new.events) w.2;
        writing = b.1;
        begins = b.2;
      }))

-- ---- what the program means

module _ (source : List ℕ) (p : Program) (compiled : Compiles source p) (steps : ℕ) (i0 i1 o0 o1 : Option (List ℕ)) where
  pub prints_all : (left : Left) → Printed p steps left i0 i1 o0 o1 → PrintsAll source steps left i0 i1 o0 o1
  prints_all left run = (source_run source p compiled steps run.made left i0 i1 run.events run.within run.follows, run.writes)

  prints_part : PrintedPart p steps i0 i1 o0 o1 → PrintsPart source steps i0 i1 o0 o1
  prints_part run = record {
    made = run.made;
    fewer = run.fewer;
    run = source_run source p compiled run.made run.made (Stopped StepsUsed) i0 i1 run.events refl run.follows;
    part = run.part;
    writes = run.writes;
    writing = run.writing;
    begins = run.begins;
    means = λ rest l.
        let input = run.follows.taken ++ rest in
        let next = (seen p input (suc run.made)).trace in
        let whole = (meant compiled.program input (suc run.made)).trace in
        starts_trans (bytes_of run.events ++ run.part) (bytes_of next) (bytes_of whole) (run.begins rest l) (starts_so next whole (compiled.behaves.follows input (suc run.made)));
  }

  -- a device failed
  pub prints_failed : (f : IoFault) → RanCode p steps (Err f) i0 i1 o0 o1 → Answered source steps (Err (Io f)) i0 i1 o0 o1
  prints_failed Read run = prints_all Unread run
  prints_failed Write (inl run) = inl (prints_part run)
  prints_failed Write (inr (t, run)) = inr (t, prints_all (Stopped t) run)

-- ---- a source that is refused

pub refused_so : (source : List ℕ) (steps : ℕ) (in0 in1 out0 out1 : Option (List ℕ)) (r : Refusal) (f : ToolFault) → IsRefusal source r → Becomes Memory Refused r f → Answered source steps (Err f) in0 in1 out0 out1
refused_so source steps in0 in1 out0 out1 r f is becomes = ⊎_elim
    (λ memory. subst (λ x. Answered source steps (Err x) in0 in1 out0 out1) (sym memory.1) tt)
    (λ other. subst (λ x. Answered source steps (Err x) in0 in1 out0 out1) (sym other.1) (is, other.0))
    becomes
