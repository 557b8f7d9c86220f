-- A run that is made step by step is one run of the code.
use Rattle.std.proofs.Common.{◌≡◌, ◌≢◌, Bool, true, false, nat_eq, if◌then◌else◌, ℕ, zero, suc, ◌+◌, ◌<◌, ◌≤◌, List, [], ◌++◌, length, inl, inr, Option, Some, None, Ok, Err, refl, sym, ap, subst, ◌∙◌, append_assoc, arith}
use Rattle.std.specs.Prelude.{slice_get}
use Rattle.std.proofs.lemmas.Bool.{eq-eqb, eqb-true}
use Rattle.std.proofs.KnownBytes.{Consumes-nil}
use Rattle.arc_spec.specs.declared.event.Event.{Event}
use Rattle.arc_spec.specs.SmallSteps.{Reached, Running, after_steps}
use Rattle.arc_spec.specs.Correctness.{Observation, run_seen}
use Rattle.arc_code.specs.Attempts.{HasFailedToWrite, IsFailedWrite}
use Rattle.arc_code.specs.DeviceCalls.{IsUndone}
use Rattle.arc_code.specs.declared.device.Attempt.TheVariants.{Done}
use Rattle.arc_code.specs.declared.code.IoFault.TheVariants.{Read, Write}
use Rattle.arc_code.specs.declared.instr.Op.TheVariants.{Alloc}
use Rattle.arc_code.specs.declared.instr.Instr.TheVariants.{Plain}
use Rattle.arc_code.specs.CodeSteps.{Program, State, start, step, seen, IsSound}
use Rattle.arc_heap.specs.Blocks.{Blocks}
use Rattle.arc_machine.specs.declared.stop.Stop.{Stop}
use Rattle.arc_machine.specs.declared.stop.Stop.TheVariants as stop
use Rattle.arc_steps.specs.declared.answer.Answer.{Answer}
use Rattle.arc_steps.specs.declared.answer.Answer.TheVariants as answer
use Rattle.arc_steps.specs.Views.{Seen, StandsAs, fresh}
use Rattle.arc_machine.specs.RunAnswer.{said}
use Rattle.arc_turns.specs.Runs.{Leaves, Moves, IsAsking, Runs, Troubled, is_stopped, reached}
use Rattle.arc_turns.proofs.RunsCompose.{moves_on, leaves_before}
use Rattle.arc_machine.proofs.StartRepresented.{fresh_stands}
use Rattle.arc_tool.specs.declared.lines.Left.{Left}
use Rattle.arc_tool.specs.declared.lines.Left.TheVariants.{Stopped, Unread}
use Rattle.arc_tool.specs.Progress.{run_of, rest_of, Takes, MakesObject, ReadsByte}
use Rattle.arc_tool.specs.SourceRun.{Follows, Within, GoesOn, stop_seen}
use Rattle.arc_tool.specs.private.TraceSteps.{new_events}

-- something that may be left
leavable : (i : Option (List ℕ)) → (rest : List ℕ) × Leaves i rest
leavable None = ([], tt)
leavable (Some known) = (known, refl)

-- ---- the events of a step

none_new : {S : Type 0} → (m : Seen S) (before : ℕ) → m.steps ≡ before → new_events m before ≡ []
none_new m before e = go (nat_eq m.steps before) (eq-eqb m.steps before e)
  where
    go : (b : Bool) → b ≡ true → (if b then [] else m.events) ≡ []
    go true h = refl
    go false h = absurd (cc)

all_new : {S : Type 0} → (m : Seen S) (before : ℕ) → m.steps ≢ before → new_events m before ≡ m.events
all_new m before ne = go (nat_eq m.steps before) refl
  where
    go : (b : Bool) → nat_eq m.steps before ≡ b → (if b then [] else m.events) ≡ m.events
    go true h = absurd (ne (eqb-true m.steps before h))
    go false h = refl

-- ---- how a run was left

abbrev pub left_of : Answer → Left
left_of answer.Going = Stopped stop.StepsUsed
left_of (answer.Ended n) = Stopped (stop.Ended n)
left_of (answer.Faulted f) = Stopped (stop.Fault f)
left_of (answer.Broken Read) = Unread
left_of (answer.Broken Write) = Stopped stop.StepsUsed
left_of answer.NoHeap = Stopped stop.NoHeap

pub seen_of : (a : Answer) (s : State) (i : List ℕ) (t : List Event) → run_seen (reached a s i t) ≡ record { trace = t; stop = stop_seen (left_of a) }
seen_of answer.Going s i t = refl
seen_of (answer.Ended n) s i t = refl
seen_of (answer.Faulted f) s i t = refl
seen_of (answer.Broken Read) s i t = refl
seen_of (answer.Broken Write) s i t = refl
seen_of answer.NoHeap s i t = refl

-- ---- a machine that runs the code

-- The machine was made for the code, has taken these bytes since then, and shown these events; nothing is known of what it wrote.
pub record Reaches {S : Type 0} (out : S → Blocks) (p : Program) (m : Seen S) (in0 in1 : Option (List ℕ)) (events : List Event) : Type 0 where
  pub store : S
  pub taken : List ℕ
  pub moves : Moves (out store) out (fresh p store) m (start p) in0 in1 None None m.steps taken events

pub starts : {S : Type 0} → (out : S → Blocks) (p : Program) (store : S) (i : Option (List ℕ)) → IsSound p → Reaches out p (fresh p store) i i []
starts out p store i sound = record {
  store = store;
  taken = [];
  moves = record {
    program = refl;
    steps = refl;
    reads = Consumes-nil i;
    state = start p;
    stands = fresh_stands out p store;
    sound = λ _. sound;
    run = λ rest l. refl;
    writes = tt;
    none = λ _. (refl, λ _. refl);
    asks = λ broke. absurd (cc);
    writing = λ broke. absurd (cc);
    last = λ k rest e l on. absurd (omega (arith, e));
  };
}

module _ {S : Type 0} (out : S → Blocks) (p : Program) (old new : Seen S) (i0 i1 i2 : Option (List ℕ)) (events : List Event) (way : Reaches out p old i0 i1 events) (going : old.answer ≡ answer.Going)
    (within : is_stopped new.answer ≡ true → new.steps < old.steps + 1) where
  -- the machine has these events more, and had shown the others after the steps of the old one
  abbrev ReachesOn : List Event → Type 0
  ReachesOn trace = (all : Reaches out p new i0 i2 (events ++ trace)) × ((rest : List ℕ) → Leaves i2 rest → (seen p (all.taken ++ rest) old.steps).trace ≡ events)

  module _ (n : ℕ) (taken : List ℕ) (trace : List Event) (m : Moves (out way.store) out old new way.moves.state i1 i2 None None n taken trace) where
    shown_before : (rest : List ℕ) → Leaves i2 rest → (seen p ((way.taken ++ taken) ++ rest) old.steps).trace ≡ events
    shown_before rest l =
        let later = taken ++ rest in
        ap (λ i. (seen p i old.steps).trace) (append_assoc way.taken taken rest)
        ∙ ap (λ (x : Observation). x.trace) (ap run_seen (way.moves.run later (leaves_before i1 i2 taken rest m.reads l)) ∙ seen_of old.answer way.moves.state later events)

    reaches_on : ReachesOn trace
    reaches_on =
        let count : n + old.steps ≡ new.steps = omega (arith, m.steps) in
        let all = moves_on out (fresh p way.store) old new (start p) i0 i1 i2 None None None old.steps n way.taken taken events trace going way.moves m in
        (record { store = way.store; taken = way.taken ++ taken; moves = subst (λ k. Moves (out way.store) out (fresh p way.store) new (start p) i0 i2 None None k (way.taken ++ taken) (events ++ trace)) count all }, shown_before)

    -- the events of one step or none are those that the machine has of it
    trace_is : (k : ℕ) → n ≡ k → k ≤ 1 → trace ≡ new_events new old.steps
    trace_is zero e l = let same : new.steps ≡ old.steps = omega (arith, m.steps, e) in (m.none e).0 ∙ sym (none_new new old.steps same)
    trace_is (suc zero) e l =
        let other : new.steps ≢ old.steps = λ h. omega (arith, m.steps, e, h) in
        let rest = leavable i2 in
        m.last 0 rest.0 e rest.1 (whole (is_stopped new.answer) refl)
        ∙ sym (all_new new old.steps other)
      where
        whole : (b : Bool) → is_stopped new.answer ≡ b → is_stopped new.answer ≡ false
        whole false is = is
        whole true is = absurd (omega (arith, within is, m.steps, e))
    trace_is (suc (suc k)) e l = absurd (omega (arith, l))

  -- one step more or none
  pub goes_on : Runs out 1 old new i1 i2 None None → ReachesOn (new_events new old.steps) × (old.steps ≤ new.steps) × (new.steps ≤ old.steps + 1)
  goes_on runs =
      let r = runs (out way.store) way.moves.state way.moves.stands (way.moves.sound going) in
      let all = reaches_on r.0 r.1 r.2 r.4 in
      (subst ReachesOn (trace_is r.0 r.1 r.2 r.4 r.0 refl r.3) all, omega (arith, r.4.steps), omega (arith, r.3, r.4.steps))

reached_rest : (a : Answer) (s : State) (i : List ℕ) (t : List Event) → rest_of (reached a s i t) ≡ i
reached_rest answer.Going s i t = refl
reached_rest (answer.Ended n) s i t = refl
reached_rest (answer.Faulted f) s i t = refl
reached_rest (answer.Broken f) s i t = refl
reached_rest answer.NoHeap s i t = refl

-- a run has taken what the machine took
pub takes_so : (p : Program) (made : ℕ) (taken rest : List ℕ) (a : Answer) (s : State) (t : List Event) → after_steps (step p) made (Running (start p) (taken ++ rest) []) ≡ reached a s rest t → Takes p made taken rest
takes_so p made taken rest a s t run = ap rest_of run ∙ reached_rest a s rest t

-- a run that has no room for an object goes on with one, and one whose reader fails goes on with a step that reads
pub goes_on_so : (p : Program) (run : Reached State) (a : Answer) (s : State) (i : List ℕ) (t : List Event) → run ≡ reached a s i t → (a ≡ answer.NoHeap → slice_get p.instrs s.at ≡ Some (Plain Alloc)) → (a ≡ answer.Broken Read → IsAsking (step p s)) → GoesOn (left_of a) p run
goes_on_so p run answer.Going s i t is makes asks = tt
goes_on_so p run (answer.Ended n) s i t is makes asks = tt
goes_on_so p run (answer.Faulted f) s i t is makes asks = tt
goes_on_so p run (answer.Broken Read) s i t is makes asks = subst (ReadsByte p) (sym is) (asks refl)
goes_on_so p run (answer.Broken Write) s i t is makes asks = tt
goes_on_so p run answer.NoHeap s i t is makes asks = subst (MakesObject p) (sym is) (makes refl)

-- the machine stands at the instruction of the state for which it stands
pub makes_so : {S : Type 0} {foreign : Blocks} (out : S → Blocks) (p : Program) (m : Seen S) (s : State) → m.program ≡ p → StandsAs foreign out m s → slice_get m.program.instrs m.machine_view.at ≡ Some (Plain Alloc) → slice_get p.instrs s.at ≡ Some (Plain Alloc)
makes_so out p m s program stands makes = ap (slice_get p.instrs) (sym stands.at) ∙ ap (λ (q : Program). slice_get q.instrs m.machine_view.at) (sym program) ∙ makes

-- the moves of a machine that was made for the code are a run of it
abbrev pub follows_moves : {S : Type 0} {foreign : Blocks} (out : S → Blocks) (p : Program) (store : S) (m : Seen S) (i0 i1 o0 o1 : Option (List ℕ)) (made : ℕ) (taken : List ℕ) (events : List Event)
    → Moves foreign out (fresh p store) m (start p) i0 i1 o0 o1 made taken events → (m.answer ≡ answer.NoHeap → slice_get m.program.instrs m.machine_view.at ≡ Some (Plain Alloc)) → Follows p made (left_of m.answer) i0 i1 events
follows_moves out p store m i0 i1 o0 o1 made taken events moves makes = record {
  taken = taken;
  reads = moves.reads;
  takes = λ rest l. takes_so p made taken rest m.answer moves.state events (moves.run rest l);
  shown = λ rest l. ap run_seen (moves.run rest l) ∙ seen_of m.answer moves.state rest events;
  goes_on = λ rest l.
      goes_on_so p (run_of p (taken ++ rest) made) m.answer moves.state rest events (moves.run rest l)
      (λ full. makes_so out p m moves.state moves.program moves.stands (makes full))
      (λ broke. subst (λ (q : Program). IsAsking (step q moves.state)) moves.program (moves.asks broke));
}

pub follows : {S : Type 0} → (out : S → Blocks) (p : Program) (m : Seen S) (i0 i1 : Option (List ℕ)) (events : List Event) → Reaches out p m i0 i1 events
    → (m.answer ≡ answer.NoHeap → slice_get m.program.instrs m.machine_view.at ≡ Some (Plain Alloc)) → Follows p m.steps (left_of m.answer) i0 i1 events
follows out p m i0 i1 events way makes = follows_moves out p way.store m i0 i1 None None m.steps way.taken events way.moves makes

-- what a machine had shown before is what such a run had
pub follows_before : {S : Type 0} → (out : S → Blocks) (p : Program) (m : Seen S) (i0 i1 : Option (List ℕ)) (events earlier : List Event) (way : Reaches out p m i0 i1 events)
    (makes : m.answer ≡ answer.NoHeap → slice_get m.program.instrs m.machine_view.at ≡ Some (Plain Alloc)) (k : ℕ) → ((rest : List ℕ) → Leaves i1 rest → (seen p (way.taken ++ rest) k).trace ≡ earlier)
    → (rest : List ℕ) → Leaves i1 rest → (seen p ((follows out p m i0 i1 events way makes).taken ++ rest) k).trace ≡ earlier
unfolding follows
follows_before out p m i0 i1 events earlier way makes k shown = shown

pub left_stopped : (a : Answer) (t : Stop) → said a ≡ Ok t → left_of a ≡ Stopped t
left_stopped answer.Going t e = let there : stop.StepsUsed ≡ t = cc in ap Stopped there
left_stopped (answer.Ended n) t e = let there : stop.Ended n ≡ t = cc in ap Stopped there
left_stopped (answer.Faulted f) t e = let there : stop.Fault f ≡ t = cc in ap Stopped there
left_stopped (answer.Broken f) t e = absurd (cc)
left_stopped answer.NoHeap t e = let there : stop.NoHeap ≡ t = cc in ap Stopped there

pub left_unread : (a : Answer) → said a ≡ Err Read → left_of a ≡ Unread
left_unread answer.Going e = absurd (cc)
left_unread (answer.Ended n) e = absurd (cc)
left_unread (answer.Faulted f) e = absurd (cc)
left_unread (answer.Broken Read) e = refl
left_unread (answer.Broken Write) e = absurd (cc)
left_unread answer.NoHeap e = absurd (cc)

-- the steps are used only by a machine that goes on
pub going_on : (a : Answer) → said a ≡ Ok stop.StepsUsed → a ≡ answer.Going
going_on answer.Going e = refl
going_on (answer.Ended n) e = absurd (cc)
going_on (answer.Faulted f) e = absurd (cc)
going_on (answer.Broken f) e = absurd (cc)
going_on answer.NoHeap e = absurd (cc)

-- there was no room for an object only where the machine says so
pub no_room : (a : Answer) → said a ≡ Ok stop.NoHeap → a ≡ answer.NoHeap
no_room answer.Going e = absurd (cc)
no_room (answer.Ended n) e = absurd (cc)
no_room (answer.Faulted f) e = absurd (cc)
no_room (answer.Broken f) e = absurd (cc)
no_room answer.NoHeap e = refl

-- the reader failed only where the machine says so
pub read_broke : (a : Answer) → said a ≡ Err Read → a ≡ answer.Broken Read
read_broke answer.Going e = absurd (cc)
read_broke (answer.Ended n) e = absurd (cc)
read_broke (answer.Faulted f) e = absurd (cc)
read_broke (answer.Broken f) e = let there : f ≡ Read = cc in ap answer.Broken there
read_broke answer.NoHeap e = absurd (cc)

-- nor the writer
pub write_broke : (a : Answer) → said a ≡ Err Write → a ≡ answer.Broken Write
write_broke answer.Going e = absurd (cc)
write_broke (answer.Ended n) e = absurd (cc)
write_broke (answer.Faulted f) e = absurd (cc)
write_broke (answer.Broken f) e = let there : f ≡ Write = cc in ap answer.Broken there
write_broke answer.NoHeap e = absurd (cc)

pub unread : (a : Answer) → said a ≡ Err Read → is_stopped a ≡ true
unread a e = ap is_stopped (read_broke a e)

-- ---- whose failures rose

module _ (r0 r1 w0 w1 : ℕ) (R W : Type 0) where
  pub reader_kept : (a : Answer) (t : Stop) → said a ≡ Ok t → Troubled a r0 r1 w0 w1 R W → r1 ≡ r0
  reader_kept answer.Going t e h = h.0
  reader_kept (answer.Ended n) t e h = h.0
  reader_kept (answer.Faulted f) t e h = h.0
  reader_kept (answer.Broken f) t e h = absurd (cc)
  reader_kept answer.NoHeap t e h = h.0

  pub reader_stays : (a : Answer) → (is_stopped a ≡ true → ⊥) → Troubled a r0 r1 w0 w1 R W → r1 ≡ r0
  reader_stays answer.Going on h = h.0
  reader_stays (answer.Ended n) on h = h.0
  reader_stays (answer.Faulted f) on h = h.0
  reader_stays (answer.Broken f) on h = absurd (on refl)
  reader_stays answer.NoHeap on h = h.0

  pub reader_failed : (a : Answer) → said a ≡ Err Read → Troubled a r0 r1 w0 w1 R W → (r1 ≡ r0 + 1) × R
  reader_failed answer.Going e h = absurd (cc)
  reader_failed (answer.Ended n) e h = absurd (cc)
  reader_failed (answer.Faulted f) e h = absurd (cc)
  reader_failed (answer.Broken Read) e h = (h.0, h.2)
  reader_failed (answer.Broken Write) e h = absurd (cc)
  reader_failed answer.NoHeap e h = absurd (cc)

  pub writer_failed : (a : Answer) → said a ≡ Err Write → Troubled a r0 r1 w0 w1 R W → W
  writer_failed answer.Going e h = absurd (cc)
  writer_failed (answer.Ended n) e h = absurd (cc)
  writer_failed (answer.Faulted f) e h = absurd (cc)
  writer_failed (answer.Broken Read) e h = absurd (cc)
  writer_failed (answer.Broken Write) e h = h.2
  writer_failed answer.NoHeap e h = absurd (cc)

takes_none : (n : ℕ) → 0 < n → IsFailedWrite (Done n) → ⊥
takes_none zero some failed = omega arith
takes_none (suc n) some failed = failed

-- a writer that takes each byte doesn't fail
pub never_fails : {T : Type 0} (new : T) → HasFailedToWrite {T = T} (λ bytes _ answer _. answer ≡ Done (length bytes)) (λ _ answer _. answer ≡ Done tt) new → ⊥
never_fails new (inl (old, bytes, (some, answer, failed, tried))) = takes_none (length bytes) some (subst IsFailedWrite tried.decides failed)
never_fails new (inr (old, (answer, undone, tried))) = subst IsUndone tried.decides undone

-- how many steps a run made, by the answer of its machine
pub within_so : (a : Answer) (made steps : ℕ) → made ≤ steps → (a ≡ answer.Going → made ≡ steps) → (is_stopped a ≡ true → made < steps) → (a ≡ answer.Broken Write → ⊥) → Within (left_of a) made steps
within_so answer.Going made steps most used held written = used refl
within_so (answer.Ended n) made steps most used held written = most
within_so (answer.Faulted f) made steps most used held written = most
within_so (answer.Broken Read) made steps most used held written = held refl
within_so (answer.Broken Write) made steps most used held written = absurd (written refl)
within_so answer.NoHeap made steps most used held written = held refl

-- how many steps a run made that stopped before they were used
pub within_stop : (t : Stop) (a : Answer) (made steps : ℕ) → said a ≡ Ok t → (t ≡ stop.StepsUsed → ⊥) → made ≤ steps → (is_stopped a ≡ true → made < steps) → Within (Stopped t) made steps
within_stop (stop.Ended n) a made steps is other most held = most
within_stop (stop.Fault f) a made steps is other most held = most
within_stop stop.StepsUsed a made steps is other most held = absurd (other refl)
within_stop stop.NoHeap a made steps is other most held = held (ap is_stopped (no_room a is))
