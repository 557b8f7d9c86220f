-- The last step of an object's end, and the step that turns from its deallocs to its fields, from one state that the machine stands for.
use Rattle.std.proofs.Common.{◌≡◌, inl, inr, ℕ, suc, ◌+◌, ◌<◌, ◌≤◌, List, [], ◌∷◌, length, Some, Bool, true, if◌then◌else◌, slice_get, slice_set, refl, sym, ap, ◌∙◌, subst, arith}
use Rattle.std.specs.Prelude.{All}
use Rattle.std.proofs.lemmas.Bool.{cases_eq, eq-eqb, ne_eqb}
use Rattle.std.proofs.lemmas.List.{length-set}
use Rattle.std.proofs.lemmas.Option.{slice_get_within}
use Rattle.arc_spec.specs.declared.event.Fault.TheVariants.{Resurrected}
use Rattle.arc_spec.specs.Classes.{Class, field_order}
use Rattle.arc_spec.specs.Objects.{Gone, Object, Emptying, in_phase, object_at}
use Rattle.arc_spec.specs.HolderCounts.{Heap, ReturnFrame, Calling, Clearing, Waiter, is_there, resumed, on_left, with_variables, with_things, turned_in}
use Rattle.arc_spec.specs.SmallSteps.{Next, Goes, Faults, Along}
use Rattle.arc_code.specs.CodeSteps.{Program, State, Fits, ends_object, clears}
use Rattle.arc_heap.specs.Blocks.{Blocks}
use Rattle.arc_steps.specs.declared.answer.Answer.{Answer}
use Rattle.arc_cells.specs.declared.waiting.Waiter.{Waiter as Words}
use Rattle.arc_cells.specs.declared.waiting.Waiting.{Waiting}
use Rattle.arc_cells.specs.declared.waiting.Waiting.TheVariants.{Clear}
use Rattle.arc_cells.specs.Cells.{Cell, words as cell_words, IsCell, Becomes, with_phase}
use Rattle.arc_cells.specs.Representation.{Memory, Stands, Stored, Alters, EndsOther, Ends, IsEmptying, cell_of, memory_of, place, waiter_words, waiting, waiting_places, with_store, with_frames, undeclaring, resuming}
use Rattle.arc_steps.specs.Views.{MachineView, IsAt}
use Rattle.arc_steps.specs.Places.{Went, sizes}
use Rattle.arc_steps.specs.Releases.{LastStep}
use Rattle.arc_steps.specs.GlobalFieldStores.{FieldsStep}
use Rattle.arc_steps.proofs.RepresentationKept.{block_of, set_here, changed_stands, known_fields}
use Rattle.arc_steps.proofs.OperandsPresent.{left_there}
use Rattle.arc_steps.proofs.EndFramesKept.{ends_else}
use Rattle.arc_steps.proofs.ObjectEndRepresented.{there_fields, turned_is, reframed_stands, gone_stands}

set_twice : (fs : List Waiting) (a b : Waiting) → slice_set (slice_set fs 0 a) 0 b ≡ slice_set fs 0 b
set_twice [] a b = refl
set_twice (f ∷ fs) a b = refl

-- the fields of an object are destroyed from now on
turned_stands : {foreign : Blocks} (at : ℕ → ℕ) (classes : List Class) (m : Memory) (h : Heap) (frame : ReturnFrame) (w : Waiter) (back k : ℕ) (others : List ReturnFrame) → Stands foreign at classes m (frame ∷ others) h
    → waiting_places (frame ∷ others) ≡ w.temporaries + w.variables + waiting_places others → w.self ≤ length h.objects → All (EndsOther (suc k)) others → Ends classes h.objects others
    → (o : Object) → slice_get h.objects k ≡ Some o → is_there o.phase ≡ true → (fields : List ℕ) → fields ≡ field_order classes o.class → (word : ℕ) → word ≡ at k → (mid : Memory) → Alters m mid word (λ c. with_phase c 2)
    → (m' : Memory) → m' ≡ with_frames mid (slice_set mid.frames 0 (Clear back (waiter_words at w) word (length fields))) → Stands foreign at classes m' (Clearing back w (suc k) fields ∷ others) (with_things h (turned_in Emptying h.objects (suc k)))
turned_stands {foreign = foreign} at classes m h frame w back k others t places known unended ends o found here fields order word is mid alters m' now =
    let n = length h.objects in
    let call : ReturnFrame = Calling back w in
    let called = waiting at call in
    let m1 = with_frames m (slice_set m.frames 0 called) in
    let t1 = reframed_stands at classes m h frame call others t (sym places) known ends called refl m1 refl in
    let stored = block_of at classes m (frame ∷ others) h t k o found here in
    let cell = cell_of o (h.counts (suc k)) (suc k) stored.fields in
    let above : 0 < word = subst (λ w. 0 < w) (sym is) (t.some k) in
    let change : Becomes m.store mid.store (at k) (with_phase cell 2) =
    subst (λ w. Becomes m.store mid.store w (with_phase cell 2)) is (alters.block above cell (subst (λ w. IsCell m.store w cell) (sym is) stored.block)) in
    let x = in_phase Emptying o in
    let kept : Stored (place at) classes mid.store (at k) (suc k) (h.counts (suc k)) x = record { fields = stored.fields; block = change.here; values = stored.values; names = stored.names; all = stored.all } in
    let ends_now : Ends classes (slice_set h.objects k x) others = ends_else classes h.objects k x others unended ends in
    let t2 = changed_stands at classes m1 (call ∷ others) h t1 k o x h.counts found here (cell, stored.block, refl) mid.store _ change (λ gone. absurd (cc)) (λ j other. refl) kept ends_now
    (there_fields h k o x found here refl refl (known_fields at classes m (frame ∷ others) h t k o found)) in
    let h2 : Heap = with_things h (slice_set h.objects k x) in
    let same : length h.objects ≡ length h2.objects = sym (length-set h.objects k x) in
    let below = slice_get_within h.objects k o found in
    let clearing : ReturnFrame = Clearing back w (suc k) fields in
    let clear = waiting at clearing in
    let emptying : IsEmptying classes fields (object_at h2.objects (suc k)) = subst (λ found. IsEmptying classes fields found) (sym (set_here h.objects k x o found)) (refl, 0, order) in
    let t3 = reframed_stands at classes (with_store m1 mid.store) h2 call clearing others t2 refl (omega (arith, known, same), omega (arith, below, same)) (emptying, unended, ends_now) clear refl
    (with_frames (with_store m1 mid.store) (slice_set (slice_set m.frames 0 called) 0 clear)) refl in
    let spelled : Clear back (waiter_words at w) word (length fields) ≡ clear = ap (λ w'. Clear back (waiter_words at w) w' (length fields)) is in
    let memory : m' ≡ with_frames (with_store m1 mid.store) (slice_set (slice_set m.frames 0 called) 0 clear) =
    now ∙ ap (λ (mm : Memory). with_frames mm (slice_set mm.frames 0 (Clear back (waiter_words at w) word (length fields)))) alters.others
    ∙ ap (λ f. with_frames (with_store m mid.store) (slice_set m.frames 0 f)) spelled ∙ ap (λ fs. with_frames (with_store m mid.store) fs) (sym (set_twice m.frames called clear)) in
    subst (λ (mm : Memory). Stands foreign at classes mm (clearing ∷ others) (with_things h (turned_in Emptying h.objects (suc k)))) (sym memory)
    (subst (λ (objects : List Object). Stands foreign at classes (with_frames (with_store m1 mid.store) (slice_set (slice_set m.frames 0 called) 0 clear)) (clearing ∷ others) (with_things h objects)) (sym (turned_is h.objects k o found)) t3)

module _ {S : Type 0} {foreign : Blocks} (out : S → Blocks) (p : Program) (old : MachineView S) (s : State) (is : IsAt foreign out p.classes old s) (n : Next State) (along : Along (Fits p) n) (frame : ReturnFrame) (w : Waiter) (back k : ℕ) (others : List ReturnFrame) (o : Object)
    (frames : s.frames ≡ frame ∷ others) (places : waiting_places (frame ∷ others) ≡ w.temporaries + w.variables + waiting_places others) (known : w.self ≤ length s.held.objects)
    (unended : All (EndsOther (suc k)) others) (ends : Ends p.classes s.held.objects others) (found : slice_get s.held.objects k ≡ Some o) (here : is_there o.phase ≡ true) (waiter : Words) (words : waiter ≡ waiter_words is.memory.0 w)
    (object : ℕ) (word : object ≡ is.memory.0 k) (new : MachineView S) where
  -- the last step of an object
  pub last_went : n ≡ ends_object s back w (suc k) others → (a : Answer) → ((c : Cell) → IsCell (out old.parts.store) object c → LastStep out c.count back waiter object a old new) → Went foreign out p.classes n a [] old new
  last_went is_last a last =
      let at = is.memory.0 in
      let t = is.memory.1 in
      let there = subst (λ fs. Stands foreign at p.classes (memory_of out old.parts) fs s.held) frames t in
      let stored = block_of at p.classes (memory_of out old.parts) s.frames s.held t k o found here in
      let cell = cell_of o (s.held.counts (suc k)) (suc k) stored.fields in
      let step = last cell (subst (λ w. IsCell (out old.parts.store) w cell) (sym word) stored.block) in
      let goes_back : Heap → Next State = λ h. Goes (record { at = back; stack = s.stack; frames = others; held = resumed w (with_things h (turned_in Gone h.objects (suc k))) }) [] in
      let bare : Next State = on_left s.held.temporaries s.held goes_back in
      let tests : Bool → Next State = λ b. if b then bare else Faults Resurrected in
      elim (cases_eq (s.held.counts (suc k)) 0) [
        | inl none ↦ (let gone = step.gone none in
            let leaves = gone.3 in
            let is_bare : n ≡ bare = is_last ∙ ap tests (eq-eqb (s.held.counts (suc k)) 0 none) in
            let left_bare = left_there (Fits p) s.held.temporaries s.held goes_back (subst (λ (n : Next State). Along (Fits p) n) is_bare along) in
            let memory = leaves.waits ∙ ap (resuming (undeclaring (with_store (memory_of out old.parts) (out new.parts.store)))) words in
            subst (λ a. Went foreign out p.classes n a [] old new) (sym gone.0) (
              record { at = back; stack = s.stack; frames = others; held = resumed w (with_things (with_variables s.held []) (turned_in Gone s.held.objects (suc k))) },
              is_bare ∙ left_bare.1,
              record {
                at = gone.1;
                stack = gone.2 ∙ is.stack;
                memory = (at, gone_stands at p.classes (memory_of out old.parts) s.held frame w k others there places known unended ends left_bare.0 o found here none object word (memory_of out new.parts) leaves.block memory);
              },
              ap sizes memory,
            ))
        | inr some ↦ (let held = step.held (omega (arith, some)) in
            subst (λ a. Went foreign out p.classes n a [] old new) (sym held.0) (is_last ∙ ap tests (ne_eqb (s.held.counts (suc k)) 0 some), held.1))
      ]

  -- the deallocs of an object are done
  pub fields_went : (fields : List ℕ) → fields ≡ field_order p.classes o.class → n ≡ clears p s back w (suc k) fields others → (a : Answer)
      → ((c : Cell) → IsCell (out old.parts.store) object c → c.class ≡ o.class → FieldsStep out (length fields) back waiter object c a old new) → Went foreign out p.classes n a [] old new
  fields_went [] order goes a step =
      let at = is.memory.0 in
      let stored = block_of at p.classes (memory_of out old.parts) s.frames s.held is.memory.1 k o found here in
      let block = subst (λ w. IsCell (out old.parts.store) w (cell_of o (s.held.counts (suc k)) (suc k) stored.fields)) (sym word) stored.block in
      last_went goes a (λ c block_is.
      let both : Some (cell_words c) ≡ Some (cell_words (cell_of o (s.held.counts (suc k)) (suc k) stored.fields)) = sym block_is ∙ block in
      step c block_is (cc))
  fields_went (index ∷ fields) order goes a step =
      let at = is.memory.0 in
      let there = subst (λ fs. Stands foreign at p.classes (memory_of out old.parts) fs s.held) frames is.memory.1 in
      let stored = block_of at p.classes (memory_of out old.parts) s.frames s.held is.memory.1 k o found here in
      let cell = cell_of o (s.held.counts (suc k)) (suc k) stored.fields in
      let (answer, place_is, stack, mid, alters, now) = step cell (subst (λ w. IsCell (out old.parts.store) w cell) (sym word) stored.block) refl in
      let memory = ap (memory_of out) now ∙ ap (λ x. with_frames (memory_of out mid) (slice_set mid.frames 0 (Clear back x object (length (index ∷ fields))))) words in
      subst (λ a. Went foreign out p.classes n a [] old new) (sym answer) (
        record { at = s.at; stack = s.stack; frames = Clearing back w (suc k) (index ∷ fields) ∷ others; held = with_things s.held (turned_in Emptying s.held.objects (suc k)) },
        goes,
        record {
          at = place_is ∙ is.at;
          stack = stack ∙ is.stack;
          memory = (at, turned_stands at p.classes (memory_of out old.parts) s.held frame w back k others there places known unended ends o found here (index ∷ fields) order object word (memory_of out mid) alters (memory_of out new.parts) memory);
        },
        ap sizes now ∙ ap sizes alters.others,
      )
