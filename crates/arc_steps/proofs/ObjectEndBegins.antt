-- The end of an object begins, or is a fault where too many calls and ends run: the machine goes on standing for the state after that.
use Rattle.std.proofs.Common.{◌≡◌, ℕ, suc, ◌∷◌, length, Option, Some, Bool, true, false, nat_lt, slice_get, slice_set, sym, ap, ◌∙◌, subst}
use Rattle.std.proofs.lemmas.List.{length-map}
use Rattle.arc_spec.specs.declared.event.Event.{Event}
use Rattle.arc_spec.specs.declared.event.Fault.TheVariants.{Depth}
use Rattle.arc_spec.specs.Objects.{Object, Live, Dying, in_phase}
use Rattle.arc_spec.specs.HolderCounts.{Heap, Ending, is_there, lowered, with_things, waiter_of}
use Rattle.arc_spec.specs.declared.limits.TheConstants.{MOST_LEVELS}
use Rattle.arc_spec.specs.SmallSteps.{Next, Goes}
use Rattle.arc_code.specs.CodeSteps.{Program, State, has_level, begins_end}
use Rattle.arc_heap.specs.Blocks.{Blocks}
use Rattle.arc_steps.specs.declared.answer.Answer.{Answer}
use Rattle.arc_steps.specs.declared.answer.Answer.TheVariants.{Going, Faulted}
use Rattle.arc_cells.specs.Cells.{Cell, IsCell}
use Rattle.arc_cells.specs.Representation.{Parts, Stands, cell_of, memory_of, waiting}
use Rattle.arc_steps.specs.Views.{MachineView, IsAt}
use Rattle.arc_steps.specs.Places.{Went, shown, sizes}
use Rattle.arc_steps.specs.Releases.{Begins}
use Rattle.arc_steps.proofs.RepresentationKept.{block_of}
use Rattle.arc_steps.proofs.ObjectEndRepresented.{dying_held, dying_stands}

-- the end of an object of these begins, whose last holder let go of it
abbrev pub begins : Program → State → (back k : ℕ) → Object → Heap → Next State
begins p s back k o h = begins_end p s back (suc k) o.class (with_things (lowered (suc k) h) (slice_set h.objects k (in_phase Dying o))) (has_level s)

module _ {S : Type 0} {foreign : Blocks} (out : S → Blocks) (p : Program) (old : MachineView S) (s : State) (is : IsAt foreign out p.classes old s) where
  pub level_is : (b : Bool) → nat_lt (length old.parts.frames) MOST_LEVELS ≡ b → has_level s ≡ b
  level_is b e =
      let t = is.memory.1 in
      let same : length old.parts.frames ≡ length s.frames = ap length t.waits ∙ length-map s.frames (waiting is.memory.0) in
      ap (λ n. nat_lt n MOST_LEVELS) (sym same) ∙ e

  module _ (n : Next State) (back k : ℕ) (o : Object) (h : Heap) (next : n ≡ begins p s back k o h) where
    -- one level more than there are
    pub faults_went : (new : MachineView S) (a : Answer) (event : Option Event) → nat_lt (length old.parts.frames) MOST_LEVELS ≡ false → a ≡ Faulted Depth → new ≡ old → Went foreign out p.classes n a (shown event) old new
    faults_went new a event level answer stays =
        subst (λ a. Went foreign out p.classes n a (shown event) old new) (sym answer)
        (next ∙ ap (begins_end p s back (suc k) o.class (with_things (lowered (suc k) h) (slice_set h.objects k (in_phase Dying o)))) (level_is false level), stays)

    -- the end begins
    pub begun_went : (m : Parts S) → Stands foreign is.memory.0 p.classes (memory_of out m) s.frames h → sizes m ≡ sizes old.parts → slice_get h.objects k ≡ Some o → o.phase ≡ Live → (w : ℕ) → w ≡ is.memory.0 k
        → (new : MachineView S) (a : Answer) (event : Option Event) → nat_lt (length old.parts.frames) MOST_LEVELS ≡ true → a ≡ Going → new.at ≡ p.end_step → new.stack ≡ old.stack
        → ((c : Cell) → IsCell (out m.store) w c → Begins out m new.parts w back (length p.classes) event c) → Went foreign out p.classes n a (shown event) old new
    begun_went m t same found live w word new a event level answer at stack begin =
        let stored = block_of is.memory.0 p.classes (memory_of out m) s.frames h t k o found (ap is_there live) in
        let cell = cell_of o (h.counts (suc k)) (suc k) stored.fields in
        let b = begin cell (subst (λ w. IsCell (out m.store) w cell) (sym word) stored.block) in
        let to : State = record { at = p.end_step; stack = s.stack; frames = Ending back (waiter_of h) (suc k) (Some o.class) (length p.classes) ∷ s.frames; held = dying_held h k o } in
        let dying = dying_stands is.memory.0 p.classes (memory_of out m) s.frames h t k o found live w word (memory_of out new.parts) (λ c is. (begin c is).block) back (Some o.class) (length p.classes) b.waits in
        subst (λ a. Went foreign out p.classes n a (shown event) old new) (sym answer) (
          to,
          next ∙ ap (begins_end p s back (suc k) o.class (with_things (lowered (suc k) h) (slice_set h.objects k (in_phase Dying o)))) (level_is true level) ∙ ap (λ es. Goes to es) (sym (ap shown b.shown)),
          record { at = at; stack = stack ∙ is.stack; memory = (is.memory.0, dying) },
          ap sizes b.waits ∙ same,
        )
