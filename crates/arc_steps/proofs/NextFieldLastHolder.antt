-- The next field to be destroyed is the last holder of what it names: the end of that object has to begin.
use Rattle.std.proofs.Common.{◌≡◌, inl, inr, ℕ, ◌-◌, ◌<◌, List, length, get_or, Option, Some, Bool, nat_lt, slice_get, sym, ap, ◌∙◌, subst}
use Rattle.std.proofs.lemmas.Bool.{cases_eq}
use Rattle.std.proofs.lemmas.List.{length-set}
use Rattle.arc_spec.specs.Classes.{Class}
use Rattle.arc_spec.specs.declared.event.Event.{Event}
use Rattle.arc_spec.specs.declared.limits.TheConstants.{MOST_LEVELS}
use Rattle.arc_code.specs.declared.instr.Instr.TheVariants.{EndStep}
use Rattle.arc_code.specs.CodeSteps.{Program}
use Rattle.arc_heap.specs.Blocks.{Blocks}
use Rattle.arc_steps.specs.declared.answer.Answer.{Answer}
use Rattle.arc_cells.specs.declared.waiting.Waiter.{Waiter as Words}
use Rattle.arc_cells.specs.declared.waiting.Waiting.TheVariants.{Clear}
use Rattle.arc_cells.specs.Cells.{Cell, words, IsCell, HasField, with_word}
use Rattle.arc_steps.specs.FieldClearing.{FieldNames, Clears, LastField, LastClear}
use Rattle.arc_steps.specs.Places.{Ready, Executes, shown}
use Rattle.arc_cells.specs.Representation.{Parts, IsLast}
use Rattle.arc_steps.specs.GlobalFieldStores.{ClearsNext}
use Rattle.arc_steps.specs.Views.{MachineView}
use Rattle.arc_steps.proofs.NextFieldClearable.{can_clear, same_fields}
use Rattle.arc_cells.specs.declared.cell.TheConstants.{MOST_FIELDS}

module _ {S : Type 0} (out : S → Blocks) (classes : List Class) (m : Parts S) where
  -- what waits is known by its parts
  pub last_field : (l : LastClear out classes m) (back : ℕ) (waiter : Words) (object left : ℕ) → slice_get m.frames 0 ≡ Some (Clear back waiter object left) → LastField out classes m object left
  last_field l back waiter object left frame =
      let both : Some (Clear l.back l.waiter l.object l.left) ≡ Some (Clear back waiter object left) = sym l.waits ∙ frame in
      let o : l.object ≡ object = cc in
      let n : l.left ≡ left = cc in
      subst (λ o. LastField out classes m o left) o (subst (λ n. LastField out classes m l.object n) n l.field)

  module _ (object left : ℕ) (l : LastField out classes m object left) where
    -- there is a next field
    pub next_some : (found : Option ℕ) → ClearsNext out classes m object left found → found ≡ Some l.slot
    next_some found means = means l.named.cell l.named.block ∙ sym (l.next l.named.cell l.named.block)

    -- the same, where it was found at this index and names this
    pub reported_again : (slot name : ℕ) → ClearsNext out classes m object left (Some slot) → ((c : Cell) → IsCell (out m.store) object c → name ≡ get_or c.fields slot 0) → FieldNames out m object slot name × IsLast (out m.store) name
    reported_again slot name means all_decoded =
        let both : Some slot ≡ Some l.slot = next_some (Some slot) means in
        let same : l.slot ≡ slot = cc in
        let named = subst (λ slot. FieldNames out m object slot l.name) same l.named in
        let name_is : l.name ≡ name = named.is ∙ sym (all_decoded named.cell named.block) in
        (subst (λ name. FieldNames out m object slot name) name_is named, subst (λ name. IsLast (out m.store) name) name_is l.last)

    pub last_short : (slot : ℕ) → ClearsNext out classes m object left (Some slot) → (slot < MOST_FIELDS) × HasField (out m.store) object slot
    last_short slot means =
        let both : Some slot ≡ Some l.slot = next_some (Some slot) means in
        let same : l.slot ≡ slot = cc in
        let named = subst (λ slot. FieldNames out m object slot l.name) same l.named in
        (named.short, (named.cell, named.block, named.within))

module _ {S : Type 0} (out : S → Blocks) (p : Program) (old : MachineView S) (back : ℕ) (waiter : Words) (object left : ℕ) (frame : slice_get old.parts.frames 0 ≡ Some (Clear back waiter object left)) (r : Ready out p EndStep old) where
  pub last_left : (l : LastField out p.classes old.parts object left) → 0 < left
  last_left l = ((can_clear out p old back waiter object left frame r).next l.slot l.next).0

  -- what ends has a block with a holder, also where the field is nil already
  pub last_block : (l : LastField out p.classes old.parts object left) (mid : Parts S) → Clears out old.parts mid back waiter object l.slot (left - 1) → (c : Cell) × IsCell (out mid.store) l.name c × (0 < c.count)
  last_block l mid clears =
      let can = can_clear out p old back waiter object left frame r in
      let next = can.next l.slot l.next in
      let named = next.2 in
      let both : Some (words l.named.cell) ≡ Some (words named.cell) = sym l.named.block ∙ named.block in
      let same : l.name ≡ next.1 = l.named.is ∙ ap (λ (l' : List ℕ). get_or l' l.slot 0) (same_fields l.named.cell named.cell both) ∙ sym named.is in
      let held = next.3 (subst (λ n. 0 < n) same l.last.0) in
      let block : IsCell (out old.parts.store) l.name held.0 = ap (out old.parts.store) same ∙ held.1 in
      let changed = clears.field.block can.clears.some in
      let still : (c : Cell) × IsCell (out clears.mid.store) l.name c × (0 < c.count) = elim (cases_eq l.name object) [
        | inl own ↦ (let here = changed held.0 (ap (out old.parts.store) (sym own) ∙ block) in
            (with_word held.0 l.slot 0, ap (out clears.mid.store) own ∙ here.here, held.2))
        | inr other ↦ (held.0, (changed l.named.cell l.named.block).others l.name other ∙ block, held.2)
      ] in
      subst (λ (m : Parts S). (c : Cell) × IsCell (out m.store) l.name c × (0 < c.count)) (sym clears.now) still

  -- as many wait as before
  pub last_level : (l : LastField out p.classes old.parts object left) (mid : Parts S) → Clears out old.parts mid back waiter object l.slot (left - 1) → (b : Bool) → nat_lt (length old.parts.frames) MOST_LEVELS ≡ b → nat_lt (length mid.frames) MOST_LEVELS ≡ b
  last_level l mid clears b level =
      let wait = Clear back waiter object (left - 1) in
      let many : length mid.frames ≡ length old.parts.frames = ap (λ (m : Parts S). length m.frames) clears.now ∙ length-set clears.mid.frames 0 wait ∙ ap (λ m. length m.frames) clears.field.others in
      ap (λ n. nat_lt n MOST_LEVELS) many ∙ level

-- an instruction that was executed from the same place
pub executed : {S : Type 0} (out : S → Blocks) (p : Program) (old now new : MachineView S) (a b : Answer) (event shows : Option Event) → now ≡ old → b ≡ a → shows ≡ event → Executes out p EndStep a (shown event) now new → Executes out p EndStep b (shown shows) old new
executed out p old now new a b event shows same answer is h =
    subst (λ m. Executes out p EndStep b (shown shows) m new) same
    (subst (λ a. Executes out p EndStep a (shown shows) now new) (sym answer) (subst (λ event. Executes out p EndStep a (shown event) now new) (sym is) h))
