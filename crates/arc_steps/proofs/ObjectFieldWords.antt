-- The words of an object's fields that name objects.
use Rattle.std.proofs.Common.{◌≡◌, ℕ, ◌+◌, ◌^◌, ◌<◌, ◌≤◌, List, length, map, drop, get_or, Option, Some, None, Bool, true, false, nat_lt, if◌then◌else◌, refl, sym, ap, ◌∙◌, arith, length-take, length-drop}
use Rattle.std.specs.Prelude.{slice_get}
use Rattle.std.proofs.lemmas.List.{length-map, get_or-take, get_or-drop}
use borrow.Author.Tests.{ltb-true, ltb-false}
use Rattle.arc_spec.specs.Classes.{Class, strong_count}
use Rattle.arc_spec.specs.Objects.{Object}
use Rattle.arc_spec.specs.HolderCounts.{count_of}
use Rattle.arc_heap.specs.Blocks.{Blocks}
use Rattle.arc_cells.specs.Cells.{HasField}
use Rattle.arc_cells.specs.Fields.{name_index}
use Rattle.arc_cells.specs.Representation.{Begin, Stored, cell_of, place}
use Rattle.arc_steps.proofs.ReferenceSimulation.{mapped_at}
use Rattle.arc_cells.specs.declared.cell.TheConstants.{MOST_FIELDS}

-- the first words are those of the names
pub begin_at : (names words : List ℕ) (i : ℕ) → Begin names words → i < length names → get_or words i 0 ≡ get_or names i 0
begin_at names words i h below = sym (get_or-take (length names) words i 0 below) ∙ ap (λ l. get_or l i 0) h

pub begin_length : (names words : List ℕ) → Begin names words → length names ≤ length words
begin_length names words h = let e = ap length h in let l = length-take (length names) words in omega (arith, e, l)

module _ (index fields strong : ℕ) where
  found_slot : (slot : ℕ) (b d : Bool) → nat_lt index strong ≡ b → nat_lt (fields + index) (2 ^ 64) ≡ d → (if b then (if d then Some (fields + index) else None) else None) ≡ Some slot → (slot ≡ fields + index) × (index < strong)
  found_slot slot true true e f h = (let same : slot ≡ fields + index = cc in same, ltb-true index strong e)
  found_slot slot true false e f h = absurd (cc)
  found_slot slot false d e f h = absurd (cc)

  no_slot : (b d : Bool) → fields + strong ≤ MOST_FIELDS → nat_lt index strong ≡ b → nat_lt (fields + index) (2 ^ 64) ≡ d → (if b then (if d then Some (fields + index) else None) else None) ≡ None → strong ≤ index
  no_slot true true few e f h = absurd (cc)
  no_slot true false few e f h = let below = ltb-true index strong e in let above = ltb-false (fields + index) (2 ^ 64) f in absurd (omega (arith, few, below, above))
  no_slot false d few e f h = ltb-false index strong e

pub slot_in : (found : Option Class) (index slot : ℕ) → name_index found index ≡ Some slot → (slot ≡ count_of found + index) × (index < strong_count found)
slot_in None index slot e = absurd (cc)
slot_in (Some c) index slot e = found_slot index c.fields.numbers c.fields.objects slot (nat_lt index c.fields.objects) (nat_lt (c.fields.numbers + index) (2 ^ 64)) refl refl e

slot_past : (found : Option Class) (index : ℕ) → count_of found + strong_count found ≤ MOST_FIELDS → name_index found index ≡ None → strong_count found ≤ index
slot_past None index few e = omega arith
slot_past (Some c) index few e = no_slot index c.fields.numbers c.fields.objects (nat_lt index c.fields.objects) (nat_lt (c.fields.numbers + index) (2 ^ 64)) few refl refl e

module _ (at : ℕ → ℕ) (classes : List Class) (blocks : Blocks) (block number count : ℕ) (o : Object) (stored : Stored (place at) classes blocks block number count o) (index : ℕ) where
  -- an object has a field there, and its word
  pub named_field : (slot : ℕ) → name_index (slice_get classes o.class) index ≡ Some slot → (slot < MOST_FIELDS) × HasField blocks block slot × (index < length o.strong) × (get_or stored.fields slot 0 ≡ place at (get_or o.strong index 0))
  named_field slot e =
      let found = slot_in (slice_get classes o.class) index slot e in
      let all = stored.all in
      let names = map (place at) o.strong in
      let later = drop (length o.fields) stored.fields in
      let many = length-map o.strong (place at) in
      let within = begin_length names later stored.names in
      let left = length-drop (length o.fields) stored.fields in
      let below : index < length o.strong = omega (arith, found.1, all.1) in
      let slot_is : slot ≡ length o.fields + index = omega (arith, found.0, all.0) in
      let word : get_or stored.fields slot 0 ≡ get_or later index 0 = ap (λ n. get_or stored.fields n 0) slot_is ∙ sym (get_or-drop (length o.fields) stored.fields index 0) in (
        omega (arith, slot_is, below, all.2),
        (cell_of o count number stored.fields, stored.block, omega (arith, slot_is, below, within, many, left)),
        below,
        word ∙ begin_at names later index stored.names (omega (arith, below, many)) ∙ mapped_at at o.strong index,
      )

  -- or it has none
  pub named_none : name_index (slice_get classes o.class) index ≡ None → length o.strong ≤ index
  named_none e =
      let all = stored.all in
      let past = slot_past (slice_get classes o.class) index (omega (arith, all.0, all.1, all.2)) e in
      omega (arith, past, all.1)
