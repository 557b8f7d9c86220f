-- The next field of an object whose fields are destroyed can be destroyed: it has a word, and what it names has a block with a holder.
use Rattle.std.proofs.Common.{◌≡◌, get_or, ℕ, zero, suc, ◌+◌, ◌-◌, ◌<◌, ◌≤◌, List, [], ◌∷◌, ◌++◌, length, Some, Bool, nat_lt, if◌then◌else◌, slice_get, refl, sym, ap, ◌∙◌, subst, arith}
use Rattle.arc_spec.specs.Classes.{field_order, numbers_from, lesser, order_of_fields}
use Rattle.std.specs.Prelude.{All}
use Rattle.std.proofs.lemmas.Option.{slice_get_within}
use Rattle.std.proofs.lemmas.List.Elements.{All-nil, All-cons, All-append}
use Rattle.arc_spec.specs.Objects.{Object, fields_of, field_places}
use Rattle.arc_spec.specs.HolderCounts.{is_there, holders, stacked, all_places}
use Rattle.arc_code.specs.declared.instr.Instr.TheVariants.{EndStep}
use Rattle.arc_code.specs.CodeSteps.{Program}
use Rattle.arc_heap.specs.Blocks.{Blocks}
use Rattle.arc_cells.specs.declared.waiting.Waiter.{Waiter as Words}
use Rattle.arc_cells.specs.declared.waiting.Waiting.TheVariants.{Clear}
use Rattle.arc_cells.specs.Cells.{Cell, words, IsCell}
use Rattle.arc_cells.specs.Representation.{Stands, cell_of, memory_of, place, order_at, next_in}
use Rattle.arc_steps.specs.FieldClearing.{CanClear}
use Rattle.arc_steps.proofs.RepresentationKept.{block_of}
use Rattle.arc_steps.proofs.ObjectFieldWords.{named_field}
use Rattle.arc_steps.proofs.FieldOrderCorrect.{order_is, next_found, index_found}
use Rattle.arc_steps.specs.GlobalFieldStores.{IsClearing}
use Rattle.arc_steps.specs.Views.{MachineView}
use Rattle.arc_steps.specs.Places.{Ready}
use Rattle.arc_steps.proofs.WordsNameObjects.{holders_more, holders_some, holders_first, holders_at, there_of}
use Rattle.arc_steps.proofs.BlockHolderCounts.{block_here, named_block, named_count}
use Rattle.arc_steps.proofs.ObjectEndRepresented.{cleared, emptying_object}
use Rattle.arc_steps.proofs.ReferenceSimulation.{places_enough}

numbers_below : (first count most : ℕ) → first + count ≤ most → All (λ i. i < most) (numbers_from first count)
numbers_below first zero most within = All-nil (λ i. i < most)
numbers_below first (suc n) most within = All-cons (λ i. i < most) first (numbers_from (suc first) n) (omega (arith, within)) (numbers_below (suc first) n most (omega (arith, within)))

lesser_by : (a b : ℕ) (t : Bool) → nat_lt a b ≡ t → lesser a b ≡ (if t then a else b)
lesser_by a b t e = ap (λ (t : Bool). if t then a else b) e

lesser_within : (a b : ℕ) → lesser a b ≤ b
lesser_within a b = grind (arith)

-- each field of the order is one of the class
pub order_below : (count most : ℕ) (inherited : List ℕ) → count ≤ most → All (λ i. i < most) (order_of_fields count inherited)
order_below count most [] within = numbers_below 0 count most (omega (arith, within))
order_below count most (n ∷ above) within =
    let few = lesser_within n count in
    All-append (λ i. i < most) (numbers_from (lesser n count) (count - lesser n count)) (order_of_fields (lesser n count) above)
    (numbers_below (lesser n count) (count - lesser n count) most (omega (arith, few, within))) (order_below (lesser n count) most above (omega (arith, few, within)))

holders_last : (o : ℕ) (places others : List ℕ) → holders o others ≤ holders o (places ++ others)
holders_last o [] others = omega arith
holders_last o (p ∷ places) others =
    let rest = holders_last o places others in
    let more = holders_more o p (places ++ others) in
    omega (arith, rest, more)

-- what a field of an object names has a holder
pub field_held : (r index : ℕ) (xs : List Object) (k : ℕ) (o : Object) → slice_get xs k ≡ Some o → slice_get (fields_of o) index ≡ Some r → 0 < holders r (field_places xs)
field_held r index [] k o there named = absurd (cc)
field_held r index (x ∷ xs) zero o there named =
    let same : x ≡ o = cc in
    let here = holders_some r index (fields_of x) (ap (λ o. slice_get (fields_of o) index) same ∙ named) in
    let first = holders_first r (fields_of x) (field_places xs) in
    omega (arith, here, first)
field_held r index (x ∷ xs) (suc k) o there named =
    let rest = field_held r index xs k o there named in
    let last = holders_last r (fields_of x) (field_places xs) in
    omega (arith, rest, last)

pub got : (l : List ℕ) (i : ℕ) → i < length l → slice_get l i ≡ Some (get_or l i 0)
got [] i below = absurd (omega (arith, below))
got (x ∷ l) zero below = refl
got (x ∷ l) (suc i) below = got l i (omega (arith, below))

pub same_fields : (c d : Cell) → Some (words c) ≡ Some (words d) → c.fields ≡ d.fields
same_fields c d e = cc

-- what waits is the end of an object whose fields are destroyed: it has a block
module _ {S : Type 0} (out : S → Blocks) (p : Program) (old : MachineView S) (back : ℕ) (waiter : Words) (object left : ℕ) (frame : slice_get old.parts.frames 0 ≡ Some (Clear back waiter object left)) where
  pub ready_clearing : Ready out p EndStep old → IsClearing out old.parts object left
  ready_clearing r =
      let at = r.is.memory.0 in
      let t = r.is.memory.1 in
      let s = r.state in
      let e = cleared at s.frames back waiter object left (ap (λ fs. slice_get fs 0) (sym t.waits) ∙ frame) in
      let there = subst (λ fs. Stands r.foreign at p.classes (memory_of out old.parts) fs s.held) e.is t in
      let (k, number, (o, found, emptying, nth, order)) = emptying_object p.classes e.fields s.held.objects e.number there.ends.0 in
      let word : object ≡ at k = e.object_is ∙ ap (place at) number in
      let block = block_here at p.classes (memory_of out old.parts) s.frames s.held t k o found (ap is_there emptying) in
      let enough = places_enough out p old s r.is in
      record {
        some = subst (λ w. 0 < w) (sym word) (t.some k);
        ends = record {
          block = subst (λ w. (c : Cell) × IsCell (out old.parts.store) w c) (sym word) block;
          waits = slice_get_within old.parts.frames 0 (Clear back waiter object left) frame;
          places = omega (arith, enough);
        };
      }

  -- what the next field names has a block that counts a holder
  next_held : (r : Ready out p EndStep old) (j : ℕ) → 0 < holders (suc j) (field_places r.state.held.objects) → (word : ℕ) → word ≡ r.is.memory.0 j → (c : Cell) × IsCell (out old.parts.store) word c × (0 < c.count)
  next_held r j some word is =
      let at = r.is.memory.0 in
      let t = r.is.memory.1 in
      let h = r.state.held in
      let counted = r.fits.counts.counted in
      let one = holders_last (suc j) h.strong_globals (field_places h.objects) in
      let two = holders_last (suc j) (stacked h) (h.strong_globals ++ field_places h.objects) in
      let all : 0 < holders (suc j) (all_places h) = omega (arith, some, one, two) in
      let found = holders_at (suc j) (all_places h) all in
      let there = there_of at p.classes (memory_of out old.parts) r.state.frames h t counted found.0 (suc j) found.1 in
      let above : 0 < word = subst (λ w. 0 < w) (sym is) (t.some j) in
      let block = named_block at p.classes (memory_of out old.parts) r.state.frames h t (suc j) word there is above in
      (block.0, block.1, named_count at p.classes (memory_of out old.parts) r.state.frames h t (λ n. 0 < n) (suc j) word there is (λ i e. subst (λ n. 0 < n) (sym (counted i)) (subst (λ q. 0 < holders q (all_places h)) e all)) above block.0 block.1)

  held_by : (r : Ready out p EndStep old) (q : ℕ) → (0 < q → 0 < holders q (field_places r.state.held.objects)) → (word : ℕ) → word ≡ place r.is.memory.0 q → 0 < word → (c : Cell) × IsCell (out old.parts.store) word c × (0 < c.count)
  held_by r zero some word is above = absurd (omega (arith, is, above))
  held_by r (suc j) some word is above = next_held r j (some (omega arith)) word is

  -- the next field can be destroyed
  pub can_clear : Ready out p EndStep old → CanClear out p.classes old.parts object left
  can_clear r = record {
    clears = ready_clearing r;
    next = λ slot means.
        let at = r.is.memory.0 in
        let t = r.is.memory.1 in
        let s = r.state in
        let h = s.held in
        let e = cleared at s.frames back waiter object left (ap (λ fs. slice_get fs 0) (sym t.waits) ∙ frame) in
        let there = subst (λ fs. Stands r.foreign at p.classes (memory_of out old.parts) fs s.held) e.is t in
        let (k, number, (o, found, emptying, nth, order)) = emptying_object p.classes e.fields h.objects e.number there.ends.0 in
        let here = ap is_there emptying in
        let word : object ≡ at k = e.object_is ∙ ap (place at) number in
        let stored = block_of at p.classes (memory_of out old.parts) s.frames h t k o found here in
        let cell = cell_of o (h.counts (suc k)) (suc k) stored.fields in
        let block = subst (λ w. IsCell (out old.parts.store) w cell) (sym word) stored.block in
        let orders : order_at old.parts.orders o.class ≡ field_order p.classes o.class = ap (λ orders. order_at orders o.class) t.orders ∙ order_is p.classes o.class in
        let first : next_in (order_at old.parts.orders o.class) left ≡ slice_get e.fields 0 =
        ap (λ l. next_in l left) orders ∙ ap (next_in (field_order p.classes o.class)) (e.left_is ∙ ap length order) ∙ next_found (field_order p.classes o.class) nth ∙ ap (λ (l : List ℕ). slice_get l 0) (sym order) in
        let f = index_found (slice_get p.classes o.class) (next_in (order_at old.parts.orders o.class) left) slot (means cell block) in
        let index = f.0 in
        let nf = named_field at p.classes (out old.parts.store) (at k) (suc k) (h.counts (suc k)) o stored index slot f.2 in
        let some = slice_get_within e.fields 0 index (sym first ∙ f.1) in
        let there_name : slice_get o.strong index ≡ Some (get_or o.strong index 0) = got o.strong index nf.2 in
        let fields : slice_get (fields_of o) index ≡ Some (get_or o.strong index 0) = ap (λ (b : Bool). slice_get (if b then o.strong else []) index) here ∙ there_name in
        let both : Some (words nf.1.0) ≡ Some (words cell) = sym nf.1.1 ∙ stored.block in
        let same : nf.1.0.fields ≡ stored.fields = same_fields nf.1.0 cell both in (
          omega (arith, some, e.left_is),
          get_or stored.fields slot 0,
          record { short = nf.0; cell = cell; block = block; within = subst (λ (l : List ℕ). slot < length l) same nf.1.2; is = refl },
          held_by r (get_or o.strong index 0) (λ _. field_held (get_or o.strong index 0) index h.objects k o found fields) (get_or stored.fields slot 0) nf.3,
        );
  }
