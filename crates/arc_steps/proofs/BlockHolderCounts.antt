-- A block counts as many holders as its object has, also after it gains or loses one; when the last holder lets go of an object.
use Rattle.std.proofs.Common.{◌≡◌, ◌⊎◌, inl, inr, ℕ, zero, suc, ◌+◌, ◌-◌, ◌<◌, List, Option, Some, Bool, true, false, ◌&&◌, nat_eq, if◌then◌else◌, slice_get, slice_set, refl, sym, ap, ◌∙◌, subst, arith}
use Rattle.std.proofs.lemmas.Bool.{ne_eqb}
use Rattle.arc_spec.specs.Classes.{Class}
use Rattle.arc_spec.specs.Objects.{Object, Phase, Live, Dying, Emptying, Gone, in_phase, is_live}
use Rattle.arc_spec.specs.HolderCounts.{Heap, ReturnFrame, is_there, raised, lowered, on_object, lets_go, with_things}
use Rattle.arc_spec.specs.SmallSteps.{Next, only_if}
use Rattle.arc_heap.specs.Blocks.{Blocks}
use Rattle.arc_cells.specs.Cells.{Cell, words, IsCell, Becomes, with_count}
use Rattle.arc_cells.specs.Representation.{Memory, Stands, NamesBlock, Alters, IsLast, cell_of, phase_word, place, with_store}
use Rattle.arc_steps.proofs.RepresentationKept.{block_of, raised_nil, raised_stands, lowered_nil, lowered_stands}
use Rattle.arc_steps.proofs.WordsNameObjects.{block_cell, names_cell}
use Rattle.arc_steps.proofs.OperandsPresent.{IsThere}

pub live_of : (phase : Phase) → is_there phase ≡ true → phase_word phase ≡ 0 → phase ≡ Live
live_of Live e none = refl
live_of Dying e none = absurd (omega (arith, none))
live_of Emptying e none = absurd (omega (arith, none))
live_of Gone e none = absurd (cc)

phase_cases : (phase : Phase) → is_there phase ≡ true → (phase ≡ Live) ⊎ ((phase ≡ Dying) ⊎ (phase ≡ Emptying))
phase_cases Live e = inl refl
phase_cases Dying e = inr (inl refl)
phase_cases Emptying e = inr (inr refl)
phase_cases Gone e = absurd (cc)

module _ {foreign : Blocks} (at : ℕ → ℕ) (classes : List Class) (m : Memory) (frames : List ReturnFrame) (h : Heap) (t : Stands foreign at classes m frames h) where
  pub block_phase : (k : ℕ) (o : Object) (there : slice_get h.objects k ≡ Some o) (here : is_there o.phase ≡ true) (c : Cell) → IsCell m.store (at k) c → c.phase ≡ phase_word o.phase
  block_phase k o there here c is =
      let stored = block_of at classes m frames h t k o there here in
      let both : Some (words c) ≡ Some (words (cell_of o (h.counts (suc k)) (suc k) stored.fields)) = sym is ∙ stored.block in
      cc

  pub block_here : (k : ℕ) (o : Object) → slice_get h.objects k ≡ Some o → is_there o.phase ≡ true → (c : Cell) × IsCell m.store (at k) c
  block_here k o there here =
      let stored = block_of at classes m frames h t k o there here in
      (cell_of o (h.counts (suc k)) (suc k) stored.fields, stored.block)

  -- what isn't gone has a block, and nil has none
  pub named_block : (r w : ℕ) → IsThere h.objects r → w ≡ place at r → NamesBlock m.store w
  named_block r w there e = subst (λ w. NamesBlock m.store w) (sym e) (names_cell at classes m frames h t r there)

  -- a fact of the object's count is one of its block's
  pub named_count : (P : ℕ → Type 0) (r w : ℕ) → IsThere h.objects r → w ≡ place at r → ((k : ℕ) → r ≡ suc k → P (h.counts (suc k))) → 0 < w → (c : Cell) → IsCell m.store w c → P c.count
  named_count P zero w there e fact above c is = let none : w ≡ 0 = e in absurd (omega arith)
  named_count P (suc k) w there e fact above c is =
      let same = block_cell at classes m frames h t k there.0 c there.1 there.2 (subst (λ w. IsCell m.store w c) e is) in
      subst P (sym same.1) (fact k refl)

  -- ---- the last holder

  pub last_means : (k : ℕ) (o : Object) → slice_get h.objects k ≡ Some o → is_there o.phase ≡ true → IsLast m.store (at k) → (o.phase ≡ Live) × (h.counts (suc k) ≡ 1)
  last_means k o there here last =
      let stored = block_of at classes m frames h t k o there here in
      let says = last.1 (cell_of o (h.counts (suc k)) (suc k) stored.fields) stored.block in
      (live_of o.phase here says.0, says.1)

  pub last_if : (k : ℕ) (o : Object) → slice_get h.objects k ≡ Some o → o.phase ≡ Live → h.counts (suc k) ≡ 1 → IsLast m.store (at k)
  last_if k o there live one = (
    t.some k,
    λ c is.
        let here : is_there o.phase ≡ true = ap is_there live in
        (block_phase k o there here c is ∙ ap phase_word live, (block_cell at classes m frames h t k o c there here is).1 ∙ one),
  )

  -- ---- one holder more, or less

  pub raised_any : (r w : ℕ) (m' : Memory) → IsThere h.objects r → w ≡ place at r → Alters m m' w (λ c. with_count c (c.count + 1)) → Stands foreign at classes m' frames (raised r h)
  raised_any zero w m' there e a =
      let same : m'.store ≡ m.store = a.nil e in
      let is : m ≡ m' = sym (a.others ∙ ap (with_store m) same) in
      subst (λ m. Stands foreign at classes m frames (raised 0 h)) is (raised_nil at classes m frames h t)
  raised_any (suc k) w m' there e a =
      let above : 0 < w = subst (λ w. 0 < w) (sym e) (t.some k) in
      let change : (c : Cell) → IsCell m.store (at k) c → Becomes m.store m'.store (at k) (with_count c (c.count + 1)) =
      λ c is. subst (λ w. Becomes m.store m'.store w (with_count c (c.count + 1))) e (a.block above c (subst (λ w. IsCell m.store w c) (sym e) is)) in
      subst (λ m. Stands foreign at classes m frames (raised (suc k) h)) (sym a.others) (raised_stands at classes m frames h t k there.0 there.1 there.2 m'.store change)

  pub lowered_any : (r w : ℕ) (m' : Memory) → IsThere h.objects r → w ≡ place at r → Alters m m' w (λ c. with_count c (c.count - 1)) → Stands foreign at classes m' frames (lowered r h)
  lowered_any zero w m' there e a =
      let same : m'.store ≡ m.store = a.nil e in
      let is : m ≡ m' = sym (a.others ∙ ap (with_store m) same) in
      subst (λ m. Stands foreign at classes m frames (lowered 0 h)) is (lowered_nil at classes m frames h t)
  lowered_any (suc k) w m' there e a =
      let above : 0 < w = subst (λ w. 0 < w) (sym e) (t.some k) in
      let change : (c : Cell) → IsCell m.store (at k) c → Becomes m.store m'.store (at k) (with_count c (c.count - 1)) =
      λ c is. subst (λ w. Becomes m.store m'.store w (with_count c (c.count - 1))) e (a.block above c (subst (λ w. IsCell m.store w c) (sym e) is)) in
      subst (λ m. Stands foreign at classes m frames (lowered (suc k) h)) (sym a.others) (lowered_stands at classes m frames h t k there.0 there.1 there.2 m'.store change)

-- ---- what a state does where an object is let go of

live_test : (o : Object) → o.phase ≡ Live → is_live (Some o) ≡ true
live_test o e = subst (λ phase. is_live (Some (in_phase phase o)) ≡ true) (sym e) refl

dying_test : (o : Object) → o.phase ≡ Dying → is_live (Some o) ≡ false
dying_test o e = subst (λ phase. is_live (Some (in_phase phase o)) ≡ false) (sym e) refl

emptying_test : (o : Object) → o.phase ≡ Emptying → is_live (Some o) ≡ false
emptying_test o e = subst (λ phase. is_live (Some (in_phase phase o)) ≡ false) (sym e) refl

pub test_ends : (o : Object) (count : ℕ) → o.phase ≡ Live → count ≡ 1 → (is_live (Some o) && nat_eq count 1) ≡ true
test_ends o count live one = ap (λ t. t && nat_eq count 1) (live_test o live) ∙ ap (λ n. nat_eq n 1) one

test_stays : (o : Object) (count : ℕ) → is_there o.phase ≡ true → (o.phase ≡ Live → count ≡ 1 → ⊥) → (is_live (Some o) && nat_eq count 1) ≡ false
test_stays o count here others_hold = elim (phase_cases o.phase here) [
  | inl live ↦ ap (λ t. t && nat_eq count 1) (live_test o live) ∙ ne_eqb count 1 (λ one. others_hold live one)
  | inr (inl dying) ↦ ap (λ t. t && nat_eq count 1) (dying_test o dying)
  | inr (inr emptying) ↦ ap (λ t. t && nat_eq count 1) (emptying_test o emptying)
]

pub object_goes : {S : Type 0} (found : Option Object) (o : Object) (go : Object → Next S) → found ≡ Some o → is_there o.phase ≡ true → on_object found go ≡ go o
object_goes found o go e there = ap (λ f. on_object f go) e ∙ ap (λ b. only_if b (go o)) there

module _ {S : Type 0} (k : ℕ) (h : Heap) (o : Object) (stays : Heap → Next S) (ends : (o class : ℕ) → Heap → Next S) (there : slice_get h.objects k ≡ Some o) (here : is_there o.phase ≡ true) where
  lets_go_is : (b : Bool) → (is_live (Some o) && nat_eq (h.counts (suc k)) 1) ≡ b
      → lets_go (suc k) h stays ends ≡ (if b then ends (suc k) o.class (with_things (lowered (suc k) h) (slice_set h.objects k (in_phase Dying o))) else stays (lowered (suc k) h))
  lets_go_is b test =
      let last = ends (suc k) o.class (with_things (lowered (suc k) h) (slice_set h.objects k (in_phase Dying o))) in
      let other = stays (lowered (suc k) h) in
      object_goes (slice_get h.objects k) o (λ o. if is_live (Some o) && nat_eq (h.counts (suc k)) 1 then ends (suc k) o.class (with_things (lowered (suc k) h) (slice_set h.objects k (in_phase Dying o))) else other) there here
      ∙ ap (λ b. if b then last else other) test

  pub lets_go_stays : (o.phase ≡ Live → h.counts (suc k) ≡ 1 → ⊥) → lets_go (suc k) h stays ends ≡ stays (lowered (suc k) h)
  lets_go_stays others_hold = lets_go_is false (test_stays o (h.counts (suc k)) here others_hold)

  pub lets_go_ends : o.phase ≡ Live → h.counts (suc k) ≡ 1 → lets_go (suc k) h stays ends ≡ ends (suc k) o.class (with_things (lowered (suc k) h) (slice_set h.objects k (in_phase Dying o)))
  lets_go_ends live one = lets_go_is true (test_ends o (h.counts (suc k)) live one)
