-- What the words of a memory's places name, and how many places name an object.
use Rattle.std.proofs.Common.{◌≡◌, ◌≢◌, inl, inr, ℕ, zero, suc, ◌+◌, ◌<◌, ◌≤◌, List, [], ◌∷◌, ◌++◌, length, map, take, Some, Bool, true, false, nat_eq, refl, sym, ap, ◌∙◌, subst, arith}
use Rattle.std.specs.Prelude.{All, slice_get, slice_set, if◌then◌else◌}
use Rattle.std.proofs.lemmas.Bool.{cases_eq, eq-eqb, ne_eqb}
use Rattle.std.proofs.lemmas.Bool.Decides.{eqb_tells}
use Rattle.std.proofs.lemmas.List.Elements.{All-get_or}
use Rattle.std.proofs.lemmas.Option.{slice_get_within, get_or_from_slice_get}
use Rattle.arc_heap.specs.Blocks.{Blocks}
use Rattle.arc_spec.specs.Classes.{Class}
use Rattle.arc_spec.specs.Objects.{Object, Phase, Live, Dying, Emptying, Gone}
use Rattle.arc_spec.specs.HolderCounts.{Heap, ReturnFrame, stacked, all_places, holders, is_there}
use Rattle.arc_cells.specs.Cells.{Cell, words, IsCell}
use Rattle.arc_cells.specs.Representation.{Memory, Kept, Stands, NamesBlock, cell_of, place}
use Rattle.arc_steps.proofs.RepresentationKept.{block_of, others_named}
use Rattle.arc_steps.proofs.OperandsPresent.{IsThere}

pub all_at : {X : Type 0} (P : X → Type 0) (xs : List X) (i : ℕ) (x : X) → slice_get xs i ≡ Some x → All P xs → P x
all_at P xs i x found all = subst P (get_or_from_slice_get xs i x x found) (All-get_or P xs i x (slice_get_within xs i x found) all)

-- ---- how many places name an object

counted_more : (t : Bool) (n : ℕ) → n ≤ (if t then suc n else n)
counted_more true n = omega arith
counted_more false n = omega arith

pub holders_same : (o : ℕ) (others : List ℕ) → holders o (o ∷ others) ≡ suc (holders o others)
holders_same o others = ap (λ t. if t then suc (holders o others) else holders o others) (eq-eqb o o refl)

pub holders_other : (o p : ℕ) (others : List ℕ) → o ≢ p → holders o (p ∷ others) ≡ holders o others
holders_other o p others ne = ap (λ t. if t then suc (holders o others) else holders o others) (ne_eqb o p ne)

pub holders_more : (o p : ℕ) (others : List ℕ) → holders o others ≤ holders o (p ∷ others)
holders_more o p others = counted_more (nat_eq o p) (holders o others)

-- a place names it
pub holders_some : (o d : ℕ) (places : List ℕ) → slice_get places d ≡ Some o → 0 < holders o places
holders_some o d [] e = absurd (cc)
holders_some o zero (p ∷ others) e =
    let same : o ≡ p = cc in
    subst (λ p. 0 < holders o (p ∷ others)) same (subst (λ n. 0 < n) (sym (holders_same o others)) (omega arith))
holders_some o (suc d) (p ∷ others) e =
    let rest = holders_some o d others e in
    let more = holders_more o p others in
    omega arith

-- one of them names it
pub holders_at : (o : ℕ) (places : List ℕ) → 0 < holders o places → (d : ℕ) × (slice_get places d ≡ Some o)
holders_at o [] some = absurd (omega (arith, some))
holders_at o (p ∷ others) some = elim (cases_eq o p) [
  | inl same ↦ (0, ap Some (sym same))
  | inr other ↦ (let rest = holders_at o others (subst (λ n. 0 < n) (holders_other o p others other) some) in (suc rest.0, rest.1))
]

first_step : (b : Bool) (n m : ℕ) → n ≤ m → (if b then suc n else n) ≤ (if b then suc m else m)
first_step true n m h = omega (arith, h)
first_step false n m h = h

-- those of some first places
pub holders_first : (o : ℕ) (places others : List ℕ) → holders o places ≤ holders o (places ++ others)
holders_first o [] others = omega arith
holders_first o (p ∷ places) others = first_step (nat_eq o p) (holders o places) (holders o (places ++ others)) (holders_first o places others)

pub take_get : (xs : List ℕ) (n d x : ℕ) → d < n → slice_get xs d ≡ Some x → slice_get (take n xs) d ≡ Some x
take_get [] n d x h e = absurd (cc)
take_get (y ∷ xs) zero d x h e = absurd (omega (arith, h))
take_get (y ∷ xs) (suc n) zero x h e = e
take_get (y ∷ xs) (suc n) (suc d) x h e = take_get xs n d x (omega (arith, h)) e

-- ---- the variables among all places

pub first_get : (vs ps : List ℕ) (i r : ℕ) → slice_get vs i ≡ Some r → slice_get (vs ++ ps) i ≡ Some r
first_get [] ps i r e = absurd (cc)
first_get (v ∷ vs) ps zero r e = e
first_get (v ∷ vs) ps (suc i) r e = first_get vs ps i r e

first_set : (vs ps : List ℕ) (i r : ℕ) → i < length vs → slice_set (vs ++ ps) i r ≡ slice_set vs i r ++ ps
first_set [] ps i r h = absurd (omega arith)
first_set (v ∷ vs) ps zero r h = refl
first_set (v ∷ vs) ps (suc i) r h = ap (λ l. v ∷ l) (first_set vs ps i r (omega arith))

pub variable_get : (ts vs ps : List ℕ) (i r : ℕ) → slice_get vs i ≡ Some r → slice_get ((ts ++ vs) ++ ps) (length ts + i) ≡ Some r
variable_get [] vs ps i r e = let same : i ≡ 0 + i = omega arith in ap (slice_get (vs ++ ps)) (sym same) ∙ first_get vs ps i r e
variable_get (t ∷ ts) vs ps i r e =
    let next : suc (length ts) + i ≡ suc (length ts + i) = omega arith in
    ap (slice_get (t ∷ ((ts ++ vs) ++ ps))) next ∙ variable_get ts vs ps i r e

pub variable_set : (ts vs ps : List ℕ) (i r : ℕ) → i < length vs → slice_set ((ts ++ vs) ++ ps) (length ts + i) r ≡ (ts ++ slice_set vs i r) ++ ps
variable_set [] vs ps i r h = let same : i ≡ 0 + i = omega arith in ap (λ d. slice_set (vs ++ ps) d r) (sym same) ∙ first_set vs ps i r h
variable_set (t ∷ ts) vs ps i r h =
    let next : suc (length ts) + i ≡ suc (length ts + i) = omega arith in
    ap (λ d. slice_set (t ∷ ((ts ++ vs) ++ ps)) d r) next ∙ ap (λ l. t ∷ l) (variable_set ts vs ps i r h)

-- ---- words and what they name

pub unmapped : (at : ℕ → ℕ) (refs : List ℕ) (d w : ℕ) → slice_get (map (place at) refs) d ≡ Some w → (r : ℕ) × (slice_get refs d ≡ Some r) × (w ≡ place at r)
unmapped at [] d w e = absurd (cc)
unmapped at (r ∷ refs) zero w e = (r, refl, cc)
unmapped at (r ∷ refs) (suc d) w e = unmapped at refs d w e

pub first_word : (at : ℕ → ℕ) (words refs rest : List ℕ) (w r : ℕ) → words ≡ map (place at) refs → refs ≡ r ∷ rest → slice_get words 0 ≡ Some w → w ≡ place at r
first_word at words refs rest w r is split e =
    let both : Some (place at r) ≡ Some w = sym (ap (λ l. slice_get l 0) (is ∙ ap (map (place at)) split)) ∙ e in
    sym (cc)

pub known_there : (objects : List Object) (r : ℕ) → IsThere objects r → r ≤ length objects
known_there objects zero there = omega arith
known_there objects (suc k) there = let below = slice_get_within objects k there.0 there.1 in omega arith

object_below : (objects : List Object) (k : ℕ) → suc k ≤ length objects → (o : Object) × (slice_get objects k ≡ Some o)
object_below [] k h = absurd (omega arith)
object_below (x ∷ objects) zero h = (x, refl)
object_below (x ∷ objects) (suc k) h = object_below objects k (omega arith)

not_gone : (phase : Phase) (f : ℕ → ℕ) (classes : List Class) (blocks : Blocks) (at number count : ℕ) (o : Object) → Kept phase f classes blocks at number count o → 0 < count → is_there phase ≡ true
not_gone Live f classes blocks at number count o kept some = refl
not_gone Dying f classes blocks at number count o kept some = refl
not_gone Emptying f classes blocks at number count o kept some = refl
not_gone Gone f classes blocks at number count o kept some = let none : count ≡ 0 = kept in absurd (omega arith)

-- the place at this depth names this, whose word this is: nil, or an object that isn't gone
pub record Names (at : ℕ → ℕ) (h : Heap) (d w : ℕ) : Type 0 where
  pub named : ℕ
  pub found : slice_get (all_places h) d ≡ Some named
  pub word : w ≡ place at named
  pub there : IsThere h.objects named

-- two tests of the same
pub tests_same : (a b x y : ℕ) → (a ≡ b → x ≡ y) → (x ≡ y → a ≡ b) → nat_eq a b ≡ nat_eq y x
tests_same a b x y f g = elim (eqb_tells a b) [
  | inl p ↦ elim (eqb_tells y x) [ inl q ↦ p.0 ∙ sym q.0 | inr q ↦ absurd (q.1 (sym (f p.1))) ]
  | inr p ↦ elim (eqb_tells y x) [ inl q ↦ absurd (p.1 (g (sym q.1))) | inr q ↦ p.0 ∙ sym q.0 ]
]

module _ {foreign : Blocks} (at : ℕ → ℕ) (classes : List Class) (m : Memory) (frames : List ReturnFrame) (h : Heap) (t : Stands foreign at classes m frames h) where
  -- only nil has no block
  pub place_zero : (r : ℕ) → place at r ≡ 0 → r ≡ 0
  place_zero zero none = refl
  place_zero (suc k) none = let above = t.some k in absurd (omega (arith, above, none))

  pub place_some : (r : ℕ) → 0 < place at r → (k : ℕ) × (r ≡ suc k)
  place_some zero above = absurd (omega arith)
  place_some (suc k) above = (k, refl)

  -- the block of an object
  pub block_cell : (k : ℕ) (o : Object) (c : Cell) → slice_get h.objects k ≡ Some o → is_there o.phase ≡ true → IsCell m.store (at k) c → (c.class ≡ o.class) × (c.count ≡ h.counts (suc k))
  block_cell k o c there here is =
      let b = block_of at classes m frames h t k o there here in
      let both : Some (words c) ≡ Some (words (cell_of o (h.counts (suc k)) (suc k) b.fields)) = sym is ∙ b.block in
      ((let class : c.class ≡ o.class = cc in class), (let count : c.count ≡ h.counts (suc k) = cc in count))

  pub names_cell : (r : ℕ) → IsThere h.objects r → NamesBlock m.store (place at r)
  names_cell zero there above = absurd (omega arith)
  names_cell (suc k) there above = let b = block_of at classes m frames h t k there.0 there.1 there.2 in (cell_of there.0 (h.counts (suc k)) (suc k) b.fields, b.block)

  one_block : (j k : ℕ) → IsThere h.objects (suc j) → IsThere h.objects (suc k) → at j ≡ at k → j ≡ k
  one_block j k there other same =
      let b = block_of at classes m frames h t j there.0 there.1 there.2 in
      let c = block_of at classes m frames h t k other.0 other.1 other.2 in
      let both : Some (words (cell_of there.0 (h.counts (suc j)) (suc j) b.fields)) ≡ Some (words (cell_of other.0 (h.counts (suc k)) (suc k) c.fields)) = sym b.block ∙ ap m.store same ∙ c.block in
      let numbers : suc j ≡ suc k = cc in
      omega (arith, numbers)

  -- what isn't gone has a word of its own
  pub same_named : (r other : ℕ) → IsThere h.objects r → IsThere h.objects other → place at r ≡ place at other → r ≡ other
  same_named zero zero there there' same = refl
  same_named zero (suc k) there there' same = let above = t.some k in absurd (omega (arith, above, same))
  same_named (suc j) zero there there' same = let above = t.some j in absurd (omega (arith, above, same))
  same_named (suc j) (suc k) there there' same = ap suc (one_block j k there there' same)

  module _ (counted : (k : ℕ) → h.counts (suc k) ≡ holders (suc k) (all_places h)) where
    pub some_count : (d k : ℕ) → slice_get (all_places h) d ≡ Some (suc k) → 0 < h.counts (suc k)
    some_count d k e = subst (λ n. 0 < n) (sym (counted k)) (holders_some (suc k) d (all_places h) e)

    -- what a place names isn't gone
    pub there_of : (d r : ℕ) → slice_get (all_places h) d ≡ Some r → IsThere h.objects r
    there_of d zero e = tt
    there_of d (suc k) e =
        let found = object_below h.objects k (all_at (λ r. r ≤ length h.objects) (all_places h) d (suc k) e t.known_places) in
        (found.0, found.1, not_gone found.0.phase (place at) classes m.store (at k) (suc k) (h.counts (suc k)) found.0 (t.kept k found.0 found.1) (some_count d k e))

    pub names : (d w : ℕ) → slice_get m.places d ≡ Some w → Names at h d w
    names d w e =
        let refs = unmapped at (stacked h) d w (ap (λ ws. slice_get ws d) (sym t.places) ∙ e) in
        let all = first_get (stacked h) (others_named h) d refs.0 refs.1 in
        record { named = refs.0; found = all; word = refs.2; there = there_of d refs.0 all }
