-- Temporaries are dropped one at a time: how many of those left name an object, and that their blocks count these holders.
use Rattle.std.proofs.Common.{◌≡◌, ◌≢◌, ◌⊎◌, inl, inr, ℕ, zero, suc, ◌+◌, ◌-◌, ◌<◌, ◌≤◌, List, [], ◌∷◌, length, take, drop, Option, Some, Bool, true, false, nat_eq, slice_get, refl, sym, ap, ◌∙◌, subst, arith, add-one}
use Rattle.std.specs.Prelude.{if◌then◌else◌}
use Rattle.std.proofs.lemmas.Bool.{cases_eq, eq-eqb, ne_eqb}
use Rattle.arc_spec.specs.HolderCounts.{holders}
use Rattle.arc_heap.specs.Blocks.{Blocks}
use Rattle.arc_cells.specs.Cells.{Cell, words, IsCell, Becomes, with_count}
use Rattle.arc_cells.specs.Representation.{Memory, Parts, NamesBlock, Alters, IsLast, memory_of, dropping}
use Rattle.arc_steps.specs.Releases.{CanDrop, Drops}
use Rattle.arc_steps.proofs.WordsNameObjects.{holders_same, holders_other, holders_some}

-- ---- how many of them have a word

both_tests : (a b : Bool) (n : ℕ) → (if a then suc (if b then suc n else n) else (if b then suc n else n)) ≡ (if b then suc (if a then suc n else n) else (if a then suc n else n))
both_tests true true n = refl
both_tests true false n = refl
both_tests false true n = refl
both_tests false false n = refl

holders_suc : (o : ℕ) (places : List ℕ) (d w : ℕ) → slice_get places d ≡ Some w → holders o (take (suc d) places) ≡ (if nat_eq o w then suc (holders o (take d places)) else holders o (take d places))
holders_suc o [] d w e = absurd (cc)
holders_suc o (p ∷ places) zero w e = let same : p ≡ w = cc in subst (λ w. holders o (p ∷ []) ≡ (if nat_eq o w then 1 else 0)) same refl
holders_suc o (p ∷ places) (suc d) w e =
    ap (λ n. if nat_eq o p then suc n else n) (holders_suc o places d w e) ∙ both_tests (nat_eq o p) (nat_eq o w) (holders o (take d places))

module _ (o : ℕ) (places : List ℕ) (d w : ℕ) (found : slice_get places d ≡ Some w) where
  pub holders_here : w ≡ o → holders o (take (d + 1) places) ≡ holders o (take d places) + 1
  holders_here same =
      let next = holders_suc o places d w found in
      ap (λ k. holders o (take k places)) (add-one d) ∙ next ∙ ap (λ (b : Bool). if b then suc (holders o (take d places)) else holders o (take d places)) (eq-eqb o w (sym same)) ∙ sym (add-one (holders o (take d places)))

  pub holders_else : w ≢ o → holders o (take (d + 1) places) ≡ holders o (take d places)
  holders_else other =
      ap (λ k. holders o (take k places)) (add-one d) ∙ holders_suc o places d w found ∙ ap (λ (b : Bool). if b then suc (holders o (take d places)) else holders o (take d places)) (ne_eqb o w (λ same. other (sym same)))

few_step : (b : Bool) (n m : ℕ) → n ≤ m → (if b then suc n else n) ≤ suc m
few_step true n m h = omega (arith, h)
few_step false n m h = omega (arith, h)

-- no more of the first ones have a word than there are
pub holders_few : (o : ℕ) (places : List ℕ) (d : ℕ) → holders o (take d places) ≤ d
holders_few o [] zero = omega arith
holders_few o [] (suc d) = omega arith
holders_few o (p ∷ places) zero = omega arith
holders_few o (p ∷ places) (suc d) = few_step (nat_eq o p) (holders o (take d places)) d (holders_few o places d)

-- ---- their blocks

module _ (blocks : Blocks) (ws : List ℕ) (d w : ℕ) (can : CanDrop blocks ws) (found : slice_get ws d ≡ Some w) where
  pub can_block : NamesBlock blocks w
  can_block above = let c = can w above (holders_some w d ws found) in (c.0, c.1)

  pub can_count : 0 < w → (c : Cell) → IsCell blocks w c → 0 < c.count
  can_count above c is =
      let some = holders_some w d ws found in
      let known = can w above some in
      let both : Some (words c) ≡ Some (words known.0) = sym is ∙ known.1 in
      let same : c.count ≡ known.0.count = cc in
      let within = known.2 in
      omega (arith, same, some, within)

-- the others, once one was dropped
can_next : (blocks blocks' : Blocks) (w : ℕ) (ws : List ℕ) → CanDrop blocks (w ∷ ws) → (w ≡ 0 → blocks' ≡ blocks) → (0 < w → (c : Cell) → IsCell blocks w c → Becomes blocks blocks' w (with_count c (c.count - 1))) → CanDrop blocks' ws
can_next blocks blocks' w ws can nil block x above some = elim (cases_eq x w) [
  | inl same ↦ (let more : holders x (w ∷ ws) ≡ suc (holders x ws) = subst (λ w. holders x (w ∷ ws) ≡ suc (holders x ws)) same (holders_same x ws) in
      let known = can x above (omega (arith, more)) in
      let within = known.2 in
      let change = block (subst (λ n. 0 < n) same above) known.0 (subst (λ n. IsCell blocks n known.0) same known.1) in
      (with_count known.0 (known.0.count - 1), subst (λ n. IsCell blocks' n (with_count known.0 (known.0.count - 1))) (sym same) change.here, omega (arith, within, more)))
  | inr other ↦ (let same = holders_other x w ws other in
      let known = can x above (omega (arith, some, same)) in
      let within = known.2 in
      (known.0, still x other known.0 known.1 (cases_eq w 0), omega (arith, within, same)))
]
  where
    still : (x : ℕ) → x ≢ w → (c : Cell) → IsCell blocks x c → (w ≡ 0) ⊎ (w ≢ 0) → IsCell blocks' x c
    still x other c is (inl none) = ap (λ (b : Blocks). b x) (nil none) ∙ is
    still x other c is (inr some) =
        let above : 0 < w = omega (arith, some) in
        let first = holders_same w ws in
        let known = can w above (omega (arith, first)) in
        (block above known.0 known.1).others x other ∙ is

-- ---- one is dropped

pub take_first : (n w : ℕ) (ps : List ℕ) → 0 < n → take n (w ∷ ps) ≡ w ∷ take (n - 1) ps
take_first zero w ps some = absurd (omega (arith, some))
take_first (suc n) w ps some = let same : suc n - 1 ≡ n = omega arith in ap (λ k. w ∷ take k ps) (sym same)

module _ {S : Type 0} (out : S → Blocks) (old popped : Parts S) (w : ℕ) (some : 0 < old.temporaries) (named : old.places ≡ w ∷ popped.places) (others : popped ≡ dropping old popped.places) where
  pub first_dropped : take old.temporaries old.places ≡ w ∷ take (old.temporaries - 1) popped.places
  first_dropped = ap (take old.temporaries) named ∙ take_first old.temporaries w popped.places some

  pub popped_block : CanDrop (out old.store) (take old.temporaries old.places) → NamesBlock (out popped.store) w
  popped_block can = subst (λ s. NamesBlock (out s) w) (sym (ap (λ (x : Parts S). x.store) others)) (can_block (out old.store) (take old.temporaries old.places) 0 w can (ap (λ l. slice_get l 0) first_dropped))

  pub popped_count : CanDrop (out old.store) (take old.temporaries old.places) → 0 < w → (c : Cell) → IsCell (out popped.store) w c → 0 < c.count
  popped_count can above c is =
      can_count (out old.store) (take old.temporaries old.places) 0 w can (ap (λ l. slice_get l 0) first_dropped) above c (subst (λ s. IsCell (out s) w c) (ap (λ (x : Parts S). x.store) others) is)

  popped_is : popped ≡ dropping old (drop 1 old.places)
  popped_is = others ∙ ap (dropping old) (sym (ap (drop 1) named))

  -- it is the last holder of its object
  pub dropped_last : IsLast (out popped.store) w → Drops out (take old.temporaries old.places) old popped (Some w)
  dropped_last last = subst (λ ws. Drops out ws old popped (Some w)) (sym first_dropped) (inl (subst (λ s. IsLast (out s) w) (ap (λ (x : Parts S). x.store) others) last, refl, popped_is))

  -- or it isn't, and the others are dropped
  module _ (mid : Parts S) (alters : Alters (memory_of out popped) (memory_of out mid) w (λ c. with_count c (c.count - 1))) where
    mid_words : take mid.temporaries mid.places ≡ take (old.temporaries - 1) popped.places
    mid_words =
        let places : mid.places ≡ popped.places = ap (λ (x : Memory). x.places) alters.others in
        let count : mid.temporaries ≡ old.temporaries - 1 = ap (λ (x : Memory). x.temporaries) alters.others ∙ ap (λ (x : Parts S). x.temporaries) others in
        ap (λ n. take n mid.places) count ∙ ap (take (old.temporaries - 1)) places

    pub dropped_fewer : mid.temporaries ≡ old.temporaries - 1
    dropped_fewer = ap (λ (x : Memory). x.temporaries) alters.others ∙ ap (λ (x : Parts S). x.temporaries) others

    pub dropped_within : old.temporaries ≤ length old.places → mid.temporaries ≤ length mid.places
    dropped_within within =
        let places : length mid.places ≡ length popped.places = ap (λ (x : Memory). length x.places) alters.others in
        let more = ap length named in
        omega (arith, within, places, more, dropped_fewer)

    pub dropped_can : CanDrop (out old.store) (take old.temporaries old.places) → CanDrop (out mid.store) (take mid.temporaries mid.places)
    dropped_can can =
        let store : out popped.store ≡ out old.store = ap (λ (x : Parts S). out x.store) others in
        let from : CanDrop (out popped.store) (w ∷ take (old.temporaries - 1) popped.places) = subst (λ (b : Blocks). CanDrop b (w ∷ take (old.temporaries - 1) popped.places)) (sym store) (subst (λ ws. CanDrop (out old.store) ws) first_dropped can) in
        subst (λ ws. CanDrop (out mid.store) ws) (sym mid_words) (can_next (out popped.store) (out mid.store) w (take (old.temporaries - 1) popped.places) from alters.nil alters.block)

    pub dropped_on : (IsLast (out popped.store) w → ⊥) → (new : Parts S) (last : Option ℕ) → Drops out (take mid.temporaries mid.places) mid new last → Drops out (take old.temporaries old.places) old new last
    dropped_on others_hold new last rest =
        subst (λ ws. Drops out ws old new last) (sym first_dropped)
        (inr (
          (λ is_last. others_hold (subst (λ s. IsLast (out s) w) (sym (ap (λ (x : Parts S). x.store) others)) is_last)),
          mid,
          subst (λ (x : Parts S). Alters (memory_of out x) (memory_of out mid) w (λ c. with_count c (c.count - 1))) popped_is alters,
          subst (λ ws. Drops out ws mid new last) mid_words rest,
        ))
