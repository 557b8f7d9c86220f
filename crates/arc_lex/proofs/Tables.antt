-- Looking bytes up in a table.
use Rattle.std.proofs.Common.{◌≡◌, ◌≤◌, ℕ, zero, suc, List, [], ◌∷◌, ◌++◌, length, take, drop, Bool, true, false, cond, ◌&&◌, leb, nat_eq, Option, Some, None, refl, sym, ap, subst, ◌∙◌, arith, not}
use Rattle.std.specs.Cmp.Lexicographic.{pointwise}
use Rattle.std.specs.List.{starts_with}
use Rattle.std.proofs.lemmas.Bool.{and_parts, leb-true, leb-false, true≢false, not-true}
use Rattle.std.proofs.lemmas.List.{take-append-drop, take-append-le, take_at}
use Rattle.std.proofs.lemmas.Slice.Eq.{bytes_eq-Decides}
use Rattle.arc_lex.specs.private.Pieces.{first_front, first_equal}

-- the entry at a place
abbrev pub nth : {A : Type 0} → ℕ → List A → Option A
nth n [] = None
nth zero (a ∷ rest) = Some a
nth (suc n) (a ∷ rest) = nth n rest

-- whether each entry passes a test
abbrev pub all_pass : {A : Type 0} → (A → Bool) → List A → Bool
all_pass test [] = true
all_pass test (a ∷ rest) = test a && all_pass test rest

pub passes : {A : Type 0} (test : A → Bool) (those : List A) (n : ℕ) (a : A) → all_pass test those ≡ true → nth n those ≡ Some a → test a ≡ true
passes test [] n a h e = cc
passes test (b ∷ rest) zero a h e = let k : b ≡ a = cc in subst (λ x. test x ≡ true) k (and_parts (test b) (all_pass test rest) h).0
passes test (b ∷ rest) (suc n) a h e = passes test rest n a (and_parts (test b) (all_pass test rest) h).1 e

starts_sound : (xs p : List ℕ) → starts_with nat_eq xs p ≡ true → xs ≡ p ++ drop (length p) xs
starts_sound xs p h =
    let e : p ≡ take (length p) xs = (bytes_eq-Decides p (take (length p) xs)).0 h in
    sym (ap (λ us. us ++ drop (length p) xs) e ∙ take-append-drop (length p) xs)

starts_complete : (xs p r : List ℕ) → xs ≡ p ++ r → starts_with nat_eq xs p ≡ true
starts_complete xs p r c = (bytes_eq-Decides p (take (length p) xs)).1 (sym (ap (take (length p)) c ∙ take_at p r (length p) refl))

-- of two fronts, the second is no longer where it doesn't begin with the first
pub front_no_longer : (xs p q r : List ℕ) → starts_with nat_eq xs p ≡ true → xs ≡ q ++ r → not (starts_with nat_eq q p) ≡ true → length q ≤ length p
front_no_longer xs p q r h c free = go (leb (length q) (length p)) refl
  where
    go : (t : Bool) → leb (length q) (length p) ≡ t → length q ≤ length p
    go true e = leb-true (length q) (length p) e
    go false e =
        let long = leb-false (length q) (length p) e in
        let same : take (length p) xs ≡ take (length p) q = ap (take (length p)) c ∙ take-append-le (length p) q r (omega (arith, long)) in
        let begins : starts_with nat_eq q p ≡ true = (bytes_eq-Decides p (take (length p) q)).1 ((bytes_eq-Decides p (take (length p) xs)).0 h ∙ same) in
        absurd (true≢false (sym begins ∙ not-true (starts_with nat_eq q p) free))

module _ {A : Type 0} (bytes_of : A → List ℕ) where
  pub front_sound : (those : List A) (xs : List ℕ) (a : A) → first_front bytes_of those xs ≡ Some a → (rest : List ℕ) × (xs ≡ bytes_of a ++ rest)
  front_sound [] xs a e = cc
  front_sound (b ∷ those) xs a e = go (starts_with nat_eq xs (bytes_of b)) refl (front_sound those xs a) e
    where
      go : (t : Bool) → starts_with nat_eq xs (bytes_of b) ≡ t → (first_front bytes_of those xs ≡ Some a → (rest : List ℕ) × (xs ≡ bytes_of a ++ rest))
          → cond t (Some b) (first_front bytes_of those xs) ≡ Some a → (rest : List ℕ) × (xs ≡ bytes_of a ++ rest)
      go true h later k = let same : b ≡ a = cc in subst (λ x. (rest : List ℕ) × (xs ≡ bytes_of x ++ rest)) same (drop (length (bytes_of b)) xs, starts_sound xs (bytes_of b) h)
      go false h later k = later k

  -- no entry begins with one in front of it
  abbrev pub no_front : A → A → Bool
  no_front a b = not (starts_with nat_eq (bytes_of b) (bytes_of a))

  abbrev pub longest_first : List A → Bool
  longest_first [] = true
  longest_first (a ∷ rest) = all_pass (no_front a) rest && longest_first rest

  -- the first entry that stands at the front is the longest
  pub front_longest : (those : List A) (n : ℕ) (xs r : List ℕ) (o : A) → longest_first those ≡ true → nth n those ≡ Some o → xs ≡ bytes_of o ++ r
      → (a : A) × (first_front bytes_of those xs ≡ Some a) × (length (bytes_of o) ≤ length (bytes_of a))
  front_longest [] n xs r o d e c = cc
  front_longest (b ∷ those) n xs r o d e c =
      let parts = and_parts (all_pass (no_front b) those) (longest_first those) d in
      go (starts_with nat_eq xs (bytes_of b)) refl n parts.0 (λ j k. front_longest those j xs r o parts.1 k c) e
    where
      go : (t : Bool) → starts_with nat_eq xs (bytes_of b) ≡ t → (k : ℕ) → all_pass (no_front b) those ≡ true
          → ((j : ℕ) → nth j those ≡ Some o → (a : A) × (first_front bytes_of those xs ≡ Some a) × (length (bytes_of o) ≤ length (bytes_of a)))
          → nth k (b ∷ those) ≡ Some o → (a : A) × (cond t (Some b) (first_front bytes_of those xs) ≡ Some a) × (length (bytes_of o) ≤ length (bytes_of a))
      go true h zero shorter later k = let same : b ≡ o = cc in (b, refl, subst (λ x. length (bytes_of x) ≤ length (bytes_of b)) same (omega arith))
      go true h (suc j) shorter later k = (b, refl, front_no_longer xs (bytes_of b) (bytes_of o) r h c (passes (no_front b) those j o shorter k))
      go false h zero shorter later k =
          let same : b ≡ o = cc in
          absurd (true≢false (sym (starts_complete xs (bytes_of b) r (subst (λ x. xs ≡ bytes_of x ++ r) (sym same) c)) ∙ h))
      go false h (suc j) shorter later k = later j k

  pub front_begins : (those : List A) (xs : List ℕ) (a : A) → first_front bytes_of those xs ≡ Some a → starts_with nat_eq xs (bytes_of a) ≡ true
  front_begins those xs a e = let (rest, c) = front_sound those xs a e in starts_complete xs (bytes_of a) rest c

  -- what is found is an entry
  pub front_stands : (those : List A) (xs : List ℕ) (a : A) → first_front bytes_of those xs ≡ Some a → (n : ℕ) × (nth n those ≡ Some a)
  front_stands [] xs a e = cc
  front_stands (b ∷ those) xs a e = go (starts_with nat_eq xs (bytes_of b)) (front_stands those xs a) e
    where
      go : (t : Bool) → (first_front bytes_of those xs ≡ Some a → (n : ℕ) × (nth n those ≡ Some a)) → cond t (Some b) (first_front bytes_of those xs) ≡ Some a
          → (n : ℕ) × (nth n (b ∷ those) ≡ Some a)
      go true later k = (0, k)
      go false later k = let (n, h) = later k in (suc n, h)

  pub equal_sound : (those : List A) (xs : List ℕ) (a : A) → first_equal bytes_of those xs ≡ Some a → bytes_of a ≡ xs
  equal_sound [] xs a e = cc
  equal_sound (b ∷ those) xs a e = go (pointwise nat_eq (bytes_of b) xs) refl (equal_sound those xs a) e
    where
      go : (t : Bool) → pointwise nat_eq (bytes_of b) xs ≡ t → (first_equal bytes_of those xs ≡ Some a → bytes_of a ≡ xs)
          → cond t (Some b) (first_equal bytes_of those xs) ≡ Some a → bytes_of a ≡ xs
      go true h later k = let same : b ≡ a = cc in subst (λ x. bytes_of x ≡ xs) same ((bytes_eq-Decides (bytes_of b) xs).0 h)
      go false h later k = later k

  -- an entry that is there is found
  pub equal_found : (those : List A) (n : ℕ) (xs : List ℕ) (o : A) → nth n those ≡ Some o → xs ≡ bytes_of o → first_equal bytes_of those xs ≡ None → ⊥
  equal_found [] n xs o e c none = cc
  equal_found (b ∷ those) n xs o e c none = go (pointwise nat_eq (bytes_of b) xs) refl n (λ j k. equal_found those j xs o k c) e none
    where
      go : (t : Bool) → pointwise nat_eq (bytes_of b) xs ≡ t → (k : ℕ) → ((j : ℕ) → nth j those ≡ Some o → first_equal bytes_of those xs ≡ None → ⊥)
          → nth k (b ∷ those) ≡ Some o → cond t (Some b) (first_equal bytes_of those xs) ≡ None → ⊥
      go true h k later here nothing = cc
      go false h zero later here nothing =
          let same : b ≡ o = cc in
          true≢false (sym ((bytes_eq-Decides (bytes_of b) xs).1 (subst (λ x. bytes_of x ≡ xs) (sym same) (sym c))) ∙ h)
      go false h (suc j) later here nothing = later j here nothing

  -- no two entries have the same bytes
  abbrev pub apart : A → A → Bool
  apart a b = not (pointwise nat_eq (bytes_of a) (bytes_of b))

  abbrev pub distinct : List A → Bool
  distinct [] = true
  distinct (a ∷ rest) = all_pass (apart a) rest && distinct rest

  not_apart : (a b : A) → bytes_of a ≡ bytes_of b → apart a b ≡ true → ⊥
  not_apart a b e h = true≢false (sym ((bytes_eq-Decides (bytes_of a) (bytes_of b)).1 e) ∙ not-true (pointwise nat_eq (bytes_of a) (bytes_of b)) h)

  pub one_entry : (those : List A) (n m : ℕ) (a b : A) → distinct those ≡ true → nth n those ≡ Some a → nth m those ≡ Some b → bytes_of a ≡ bytes_of b → a ≡ b
  one_entry [] n m a b d e f same = cc
  one_entry (x ∷ those) zero zero a b d e f same = cc
  one_entry (x ∷ those) zero (suc m) a b d e f same =
      let k : x ≡ a = cc in
      let parts = and_parts (all_pass (apart x) those) (distinct those) d in
      absurd (not_apart x b (ap bytes_of k ∙ same) (passes (apart x) those m b parts.0 f))
  one_entry (x ∷ those) (suc n) zero a b d e f same =
      let k : x ≡ b = cc in
      let parts = and_parts (all_pass (apart x) those) (distinct those) d in
      absurd (not_apart x a (ap bytes_of k ∙ sym same) (passes (apart x) those n a parts.0 e))
  one_entry (x ∷ those) (suc n) (suc m) a b d e f same = one_entry those n m a b (and_parts (all_pass (apart x) those) (distinct those) d).1 e f same
