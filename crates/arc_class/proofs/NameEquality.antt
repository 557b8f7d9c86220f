-- Names, their equality and their numbers in a list.
use Rattle.std.proofs.Common.{◌≡◌, ℕ, suc, ◌+◌, Bool, true, false, not, cond, ◌||◌, List, [], ◌∷◌, ◌++◌, length, Some, None, option_map, nat_lt, if◌then◌else◌, position, refl, sym, ap, ◌∙◌, arith}
use Rattle.std.specs.Borrow.{Bor}
use Rattle.std.specs.List.{list_any, position_or_len}
use Rattle.std.specs.Str.{bytes_eq}
use Rattle.std.proofs.lemmas.Bool.{false_from_ne_true}
use Rattle.std.proofs.lemmas.Bool.Decides.{nat_tests, Decides-ltb}
use Rattle.std.proofs.lemmas.Slice.Eq.{bytes_eq-Decides}
use Rattle.indexmap.specs.IndexSet.{insert_key}
use Rattle.arc_class.specs.Classes.{among, and_name, number_among}
use Rattle.arc_class.specs.Table.{names_of}

pub self_eq : (name : List ℕ) → bytes_eq name name ≡ true
self_eq name = (bytes_eq-Decides name name).1 refl

pub apart : (a b : List ℕ) → bytes_eq a b ≡ false → bytes_eq b a ≡ false
apart a b e = false_from_ne_true (bytes_eq b a) (λ t. clash ((bytes_eq-Decides a b).1 (sym ((bytes_eq-Decides b a).0 t))))
  where
    clash : bytes_eq a b ≡ true → ⊥
    clash t = cc

pub eq_turned : (a b : List ℕ) → bytes_eq a b ≡ bytes_eq b a
eq_turned a b = go (bytes_eq a b) refl
  where
    go : (t : Bool) → bytes_eq a b ≡ t → t ≡ bytes_eq b a
    go true e = sym ((bytes_eq-Decides b a).1 (sym ((bytes_eq-Decides a b).0 e)))
    go false e = sym (apart a b e)

-- ---- the place of the first element that passes a test

one_more : (n : ℕ) → 1 + n ≡ suc n
one_more n = omega arith

less_first : (n : ℕ) → nat_lt 0 (suc n) ≡ true
less_first n = (Decides-ltb 0 (suc n)).1 (omega arith)

less_next : (a b : ℕ) → nat_lt (suc a) (suc b) ≡ nat_lt a b
less_next a b = go (nat_lt a b) refl
  where
    go : (t : Bool) → nat_lt a b ≡ t → nat_lt (suc a) (suc b) ≡ t
    go true e = (Decides-ltb (suc a) (suc b)).1 (omega (arith, (Decides-ltb a b).0 e))
    go false e = grind (arith, nat_tests)

module _ {X : Type 0} (t : X → Bool) where
  pub place_here : (x : X) (xs : List X) → t x ≡ true → position_or_len t (x ∷ xs) ≡ 0
  place_here x xs e = ap (λ b. cond (not b) (1 + position_or_len t xs) 0) e

  pub place_next : (x : X) (xs : List X) → t x ≡ false → position_or_len t (x ∷ xs) ≡ suc (position_or_len t xs)
  place_next x xs e = ap (λ b. cond (not b) (1 + position_or_len t xs) 0) e ∙ one_more (position_or_len t xs)

  pub position_here : (x : X) (xs : List X) → t x ≡ true → position t (x ∷ xs) ≡ Some 0
  position_here x xs e = ap (λ n. cond (nat_lt n (suc (length xs))) (Some n) None) (place_here x xs e) ∙ ap (λ b. cond b (Some 0) None) (less_first (length xs))

  pub position_next : (x : X) (xs : List X) → t x ≡ false → position t (x ∷ xs) ≡ option_map (λ n. suc n) (position t xs)
  position_next x xs e = ap (λ n. cond (nat_lt n (suc (length xs))) (Some n) None) (place_next x xs e) ∙ ap (λ b. cond b (Some (suc (position_or_len t xs))) None) (less_next (position_or_len t xs) (length xs)) ∙ go (nat_lt (position_or_len t xs) (length xs))
    where
      go : (b : Bool) → cond b (Some (suc (position_or_len t xs))) None ≡ option_map (λ n. suc n) (cond b (Some (position_or_len t xs)) None)
      go true = refl
      go false = refl

  -- an element that passes stands at that place, once it is added where none passed
  pub added_place : (k : X) → t k ≡ true → (xs : List X) → position t (if list_any t xs then xs else xs ++ k ∷ []) ≡ Some (position_or_len t xs)
  added_place k passes [] = position_here k [] passes
  added_place k passes (x ∷ xs) = go (t x) (list_any t xs) refl (added_place k passes xs)
    where
      next : (c : Bool) → t x ≡ false → position t (if c then xs else xs ++ k ∷ []) ≡ Some (position_or_len t xs)
          → position t (if c then x ∷ xs else (x ∷ xs) ++ k ∷ []) ≡ Some (position_or_len t (x ∷ xs))
      next true e h = position_next x xs e ∙ ap (option_map (λ n. suc n)) h ∙ ap Some (sym (place_next x xs e))
      next false e h = position_next x (xs ++ k ∷ []) e ∙ ap (option_map (λ n. suc n)) h ∙ ap Some (sym (place_next x xs e))

      go : (b c : Bool) → t x ≡ b → position t (if c then xs else xs ++ k ∷ []) ≡ Some (position_or_len t xs)
          → position t (if b || c then x ∷ xs else (x ∷ xs) ++ k ∷ []) ≡ Some (position_or_len t (x ∷ xs))
      go true c e h = position_here x xs e ∙ ap Some (sym (place_here x xs e))
      go false c e h = next c e h

-- ---- names that stand in a set

any_among : (ks : List (Bor (List ℕ))) (name : List ℕ) → list_any (λ key. bytes_eq name key.now) ks ≡ among (names_of ks) name
any_among [] name = refl
any_among (k ∷ ks) name = ap (λ b. b || list_any (λ key. bytes_eq name key.now) ks) (eq_turned name k.now) ∙ ap (λ b. bytes_eq k.now name || b) (any_among ks name)

names_push : (ks : List (Bor (List ℕ))) (k : Bor (List ℕ)) → names_of (ks ++ k ∷ []) ≡ names_of ks ++ k.now ∷ []
names_push [] k = refl
names_push (x ∷ ks) k = ap (λ ns. x.now ∷ ns) (names_push ks k)

pub names_with_key : (ks : List (Bor (List ℕ))) (k : Bor (List ℕ)) → names_of (insert_key (λ x y. bytes_eq x.now y.now) ks k) ≡ and_name (names_of ks) k.now
names_with_key ks k = go (list_any (λ key. bytes_eq k.now key.now) ks) (any_among ks k.now)
  where
    go : (b : Bool) → b ≡ among (names_of ks) k.now → names_of (if b then ks else ks ++ k ∷ []) ≡ (if among (names_of ks) k.now then names_of ks else names_of ks ++ k.now ∷ [])
    go true e = ap (λ b. if b then names_of ks else names_of ks ++ k.now ∷ []) e
    go false e = names_push ks k ∙ ap (λ b. if b then names_of ks else names_of ks ++ k.now ∷ []) e

-- a name that comes to names that are known
pub names_with : (old new : List (Bor (List ℕ))) (k : Bor (List ℕ)) (names : List (List ℕ)) (name : List ℕ)
    → new ≡ insert_key (λ x y. bytes_eq x.now y.now) old k → k.now ≡ name → names_of old ≡ names → names_of new ≡ and_name names name
names_with old new k names name is text known = ap names_of is ∙ names_with_key old k ∙ ap (and_name (names_of old)) text ∙ ap (λ ns. and_name ns name) known

pub position_number : (ks : List (Bor (List ℕ))) (name : List ℕ) → position (λ key. bytes_eq name key.now) ks ≡ number_among (names_of ks) name
position_number [] name = refl
position_number (k ∷ ks) name = go (bytes_eq name k.now) refl (position_number ks name)
  where
    go : (b : Bool) → bytes_eq name k.now ≡ b → position (λ key. bytes_eq name key.now) ks ≡ number_among (names_of ks) name
        → position (λ key. bytes_eq name key.now) (k ∷ ks) ≡ (if bytes_eq k.now name then Some 0 else option_map (λ n. suc n) (number_among (names_of ks) name))
    go true e h = position_here (λ key. bytes_eq name key.now) k ks e ∙ sym (ap (λ b. if b then Some 0 else option_map (λ n. suc n) (number_among (names_of ks) name)) (eq_turned k.now name ∙ e))
    go false e h = position_next (λ key. bytes_eq name key.now) k ks e ∙ ap (option_map (λ n. suc n)) h
        ∙ sym (ap (λ b. if b then Some 0 else option_map (λ n. suc n) (number_among (names_of ks) name)) (eq_turned k.now name ∙ e))
