-- Maps from names that lie in parts: what is found at a name, also after one part is changed.
use Rattle.std.proofs.Common.{◌≡◌, ℕ, zero, suc, Bool, true, false, cond, List, [], ◌∷◌, ◌++◌, length, Option, Some, None, slice_get, slice_set, get_or, ◌<◌, refl, sym, ap, subst, ◌∙◌, ◌⊎◌, inl, inr}
use Rattle.std.proofs.lemmas.List.{length-set}
use Rattle.std.proofs.lemmas.Option.{slice_get_read}
use Rattle.std.proofs.lemmas.Slice.Eq.{bytes_eq-Decides}
use Rattle.std.specs.BTreeMap.{BTreeMap, UpdatesBy}
use Rattle.std.proofs.lemmas.Map.Text.{btree_map_updates_str}
use Rattle.std.specs.Borrow.{Bor}
use Rattle.std.specs.Cmp.Lexicographic.{slice_cmp}
use Rattle.std.specs.Ordering.{nat_cmp, is_eq}
use Rattle.std.specs.Map.{update}
use Rattle.std.specs.Str.{bytes_eq}
use Rattle.std.specs.Option.{option_or}
use Rattle.arc_class.specs.NameMaps.{at_name, part_of, all_parts, IsPlaced}
use Rattle.arc_class.proofs.FirstDeclaration.{or_none}

-- what a part has at a name, if there is one
abbrev pub at_part : {X : Type 0} → Option (BTreeMap (Bor (List ℕ)) X) → List ℕ → Option X
at_part None name = None
at_part (Some part) name = at_name part.entries name

pub or_append : {X : Type 0} (xs ys : List (Bor (List ℕ) × X)) (name : List ℕ) → at_name (xs ++ ys) name ≡ option_or (at_name xs name) (at_name ys name)
or_append [] ys name = refl
or_append {X} (e ∷ xs) ys name = go (is_eq (slice_cmp nat_cmp name (e.0).now)) (or_append xs ys name)
  where
    go : (b : Bool) → at_name (xs ++ ys) name ≡ option_or (at_name xs name) (at_name ys name)
        → cond b (Some e.1) (at_name (xs ++ ys) name) ≡ option_or (cond b (Some e.1) (at_name xs name)) (at_name ys name)
    go true h = refl
    go false h = h

none_at : {X : Type 0} (parts : List (BTreeMap (Bor (List ℕ)) X)) (name : List ℕ)
    → ((i : ℕ) (part : BTreeMap (Bor (List ℕ)) X) → slice_get parts i ≡ Some part → at_name part.entries name ≡ None) → at_name (all_parts parts) name ≡ None
none_at [] name h = refl
none_at (p ∷ parts) name h =
    or_append p.entries (all_parts parts) name ∙ ap (λ o. option_or o (at_name (all_parts parts) name)) (h 0 p refl) ∙ none_at parts name (λ i part e. h (suc i) part e)

further : {X : Type 0} (home i : ℕ) → (suc home ≡ suc i) ⊎ X → (home ≡ i) ⊎ X
further home i (inl e) = inl (cc)
further home i (inr x) = inr x

other_zero : {X : Type 0} (i : ℕ) → (zero ≡ suc i) ⊎ X → X
other_zero i (inl e) = cc
other_zero i (inr x) = x

other_suc : {X : Type 0} (i : ℕ) → (suc i ≡ zero) ⊎ X → X
other_suc i (inl e) = cc
other_suc i (inr x) = x

found_at : {X : Type 0} (parts : List (BTreeMap (Bor (List ℕ)) X)) (home : ℕ) (name : List ℕ)
    → ((i : ℕ) (part : BTreeMap (Bor (List ℕ)) X) → slice_get parts i ≡ Some part → (home ≡ i) ⊎ (at_name part.entries name ≡ None))
    → at_name (all_parts parts) name ≡ at_part (slice_get parts home) name
found_at [] home name h = refl
found_at (p ∷ parts) zero name h =
    or_append p.entries (all_parts parts) name ∙ ap (option_or (at_name p.entries name)) (none_at parts name (λ i part e. other_zero i (h (suc i) part e))) ∙ or_none (at_name p.entries name)
found_at (p ∷ parts) (suc home) name h =
    or_append p.entries (all_parts parts) name ∙ ap (λ o. option_or o (at_name (all_parts parts) name)) (other_suc home (h 0 p refl))
    ∙ found_at parts home name (λ i part e. further home i (h (suc i) part e))

-- what is there at a name stands in the part of the name
at_home : {X : Type 0} (parts : List (BTreeMap (Bor (List ℕ)) X)) → IsPlaced parts → (name : List ℕ) → at_name (all_parts parts) name ≡ at_part (slice_get parts (part_of name (length parts))) name
at_home parts placed name = found_at parts (part_of name (length parts)) name (λ i part e. placed i part e name)

-- the part that is read at the place of a name
pub home_is : {X : Type 0} (parts : List (BTreeMap (Bor (List ℕ)) X)) (count index : ℕ) (part : BTreeMap (Bor (List ℕ)) X) (name : List ℕ) → count ≡ length parts → index ≡ part_of name count → index < count
    → part ≡ get_or parts index part → (slice_get parts index ≡ Some part) × (part_of name (length parts) ≡ index)
home_is parts count index part name c i l p = (slice_get_read parts count index part c l p, sym (i ∙ ap (part_of name) c))

pub at_its_part : {X : Type 0} (parts : List (BTreeMap (Bor (List ℕ)) X)) (index : ℕ) (part : BTreeMap (Bor (List ℕ)) X) (name : List ℕ) → IsPlaced parts → (slice_get parts index ≡ Some part) × (part_of name (length parts) ≡ index)
    → at_name (all_parts parts) name ≡ at_name part.entries name
at_its_part parts index part name placed home = at_home parts placed name ∙ ap (λ k. at_part (slice_get parts k) name) home.1 ∙ ap (λ o. at_part o name) home.0

-- ---- one part that changes

pub updates_at : {X : Type 0} (name : List ℕ) (m n : BTreeMap (Bor (List ℕ)) X) (w : Option X) → UpdatesBy (λ x y. slice_cmp nat_cmp x.now y.now) (λ k. slice_cmp nat_cmp name k.now) m n w
    → (q : List ℕ) → at_name n.entries q ≡ update bytes_eq (at_name m.entries) name w q
updates_at name m n w h q = btree_map_updates_str name m n w h q

set_here : {X : Type 0} (xs : List X) (i : ℕ) (old new : X) → slice_get xs i ≡ Some old → slice_get (slice_set xs i new) i ≡ Some new
set_here [] i old new e = cc
set_here (x ∷ xs) zero old new e = refl
set_here (x ∷ xs) (suc i) old new e = set_here xs i old new e

set_other : {X : Type 0} (xs : List X) (i j : ℕ) (new : X) → (i ≡ j) ⊎ (slice_get (slice_set xs i new) j ≡ slice_get xs j)
set_other [] i j new = inr refl
set_other (x ∷ xs) zero zero new = inl refl
set_other (x ∷ xs) zero (suc j) new = inr refl
set_other (x ∷ xs) (suc i) zero new = inr refl
set_other (x ∷ xs) (suc i) (suc j) new = go (set_other xs i j new)
  where
    go : (i ≡ j) ⊎ (slice_get (slice_set xs i new) j ≡ slice_get xs j) → (suc i ≡ suc j) ⊎ (slice_get (slice_set xs i new) j ≡ slice_get xs j)
    go (inl e) = inl (ap suc e)
    go (inr e) = inr e

module _ {X : Type 0} (parts : List (BTreeMap (Bor (List ℕ)) X)) (home : ℕ) (old new : BTreeMap (Bor (List ℕ)) X) (name : List ℕ) (value : Option X)
    (placed : IsPlaced parts) (is : (slice_get parts home ≡ Some old) × (part_of name (length parts) ≡ home))
    (updates : (sought : List ℕ) → at_name new.entries sought ≡ update bytes_eq (at_name old.entries) name value sought) where
  -- the name stands at home alone
  own : (sought : List ℕ) → bytes_eq name sought ≡ true → home ≡ part_of sought (length parts)
  own sought e = sym is.1 ∙ ap (λ n. part_of n (length parts)) ((bytes_eq-Decides name sought).0 e)

  changed : (part : BTreeMap (Bor (List ℕ)) X) (i : ℕ) → home ≡ i → slice_get (slice_set parts home new) i ≡ Some part → (sought : List ℕ) → at_name part.entries sought ≡ update bytes_eq (at_name old.entries) name value sought
  changed part i here e sought =
      ap (λ o. at_part o sought) (sym e ∙ ap (slice_get (slice_set parts home new)) (sym here) ∙ set_here parts home old new is.0) ∙ updates sought

  placed_here : (part : BTreeMap (Bor (List ℕ)) X) (i : ℕ) → home ≡ i → (sought : List ℕ) → at_name part.entries sought ≡ update bytes_eq (at_name old.entries) name value sought
      → (part_of sought (length parts) ≡ i) ⊎ (at_name part.entries sought ≡ None)
  placed_here part i here sought = go (bytes_eq name sought) refl (placed home old is.0 sought)
    where
      go : (b : Bool) → bytes_eq name sought ≡ b → (part_of sought (length parts) ≡ home) ⊎ (at_name old.entries sought ≡ None)
          → at_name part.entries sought ≡ cond b value (at_name old.entries sought) → (part_of sought (length parts) ≡ i) ⊎ (at_name part.entries sought ≡ None)
      go true is was e = inl (sym (own sought is) ∙ here)
      go false is (inl was) e = inl (was ∙ here)
      go false is (inr was) e = inr (e ∙ was)

  placed_in : (part : BTreeMap (Bor (List ℕ)) X) (i : ℕ) → slice_get (slice_set parts home new) i ≡ Some part → (sought : List ℕ)
      → (home ≡ i) ⊎ (slice_get (slice_set parts home new) i ≡ slice_get parts i) → (part_of sought (length parts) ≡ i) ⊎ (at_name part.entries sought ≡ None)
  placed_in part i e sought (inl here) = placed_here part i here sought (changed part i here e sought)
  placed_in part i e sought (inr same) = placed i part (sym same ∙ e) sought

  pub set_placed : IsPlaced (slice_set parts home new)
  set_placed i part e sought =
      let P : ℕ → Type 0 = λ n. (part_of sought n ≡ i) ⊎ (at_name part.entries sought ≡ None) in
      subst P (sym (length-set parts home new)) (placed_in part i e sought (set_other parts home i new))

  here_at : (sought : List ℕ) (k : ℕ) → home ≡ k → at_name (all_parts parts) sought ≡ at_part (slice_get parts k) sought
      → at_part (slice_get (slice_set parts home new) k) sought ≡ update bytes_eq (at_name (all_parts parts)) name value sought
  here_at sought k e at =
      ap (λ j. at_part (slice_get (slice_set parts home new) j) sought) (sym e) ∙ ap (λ o. at_part o sought) (set_here parts home old new is.0) ∙ updates sought
      ∙ ap (cond (bytes_eq name sought) value) (ap (λ o. at_part o sought) (sym is.0) ∙ ap (λ j. at_part (slice_get parts j) sought) e ∙ sym at)

  found_in : (sought : List ℕ) → (home ≡ part_of sought (length parts)) ⊎ (slice_get (slice_set parts home new) (part_of sought (length parts)) ≡ slice_get parts (part_of sought (length parts)))
      → (b : Bool) → bytes_eq name sought ≡ b → at_part (slice_get (slice_set parts home new) (part_of sought (length parts))) sought ≡ update bytes_eq (at_name (all_parts parts)) name value sought
  found_in sought (inl e) b is = here_at sought (part_of sought (length parts)) e (at_home parts placed sought)
  found_in sought (inr same) true is = here_at sought (part_of sought (length parts)) (own sought is) (at_home parts placed sought)
  found_in sought (inr same) false is =
      ap (λ o. at_part o sought) same ∙ sym (at_home parts placed sought) ∙ ap (λ b. cond b value (at_name (all_parts parts) sought)) (sym is)

  pub set_at : (sought : List ℕ) → at_name (all_parts (slice_set parts home new)) sought ≡ update bytes_eq (at_name (all_parts parts)) name value sought
  set_at sought =
      at_home (slice_set parts home new) set_placed sought ∙ ap (λ n. at_part (slice_get (slice_set parts home new) (part_of sought n)) sought) (length-set parts home new)
      ∙ found_in sought (set_other parts home (part_of sought (length parts)) new) (bytes_eq name sought) refl

-- ---- parts with no names

abbrev pub Blank : {X : Type 0} → List (BTreeMap (Bor (List ℕ)) X) → Type 0
Blank {X} parts = (i : ℕ) (part : BTreeMap (Bor (List ℕ)) X) → slice_get parts i ≡ Some part → part.entries ≡ []

pub blank_none : {X : Type 0} (parts : List (BTreeMap (Bor (List ℕ)) X)) → Blank parts → all_parts parts ≡ []
blank_none [] h = refl
blank_none (p ∷ parts) h = ap (λ es. es ++ all_parts parts) (h 0 p refl) ∙ blank_none parts (λ i part e. h (suc i) part e)

pub blank_more : {X : Type 0} (parts : List (BTreeMap (Bor (List ℕ)) X)) (new : BTreeMap (Bor (List ℕ)) X) → new.entries ≡ [] → Blank parts → Blank (parts ++ new ∷ [])
blank_more [] new n h zero part e = ap (λ o. entries_or o) (sym e) ∙ n
  where
    entries_or : {X : Type 0} → Option (BTreeMap (Bor (List ℕ)) X) → List (Bor (List ℕ) × X)
    entries_or None = []
    entries_or (Some part) = part.entries
blank_more [] new n h (suc i) part e = cc
blank_more (p ∷ parts) new n h zero part e = h zero part e
blank_more (p ∷ parts) new n h (suc i) part e = blank_more parts new n (λ j q f. h (suc j) q f) i part e
