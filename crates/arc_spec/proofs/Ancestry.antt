-- The superclasses of a class, one class at a time.
use Rattle.std.proofs.Common.{◌≡◌, ℕ, suc, ◌+◌, ◌-◌, ◌<◌, List, [], ◌∷◌, length, map, Option, Some, None, slice_get, option_map, is_some, true, false, sym, true≢false, ap, ◌∙◌, arith}
use Rattle.std.proofs.lemmas.List.{length-map}
use Rattle.std.proofs.lemmas.Option.{slice_get-map}
use Rattle.arc_spec.specs.declared.class.Class as declared
use Rattle.arc_spec.specs.Classes.{class_of, classes_of, superclass_of, superclasses, and_above, ancestry, ancestry_within}
use Rattle.std.specs.Option.{option_or}

module _ (rows : List (Option ℕ)) where
  further_up : (n k class : ℕ) → k < n
      → ancestry_within (n - k) rows (Some class) ≡ and_above class (slice_get rows class) (λ above. ancestry_within (n - (k + 1)) rows above)
  further_up n k class lt =
      let e : n - k ≡ suc (n - (k + 1)) = omega (arith, lt) in
      ap (λ m. ancestry_within m rows (Some class)) e

  -- from a class that there isn't, and from one that there is
  pub no_class : (n k class : ℕ) → k < n → slice_get rows class ≡ None → ancestry_within (n - k) rows (Some class) ≡ []
  no_class n k class lt none = further_up n k class lt ∙ ap (λ s. and_above class s (λ above. ancestry_within (n - (k + 1)) rows above)) none

  pub in_class : (n k class : ℕ) (superclass : Option ℕ) → k < n → slice_get rows class ≡ Some superclass
      → ancestry_within (n - k) rows (Some class) ≡ class ∷ ancestry_within (n - (k + 1)) rows superclass
  in_class n k class superclass lt some = further_up n k class lt ∙ ap (λ s. and_above class s (λ above. ancestry_within (n - (k + 1)) rows above)) some

-- by a table with a row for each class
module _ {X : Type 0} (above : X → Option ℕ) (rows : List X) where
  pub all_rows : (from : Option ℕ) → ancestry (map above rows) from ≡ ancestry_within (length rows - 0) (map above rows) from
  all_rows from =
      let e : length (map above rows) ≡ length rows - 0 = omega (arith, length-map rows above) in
      ap (λ n. ancestry_within n (map above rows) from) e

  pub no_row : (k class : ℕ) → k < length rows → slice_get rows class ≡ None → ancestry_within (length rows - k) (map above rows) (Some class) ≡ []
  no_row k class lt none = no_class (map above rows) (length rows) k class lt (slice_get-map above rows class ∙ ap (option_map above) none)

  pub in_row : (k class : ℕ) (row : X) → k < length rows → slice_get rows class ≡ Some row
      → ancestry_within (length rows - k) (map above rows) (Some class) ≡ class ∷ ancestry_within (length rows - (k + 1)) (map above rows) (above row)
  in_row k class row lt some = in_class (map above rows) (length rows) k class (above row) lt (slice_get-map above rows class ∙ ap (option_map above) some)

-- ---- classes as they lie in memory

pub class_there : (all : List declared.Class) (number : ℕ) (c : Option declared.Class) → slice_get all number ≡ c → slice_get (classes_of all) number ≡ option_map class_of c
class_there all number c is = slice_get-map class_of all number ∙ ap (option_map class_of) is

pub superclass_there : (all : List declared.Class) (number : ℕ) (c : Option declared.Class) → slice_get all number ≡ c
    → slice_get (superclasses (classes_of all)) number ≡ option_map superclass_of (option_map class_of c)
superclass_there all number c is = slice_get-map superclass_of (classes_of all) number ∙ ap (option_map superclass_of) (class_there all number c is)

pub all_classes : (all : List declared.Class) (from : Option ℕ) → ancestry (superclasses (classes_of all)) from ≡ ancestry_within (length all - 0) (superclasses (classes_of all)) from
all_classes all from =
    let e : length (superclasses (classes_of all)) ≡ length all - 0 = omega (arith, length-map (classes_of all) superclass_of, length-map all class_of) in
    ap (λ n. ancestry_within n (superclasses (classes_of all)) from) e

-- ---- the first that has something

pub own_first : {X : Type 0} (own : Option X) (all above : Option X) (there : is_some own ≡ true) (e : Option X) → own ≡ e → all ≡ option_or e above → own ≡ all
own_first None all above there e same is = absurd (true≢false (sym there))
own_first (Some a) all above there e same is = sym (is ∙ ap (λ o. option_or o above) (sym same))

pub above_next : {X : Type 0} (own : Option X) (all above : Option X) (missing : is_some own ≡ false) (e : Option X) → own ≡ e → all ≡ option_or e above → all ≡ above
above_next None all above missing e same is = is ∙ ap (λ o. option_or o above) (sym same)
above_next (Some a) all above missing e same is = absurd (true≢false missing)
