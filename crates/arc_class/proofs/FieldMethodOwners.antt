-- The nearest class that has a method or a field, one class more at a time.
use Rattle.std.proofs.Common.{◌≡◌, ℕ, zero, suc, ◌+◌, List, [], ◌∷◌, ◌++◌, length, map, Option, Some, None, option_map, is_some, slice_get, refl, sym, ap, subst, ◌∙◌, arith}
use Rattle.std.proofs.lemmas.List.{length-append}
use Rattle.std.proofs.lemmas.Option.{slice_get-map}
use Rattle.arc_ast.specs.declared.tree.Sign.{Sign}
use Rattle.arc_ast.specs.Tree.{head_tree}
use Rattle.arc_class.specs.declared.fields.ClassFields.{ClassFields}
use Rattle.arc_class.specs.declared.table.Entry.{Entry}
use Rattle.arc_class.specs.Classes.{result_of}
use Rattle.arc_class.specs.Lookups.{at_name, head_at, superclass_among, superclass_of_entry, own_result_in, superclass_of_fields, own_field_in}
use Rattle.arc_class.specs.Owners.{view_at, with_own, owner_by, entry_view}
use Rattle.arc_class.proofs.NearestOwner.{Follows, follows_root, follows_class}

pub follows_none : {X : Type 0} (superclasses : List (Option ℕ)) (own : ℕ → List ℕ → Option X) (all : List (Option (List ℕ → Option ℕ))) → all ≡ [] → Follows superclasses own all
follows_none superclasses own all e class view at n lt name =
    let none : None ≡ Some (Some view) = ap (λ vs. slice_get vs class) (sym e) ∙ at in
    cc

pub one_more_class : {X : Type 0} (xs ys : List X) (x : X) (i : ℕ) → ys ≡ xs ++ x ∷ [] → length xs ≡ i → length ys ≡ i + 1
one_more_class xs ys x i e h = ap length e ∙ length-append xs (x ∷ []) ∙ ap (λ n. n + 1) h

is_mapped : {X Y : Type 0} (f : X → Y) (o : Option X) → is_some o ≡ is_some (option_map f o)
is_mapped f None = refl
is_mapped f (Some x) = refl

module _ (classes : List ClassFields) where
  abbrev named : ℕ → List ℕ → Option ℕ
  named = owner_by (λ class name. own_field_in (slice_get classes class) name)

  pub field_turn : (all new : List (Option (List ℕ → Option ℕ))) (known : ClassFields) → slice_get classes (length all) ≡ Some known
      → Follows (map superclass_of_fields classes) named all
      → new ≡ all ++ with_own (λ name. is_some (at_name known.named name)) (length all) (view_at all known.superclass) ∷ []
      → Follows (map superclass_of_fields classes) named new
  field_turn all new known there f e =
      let P : List (Option (List ℕ → Option ℕ)) → Type 0 = λ vs. Follows (map superclass_of_fields classes) named vs in
      let has : (name : List ℕ) → is_some (at_name known.named name) ≡ is_some (named (length all) name) = λ name.
      sym (ap (λ o. is_some (own_field_in o name)) there) ∙ is_mapped (λ found. length all) (own_field_in (slice_get classes (length all)) name) in
      let up : slice_get (map superclass_of_fields classes) (length all) ≡ Some known.superclass = slice_get-map superclass_of_fields classes (length all) ∙ ap (option_map superclass_of_fields) there in
      subst P (sym e) (follows_class (map superclass_of_fields classes) named all (λ name. is_some (at_name known.named name)) has f known.superclass up)

module _ (entries : List Entry) (sign : Sign) where
  abbrev gives : ℕ → List ℕ → Option ℕ
  gives = owner_by (λ class selector. own_result_in class (slice_get entries class) sign selector)

  pub entry_turn : (class : ℕ) (all new : List (Option (List ℕ → Option ℕ))) (entry : Entry) → length all ≡ class → slice_get entries class ≡ Some entry → superclass_among entries 0 ≡ None
      → Follows (map superclass_of_entry entries) gives all → new ≡ all ++ entry_view class entry sign all ∷ [] → Follows (map superclass_of_entry entries) gives new
  entry_turn zero all new entry count there top f e =
      let P : List (Option (List ℕ → Option ℕ)) → Type 0 = λ vs. Follows (map superclass_of_entry entries) gives vs in
      let own : superclass_among entries 0 ≡ entry.superclass = rw there refl in
      let root : slice_get (map superclass_of_entry entries) 0 ≡ Some None = slice_get-map superclass_of_entry entries 0 ∙ ap (option_map superclass_of_entry) there ∙ ap Some (sym own ∙ top) in
      subst P (sym e) (follows_root (map superclass_of_entry entries) gives all (none all count) root)
    where
      none : (all : List (Option (List ℕ → Option ℕ))) → length all ≡ 0 → all ≡ []
      none [] h = refl
      none (v ∷ vs) h = absurd (omega (arith, h))
  entry_turn (suc n) all new entry count there top f e =
      let P : List (Option (List ℕ → Option ℕ)) → Type 0 = λ vs. Follows (map superclass_of_entry entries) gives vs in
      let has : (name : List ℕ) → is_some (head_at entry.methods sign name) ≡ is_some (gives (length all) name) = λ name.
      is_mapped (λ h. result_of (head_tree h.now)) (head_at entry.methods sign name) ∙ sym (ap (λ o. is_some (own_result_in (suc n) o sign name)) there)
      ∙ is_mapped (λ found. suc n) (own_result_in (suc n) (slice_get entries (suc n)) sign name) ∙ sym (ap (λ c. is_some (gives c name)) count) in
      let up : slice_get (map superclass_of_entry entries) (suc n) ≡ Some entry.superclass = slice_get-map superclass_of_entry entries (suc n) ∙ ap (option_map superclass_of_entry) there in
      let here : slice_get (map superclass_of_entry entries) (length all) ≡ Some entry.superclass = ap (slice_get (map superclass_of_entry entries)) count ∙ up in
      let numbered : all ++ with_own (λ name. is_some (head_at entry.methods sign name)) (length all) (view_at all entry.superclass) ∷ [] ≡ new
      = ap (λ c. all ++ with_own (λ name. is_some (head_at entry.methods sign name)) c (view_at all entry.superclass) ∷ []) count ∙ sym e in
      subst P numbered (follows_class (map superclass_of_entry entries) gives all (λ name. is_some (head_at entry.methods sign name)) has f entry.superclass here)
