-- What a table answers to a lookup, by the owners that it keeps.
use Rattle.std.proofs.Common.{◌≡◌, ℕ, zero, suc, true, List, [], ◌∷◌, map, Option, Some, None, option_map, is_some, slice_get, refl, sym, ap, subst}
use Rattle.std.proofs.Math.Path.{fun_ext}
use Rattle.arc_class.specs.NameMaps.{Named}
use Rattle.std.specs.Borrow.{Bor}
use Rattle.arc_ast.specs.Tree.{head_tree}
use Rattle.arc_ast.specs.declared.tree.MethodHead.{MethodHead}
use Rattle.arc_ast.specs.declared.tree.Sign.{Sign}
use Rattle.arc_ast.specs.declared.tree.Sign.TheVariants as signs
use Rattle.arc_class.specs.declared.fields.ClassFields.{ClassFields}
use Rattle.arc_class.specs.declared.owners.Owners.{Owners}
use Rattle.arc_class.specs.declared.table.ClassTable.{ClassTable}
use Rattle.arc_class.specs.declared.table.Entry.{Entry}
use Rattle.arc_class.specs.declared.table.Place.{Place}
use Rattle.arc_spec.specs.Families.{is_object}
use Rattle.arc_class.specs.Classes.{result_of, built_in_result}
use Rattle.arc_class.specs.private.Entries.{EntryTree, entry_tree, root_entry}
use Rattle.arc_class.specs.Lookups.{head_at, superclass_among, superclass_of_entry, own_result_in, given_in, own_given_in, superclass_of_fields, own_field_in, field_among}
use Rattle.arc_class.specs.Owners.{Finds, FindsMethods, FindsFields, views, view_at, has_at, own_of, owner_by}
use Rattle.arc_class.specs.Table.{owners_in, nearest_result_in}
use Rattle.arc_class.proofs.NearestOwner.{reported_at}

methods_reported : (table : ClassTable) (sign : Sign) → FindsMethods table.entries.items sign (owners_in table sign)
methods_reported table signs.Class = table.class_methods_reported
methods_reported table signs.Instance = table.instance_methods_reported

-- whether a class has a method of its own is the same for its kind alone and for all that it gives
named_owner : {X Y : Type 0} (f : X → Y) (class : ℕ) (o : Option X) → option_map (λ found. class) o ≡ option_map (λ found. class) (option_map f o)
named_owner f class None = refl
named_owner f class (Some x) = refl

same_at : (names : Named Place) (class : ℕ) (o : Option (Bor MethodHead))
    → option_map (λ found. class) (option_map (λ h. result_of (head_tree h.now)) o) ≡ option_map (λ found. class) (option_map (λ h. given_in names (head_tree h.now)) o)
same_at names class None = refl
same_at names class (Some h) = refl

same_owner : (names : Named Place) (sign : Sign) (selector : List ℕ) (class : ℕ) (o : Option Entry)
    → option_map (λ found. class) (own_result_in class o sign selector) ≡ option_map (λ found. class) (own_given_in names class o sign selector)
same_owner names sign selector zero None = refl
same_owner names sign selector (suc n) None = refl
same_owner names sign selector zero (Some e) = named_owner (λ kind. record { kind = kind; class = None; related = is_object kind }) 0 (built_in_result sign selector)
same_owner names sign selector (suc n) (Some e) = same_at names (suc n) (head_at e.methods sign selector)

abbrev own_results : List Entry → Sign → ℕ → List ℕ → Option ℕ
own_results entries sign = owner_by (λ class selector. own_result_in class (slice_get entries class) sign selector)

abbrev own_given : Named Place → List Entry → Sign → ℕ → List ℕ → Option ℕ
own_given names entries sign = owner_by (λ class selector. own_given_in names class (slice_get entries class) sign selector)

same_owners : (names : Named Place) (entries : List Entry) (sign : Sign) → own_results entries sign ≡ own_given names entries sign
same_owners names entries sign = fun_ext (λ class. fun_ext (λ selector. same_owner names sign selector class (slice_get entries class)))

pub result_reported : (table : ClassTable) (sign : Sign) (selector : List ℕ) (owners : Owners) → owners ≡ owners_in table sign → (class : ℕ) → is_some (view_at (views owners) (Some class)) ≡ true
    → (found : Option ℕ) → found ≡ has_at (view_at (views owners) (Some class)) selector
    → own_of (λ c. own_given_in table.names c (slice_get table.entries.items c) sign selector) found ≡ nearest_result_in table class sign selector
result_reported table sign selector owners e class known found is =
    let entries = table.entries.items in
    let P : Owners → Type 0 = λ o. FindsMethods entries sign o in
    let Q : (ℕ → List ℕ → Option ℕ) → Type 0 = λ own. Finds (map superclass_of_entry entries) own (views owners) in
    reported_at (map superclass_of_entry entries) (λ c name. own_given_in table.names c (slice_get entries c) sign name) (views owners) (subst Q (same_owners table.names entries sign) (subst P (sym e) (methods_reported table sign))) class known selector found is

pub field_reported : (classes : List ClassFields) (owners : Owners) → FindsFields classes owners → (name : List ℕ) (class : ℕ) → is_some (view_at (views owners) (Some class)) ≡ true
    → (found : Option ℕ) → found ≡ has_at (view_at (views owners) (Some class)) name → own_of (λ c. own_field_in (slice_get classes c) name) found ≡ field_among classes (Some class) name
field_reported classes owners t name class known found is =
    reported_at (map superclass_of_fields classes) (λ c name. own_field_in (slice_get classes c) name) (views owners) t class known name found is

-- the root has no superclass
pub root_is_top : (names : Named Place) (entries : List Entry) (rest : List EntryTree) → map (entry_tree names) entries ≡ root_entry ∷ rest → superclass_among entries 0 ≡ None
root_is_top names [] rest e = refl
root_is_top names (x ∷ xs) rest e = ap first_superclass e
  where
    first_superclass : List EntryTree → Option ℕ
    first_superclass [] = None
    first_superclass (t ∷ ts) = t.superclass
