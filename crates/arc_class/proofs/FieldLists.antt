-- The fields of classes, a class at a time.
use Rattle.std.proofs.Common.{◌≡◌, ℕ, zero, suc, ◌+◌, ◌<◌, ◌≤◌, Bool, true, false, List, [], ◌∷◌, ◌++◌, length, map, reverse, nat_lt, slice_get, Option, Some, None, option_map, Vec, Global, if◌then◌else◌, refl, sym, ap, subst, ◌∙◌, arith}
use Rattle.std.specs.Option.{option_and_then, option_map_or, option_or}
use Rattle.std.proofs.Math.Path.{fun_ext}
use Rattle.std.proofs.lemmas.Bool.{lt-ltb, le-ltb}
use Rattle.std.proofs.lemmas.Bool.Decides.{nat_tests, Decides-ltb}
use Rattle.std.proofs.lemmas.Grind.{reverse_onto}
use Rattle.std.proofs.lemmas.List.{append-nil, length-map}
use Rattle.std.proofs.lemmas.List.Concat.{flat_map-append}
use Rattle.std.proofs.lemmas.Option.{slice_get-map, slice_get_within, none-some}
use Rattle.std.specs.List.{flat_map}
use Rattle.arc_class.specs.NameMaps.{Named}
use Rattle.std.specs.Str.{bytes_eq}
use Rattle.arc_ast.specs.Tree.{FieldTree, InterfaceTree, UnitTree}
use Rattle.arc_spec.specs.Classes.{and_above, ancestry, ancestry_within, first_that_has}
use Rattle.arc_class.specs.declared.fields.ClassFields.{ClassFields}
use Rattle.arc_spec.specs.declared.sort_counts.SortCounts.{SortCounts}
use Rattle.arc_class.specs.declared.table.Field.{Field}
use Rattle.arc_class.specs.declared.table.FoundField.{FoundField}
use Rattle.arc_class.specs.ClassRules.{field_place}
use Rattle.arc_class.specs.Lookups.{least_among}
use Rattle.arc_class.specs.private.Entries.{inherited_place}
use Rattle.arc_class.specs.Classes.{class_number, superclass}
use Rattle.arc_class.specs.private.Entries.{FieldsTree, fields_tree, root_fields, class_fields, class_fields_from, class_fields_with, all_class_fields, counted_at, counted_among}
use Rattle.arc_class.specs.Fields.{ClassField, fields_declared, own_fields, owned, if_before, earlier_superclasses_from, earlier_superclasses, own_class_fields, inherited_by, fields, all_fields_from, inherited, sorts_of_fields, written_sorts, field_after, numbered, own_field, known_field, field_sort}
use Rattle.arc_spec.specs.Sorts.{none_counted, with_one, with_all, counts}
use Rattle.arc_class.specs.Table.{at_name, own_field_in, own_place_in, superclass_of_fields, field_among, place_among, list_of, list_at, list_among}
use Rattle.arc_class.proofs.TablePartsGrow.{kept_none}
use Rattle.arc_class.proofs.SortCountSums.{counts_of_class, counts_of_parts}
use Rattle.arc_class.proofs.LeastPlace.{nothing_least}

-- ---- the superclasses that stand before their classes

before_is : (class : ℕ) (superclass : Option ℕ) (above : ℕ) → if_before class superclass ≡ Some above → above < class
before_is class None above e = absurd (none-some _ e)
before_is class (Some other) above e = go (nat_lt other class) refl e
  where
    go : (b : Bool) → nat_lt other class ≡ b → (if b then Some other else None) ≡ Some above → above < class
    go true t e =
        let same : other ≡ above = cc in
        subst (λ n. n < class) same ((Decides-ltb other class).0 t)
    go false t e = absurd (none-some _ e)

before_at : (interfaces : List InterfaceTree) (first : ℕ) (is : List InterfaceTree) (n : ℕ)
    → slice_get (earlier_superclasses_from interfaces first is) n ≡ option_map (λ i. if_before (first + n) (class_number interfaces i.superclass)) (slice_get is n)
before_at interfaces first [] n = refl
before_at interfaces first (i ∷ is) zero = ap (λ m. Some (if_before m (class_number interfaces i.superclass))) (omega arith)
before_at interfaces first (i ∷ is) (suc n) =
    let e : suc first + n ≡ first + suc n = omega arith in
    before_at interfaces (suc first) is n ∙ ap (λ m. option_map (λ i. if_before m (class_number interfaces i.superclass)) (slice_get is n)) e

before_count : (interfaces : List InterfaceTree) (first : ℕ) (is : List InterfaceTree) → length (earlier_superclasses_from interfaces first is) ≡ length is
before_count interfaces first [] = refl
before_count interfaces first (i ∷ is) = ap (λ n. suc n) (before_count interfaces (suc first) is)

module _ (interfaces : List InterfaceTree) where
  abbrev chain : List (Option ℕ)
  chain = earlier_superclasses interfaces

  -- the class of an interface, and a class that there isn't
  chain_here : (n : ℕ) (i : InterfaceTree) → slice_get interfaces n ≡ Some i → slice_get chain (suc n) ≡ Some (if_before (suc n) (class_number interfaces i.superclass))
  chain_here n i e = before_at interfaces 1 interfaces n ∙ ap (option_map (λ i. if_before (1 + n) (class_number interfaces i.superclass))) e ∙ ap (λ m. Some (if_before m (class_number interfaces i.superclass))) (omega arith)

  chain_past : (n : ℕ) → slice_get interfaces n ≡ None → slice_get chain (suc n) ≡ None
  chain_past n e = before_at interfaces 1 interfaces n ∙ ap (option_map (λ i. if_before (1 + n) (class_number interfaces i.superclass))) e

  chain_falls : (class above : ℕ) → slice_get chain class ≡ Some (Some above) → above < class
  chain_falls zero above e = cc
  chain_falls (suc n) above e = go (slice_get interfaces n) refl
    where
      go : (o : Option InterfaceTree) → slice_get interfaces n ≡ o → above < suc n
      go None h = absurd (none-some _ (sym (chain_past n h) ∙ e))
      go (Some i) h =
          let is : Some (if_before (suc n) (class_number interfaces i.superclass)) ≡ Some (Some above) = sym (chain_here n i h) ∙ e in
          let same : if_before (suc n) (class_number interfaces i.superclass) ≡ Some above = cc in
          before_is (suc n) (class_number interfaces i.superclass) above same

  -- more classes may be looked at
  chain_more : (n m class : ℕ) → class < n → class < m → ancestry_within n chain (Some class) ≡ ancestry_within m chain (Some class)
  chain_more zero m class l k = absurd (omega (arith, l))
  chain_more (suc n) zero class l k = absurd (omega (arith, k))
  chain_more (suc n) (suc m) class l k =
      go (slice_get chain class) refl (λ above falls. chain_more n m above (omega (arith, falls, l)) (omega (arith, falls, k)))
    where
      go : (o : Option (Option ℕ)) → slice_get chain class ≡ o → ((above : ℕ) → above < class → ancestry_within n chain (Some above) ≡ ancestry_within m chain (Some above))
          → and_above class (slice_get chain class) (λ above. ancestry_within n chain above) ≡ and_above class (slice_get chain class) (λ above. ancestry_within m chain above)
      go None e more = rw e refl
      go (Some None) e more = rw e refl
      go (Some (Some above)) e more =
          let falls : above < class = chain_falls class above e in
          ap (λ o. and_above class o (λ above. ancestry_within n chain above)) e ∙ ap (λ l. class ∷ l) (more above falls)
          ∙ sym (ap (λ o. and_above class o (λ above. ancestry_within m chain above)) e)

-- ---- the fields of a class

-- those of the classes above a class, if the class itself is there
above_fields : (u : UnitTree) (class : ℕ) (superclass : Option ℕ) → class ≤ length u.interfaces
    → flat_map (own_class_fields u) (reverse (ancestry_within (length u.interfaces) (chain u.interfaces) (if_before class superclass))) ≡ inherited_by u class superclass
above_fields u class superclass l = go (if_before class superclass) refl
  where
    go : (o : Option ℕ) → if_before class superclass ≡ o
        → flat_map (own_class_fields u) (reverse (ancestry_within (length u.interfaces) (chain u.interfaces) o)) ≡ option_map_or (fields u) o []
    go None e = refl
    go (Some above) e =
        let falls : above < class = before_is class superclass above e in
        let all : above < length (chain u.interfaces) = omega (arith, falls, l, before_count u.interfaces 1 u.interfaces) in
        ap (λ classes. flat_map (own_class_fields u) (reverse classes)) (chain_more u.interfaces (length u.interfaces) (length (chain u.interfaces)) above (omega (arith, falls, l)) all)

last_one : {X Y : Type 0} (f : X → List Y) (xs : List X) (x : X) → flat_map f (reverse (x ∷ xs)) ≡ flat_map f (reverse xs) ++ f x
last_one f xs x = ap (flat_map f) (reverse_onto xs x []) ∙ flat_map-append f (reverse xs) (x ∷ []) ∙ ap (λ ys. flat_map f (reverse xs) ++ ys) (append-nil (f x))

in_chain : (u : UnitTree) (class : ℕ) (superclass : Option ℕ) → class ≤ length u.interfaces → slice_get (chain u.interfaces) class ≡ Some (if_before class superclass)
    → fields u class ≡ inherited_by u class superclass ++ own_class_fields u class
in_chain u class superclass l e =
    let count : length (earlier_superclasses_from u.interfaces 1 u.interfaces) ≡ length u.interfaces = before_count u.interfaces 1 u.interfaces in
    ap (λ n. flat_map (own_class_fields u) (reverse (ancestry_within (suc n) (chain u.interfaces) (Some class)))) count
    ∙ ap (λ o. flat_map (own_class_fields u) (reverse (and_above class o (λ above. ancestry_within (length u.interfaces) (chain u.interfaces) above)))) e
    ∙ last_one (own_class_fields u) (ancestry_within (length u.interfaces) (chain u.interfaces) (if_before class superclass)) class
    ∙ ap (λ fs. fs ++ own_class_fields u class) (above_fields u class superclass l)

-- those of a class that stands before another are inherited, and of one that doesn't none are
pub fields_among : (n : ℕ) (u : UnitTree) (class : ℕ) → class < n → inherited_by u n (Some class) ≡ fields u class
fields_among n u class l = ap (λ b. option_map_or (fields u) (if b then Some class else None) []) (lt-ltb class n l)

pub fields_past : (n : ℕ) (u : UnitTree) (class : ℕ) → n ≤ class → inherited_by u n (Some class) ≡ []
fields_past n u class l = ap (λ b. option_map_or (fields u) (if b then Some class else None) []) (le-ltb class n l)

-- the class of an interface
pub superclass_here : (u : UnitTree) (n : ℕ) (i : InterfaceTree) → slice_get u.interfaces n ≡ Some i → superclass u.interfaces (suc n) ≡ class_number u.interfaces i.superclass
superclass_here u n i e = ap (option_and_then (λ i. class_number u.interfaces i.superclass)) e

pub own_here : (u : UnitTree) (n : ℕ) (i : InterfaceTree) → slice_get u.interfaces n ≡ Some i → own_fields u (suc n) ≡ fields_declared u (suc n) i
own_here u n i e = ap (λ o. option_map_or (fields_declared u (suc n)) o []) e

pub class_here : (u : UnitTree) (n : ℕ) (i : InterfaceTree) → slice_get u.interfaces n ≡ Some i
    → fields u (suc n) ≡ inherited_by u (suc n) (class_number u.interfaces i.superclass) ++ map (owned (suc n)) (fields_declared u (suc n) i)
class_here u n i e =
    let within : n < length u.interfaces = slice_get_within u.interfaces n i e in
    in_chain u (suc n) (class_number u.interfaces i.superclass) (omega (arith, within)) (chain_here u.interfaces n i e)
    ∙ ap (λ fs. inherited_by u (suc n) (class_number u.interfaces i.superclass) ++ map (owned (suc n)) fs) (own_here u n i e)

-- a class that there isn't has none
class_past : (u : UnitTree) (n : ℕ) → slice_get u.interfaces n ≡ None → fields u (suc n) ≡ []
class_past u n e =
    ap (λ n1. flat_map (own_class_fields u) (reverse (ancestry_within (suc n1) (chain u.interfaces) (Some (suc n))))) (before_count u.interfaces 1 u.interfaces)
    ∙ ap (λ o. flat_map (own_class_fields u) (reverse (and_above (suc n) o (λ above. ancestry_within (length u.interfaces) (chain u.interfaces) above)))) (chain_past u.interfaces n e)

pub class_counts : (u : UnitTree) (n : ℕ) (i : InterfaceTree) → slice_get u.interfaces n ≡ Some i → counts (sorts_of_fields (fields u (suc n))) ≡ (class_fields u (suc n) i).counted
class_counts u n i e =
    ap (λ fs. counts (sorts_of_fields fs)) (class_here u n i e) ∙ counts_of_class (inherited_by u (suc n) (class_number u.interfaces i.superclass)) (suc n) (fields_declared u (suc n) i)

-- ---- what is known of the fields of classes

abbrev whole : Option ℕ → (List ℕ → Option ℕ) → (List ℕ → Option FoundField) → SortCounts → FieldsTree
whole superclass places named counted = record { superclass = superclass; places = places; named = named; counted = counted }

abbrev tree_with : (List ℕ → Option ℕ) → (List ℕ → Option FoundField) → FieldsTree
tree_with places named = record { superclass = None; places = places; named = named; counted = none_counted }

pub root_is : (places : Named ℕ) (named : Named FoundField) (counted : SortCounts) → places ≡ [] → named ≡ [] → counted ≡ none_counted
    → fields_tree (record { superclass = None; places = places; named = named; counted = counted }) ≡ root_fields
root_is places named counted p n c =
    ap (whole None (at_name places) (at_name named)) c
    ∙ ap (λ f. tree_with f (at_name named)) (fun_ext (λ name. kept_none places name p)) ∙ ap (tree_with (λ name. None)) (fun_ext (λ name. kept_none named name n))

-- those of a class, by the maps that are made of its fields in two parts
pub fields_made : (u : UnitTree) (class : ℕ) (inherited next counted : SortCounts) (i : InterfaceTree) (xs ys : List FieldTree) (superclass : Option ℕ) (places : Named ℕ) (named : Named FoundField)
    → superclass ≡ if_before class (class_number u.interfaces i.superclass) → xs ++ ys ≡ fields_declared u class i → ((name : List ℕ) → at_name places name ≡ field_place name (xs ++ ys))
    → ((name : List ℕ) → at_name named name ≡ option_or (numbered u.interfaces class inherited xs name) (numbered u.interfaces class next ys name))
    → next ≡ with_all inherited (written_sorts xs) → counted ≡ with_all next (written_sorts ys)
    → fields_tree (record { superclass = superclass; places = places; named = named; counted = counted }) ≡ class_fields_with u class inherited i
fields_made u class inherited next counted i xs ys superclass places named s d p n e c =
    let above = if_before class (class_number u.interfaces i.superclass) in
    let own = fields_declared u class i in
    let numbers = numbered u.interfaces class in
    let all : counted ≡ with_all inherited (written_sorts own) =
    c ∙ ap (λ m. with_all m (written_sorts ys)) e ∙ counts_of_parts inherited xs ys ∙ ap (λ fs. with_all inherited (written_sorts fs)) d in
    ap (λ o. whole o (at_name places) (at_name named) counted) s ∙ ap (λ f. whole above f (at_name named) counted) (fun_ext (λ name. p name ∙ ap (field_place name) d))
    ∙ ap (λ f. whole above (λ name. field_place name own) f counted) (fun_ext (λ name. n name
    ∙ ap (λ m. option_or (numbers inherited xs name) (numbers m ys name)) e ∙ sym (numbered_append inherited xs ys name) ∙ ap (λ fs. numbers inherited fs name) d))
    ∙ ap (whole above (λ name. field_place name own) (numbers inherited own)) all
  where
    numbered_append : (k : SortCounts) (xs ys : List FieldTree) (name : List ℕ)
        → numbered u.interfaces class k (xs ++ ys) name ≡ option_or (numbered u.interfaces class k xs name) (numbered u.interfaces class (with_all k (written_sorts xs)) ys name)
    numbered_append k [] ys name = refl
    numbered_append k (x ∷ xs) ys name = go (bytes_eq name x.name) (field_after u.interfaces class k x) _ _ _ (numbered_append (with_one (field_sort x) k) xs ys name)
      where
        go : (b : Bool) (found : FoundField) (p q r : Option FoundField) → p ≡ option_or q r → (if b then Some found else p) ≡ option_or (if b then Some found else q) r
        go true found p q r h = refl
        go false found p q r h = h

class_at : (u : UnitTree) (first : ℕ) (is : List InterfaceTree) (n : ℕ) → slice_get (class_fields_from u first is) n ≡ option_map (class_fields u (first + n)) (slice_get is n)
class_at u first [] n = refl
class_at u first (i ∷ is) zero = ap (λ m. Some (class_fields u m i)) (omega arith)
class_at u first (i ∷ is) (suc n) =
    let e : suc first + n ≡ first + suc n = omega arith in
    class_at u (suc first) is n ∙ ap (λ m. option_map (class_fields u m) (slice_get is n)) e

abbrev named_said : Option FieldsTree → List ℕ → Option FoundField
named_said None name = None
named_said (Some t) name = t.named name

abbrev places_said : Option FieldsTree → List ℕ → Option ℕ
places_said None name = None
places_said (Some t) name = t.places name

abbrev counted_said : Option FieldsTree → SortCounts
counted_said None = none_counted
counted_said (Some t) = t.counted

tree_at : (u : UnitTree) (all : List ClassFields) (class : ℕ) → map fields_tree all ≡ all_class_fields u → option_map fields_tree (slice_get all class) ≡ slice_get (all_class_fields u) class
tree_at u all class e = sym (slice_get-map fields_tree all class) ∙ ap (λ ts. slice_get ts class) e

said : (u : UnitTree) (n : ℕ) → slice_get (all_class_fields u) (suc n) ≡ option_map (class_fields u (suc n)) (slice_get u.interfaces n)
said u n = class_at u 1 u.interfaces n ∙ ap (λ m. option_map (class_fields u m) (slice_get u.interfaces n)) (omega arith)

said_named : (u : UnitTree) (class : ℕ) (name : List ℕ) → named_said (slice_get (all_class_fields u) class) name ≡ own_field u class name
said_named u zero name = refl
said_named u (suc n) name = ap (λ t. named_said t name) (said u n) ∙ go (slice_get u.interfaces n) refl
  where
    go : (o : Option InterfaceTree) → slice_get u.interfaces n ≡ o → named_said (option_map (class_fields u (suc n)) o) name ≡ own_field u (suc n) name
    go None e = sym (ap (λ o. numbered u.interfaces (suc n) (counts (sorts_of_fields (inherited u (suc n)))) (option_map_or (fields_declared u (suc n)) o []) name) e)
    go (Some i) e = sym (ap (λ s. numbered u.interfaces (suc n) (counts (sorts_of_fields (inherited_by u (suc n) s))) (own_fields u (suc n)) name) (superclass_here u n i e)
        ∙ ap (λ fs. numbered u.interfaces (suc n) (counts (sorts_of_fields (inherited_by u (suc n) (class_number u.interfaces i.superclass)))) fs name) (own_here u n i e))

said_places : (u : UnitTree) (class : ℕ) (name : List ℕ) → places_said (slice_get (all_class_fields u) class) name ≡ field_place name (own_fields u class)
said_places u zero name = refl
said_places u (suc n) name = ap (λ t. places_said t name) (said u n) ∙ go (slice_get u.interfaces n)
  where
    go : (o : Option InterfaceTree) → places_said (option_map (class_fields u (suc n)) o) name ≡ field_place name (option_map_or (fields_declared u (suc n)) o [])
    go None = refl
    go (Some i) = refl

-- a class that has no field of a name has no place of one
not_numbered : (is : List InterfaceTree) (owner : ℕ) (k : SortCounts) (xs : List FieldTree) (name : List ℕ) → numbered is owner k xs name ≡ None → field_place name xs ≡ None
not_numbered is owner k [] name e = refl
not_numbered is owner k (x ∷ xs) name e = go (bytes_eq name x.name) e (not_numbered is owner (with_one (field_sort x) k) xs name)
  where
    go : (b : Bool) → (if b then Some (field_after is owner k x) else numbered is owner (with_one (field_sort x) k) xs name) ≡ None
        → (numbered is owner (with_one (field_sort x) k) xs name ≡ None → field_place name xs ≡ None) → (if b then Some x.at else field_place name xs) ≡ None
    go true h more = absurd (none-some _ (sym h))
    go false h more = more h

pub not_inherited : (u : UnitTree) (from : Option ℕ) (name : List ℕ) → known_field u from name ≡ None → inherited_place u from name ≡ None
not_inherited u from name e =
    nothing_least (λ class. own_field u class name) (λ class. field_place name (own_fields u class))
    (λ class h. not_numbered u.interfaces class (counts (sorts_of_fields (inherited u class))) (own_fields u class) name h) (ancestry (earlier_superclasses u.interfaces) from) e

slice_past : {X : Type 0} (xs : List X) (n : ℕ) → n < length xs → slice_get xs n ≡ None → ⊥
slice_past [] n l e = omega (arith, l)
slice_past (x ∷ xs) zero l e = cc
slice_past (x ∷ xs) (suc n) l e = slice_past xs n (omega (arith, l)) e

said_counts : (u : UnitTree) (class : ℕ) → class ≤ length u.interfaces → counted_said (slice_get (all_class_fields u) class) ≡ counts (sorts_of_fields (fields u class))
said_counts u zero l = refl
said_counts u (suc n) l = ap counted_said (said u n) ∙ go (slice_get u.interfaces n) refl
  where
    go : (o : Option InterfaceTree) → slice_get u.interfaces n ≡ o → counted_said (option_map (class_fields u (suc n)) o) ≡ counts (sorts_of_fields (fields u (suc n)))
    go None e = absurd (slice_past u.interfaces n (omega (arith, l)) e)
    go (Some i) e = sym (class_counts u n i e)

-- ---- by a list that is kept

module _ (u : UnitTree) (all : List ClassFields) (e : map fields_tree all ≡ all_class_fields u) where
  superclasses_kept : map superclass_of_fields all ≡ earlier_superclasses u.interfaces
  superclasses_kept = tree_superclasses all ∙ ap (map (λ t. t.superclass)) e ∙ ap (λ above. None ∷ above) (from_interfaces 1 u.interfaces)
    where
      tree_superclasses : (xs : List ClassFields) → map superclass_of_fields xs ≡ map (λ t. t.superclass) (map fields_tree xs)
      tree_superclasses [] = refl
      tree_superclasses (x ∷ xs) = ap (λ above. x.superclass ∷ above) (tree_superclasses xs)

      from_interfaces : (first : ℕ) (is : List InterfaceTree) → map (λ t. t.superclass) (class_fields_from u first is) ≡ earlier_superclasses_from u.interfaces first is
      from_interfaces first [] = refl
      from_interfaces first (i ∷ is) = ap (λ above. if_before first (class_number u.interfaces i.superclass) ∷ above) (from_interfaces (suc first) is)

  own_kept : (class : ℕ) (name : List ℕ) → own_field_in (slice_get all class) name ≡ own_field u class name
  own_kept class name = go (slice_get all class) ∙ ap (λ t. named_said t name) (tree_at u all class e) ∙ said_named u class name
    where
      go : (o : Option ClassFields) → own_field_in o name ≡ named_said (option_map fields_tree o) name
      go None = refl
      go (Some x) = refl

  pub counts_kept : (class : ℕ) → class ≤ length u.interfaces → counted_among all (Some class) ≡ counts (sorts_of_fields (fields u class))
  counts_kept class l = go (slice_get all class) ∙ ap counted_said (tree_at u all class e) ∙ said_counts u class l
    where
      go : (o : Option ClassFields) → counted_at o ≡ counted_said (option_map fields_tree o)
      go None = refl
      go (Some x) = refl

  -- the field with a name is the known one
  pub field_kept : (from : Option ℕ) (name : List ℕ) → field_among all from name ≡ known_field u from name
  field_kept from name =
      ap (λ above. first_that_has (λ class. own_field_in (slice_get all class) name) (ancestry above from)) superclasses_kept
      ∙ ap (λ (own : ℕ → Option FoundField). first_that_has own (ancestry (earlier_superclasses u.interfaces) from)) (fun_ext (λ class. own_kept class name))

  place_kept : (class : ℕ) (name : List ℕ) → own_place_in (slice_get all class) name ≡ field_place name (own_fields u class)
  place_kept class name = go (slice_get all class) ∙ ap (λ t. places_said t name) (tree_at u all class e) ∙ said_places u class name
    where
      go : (o : Option ClassFields) → own_place_in o name ≡ places_said (option_map fields_tree o) name
      go None = refl
      go (Some x) = refl

  -- and so is the least place
  pub least_kept : (from : Option ℕ) (name : List ℕ) → place_among all from name ≡ inherited_place u from name
  least_kept from name =
      ap (λ above. least_among (λ class. own_place_in (slice_get all class) name) (ancestry above from)) superclasses_kept
      ∙ ap (λ (own : ℕ → Option ℕ). least_among own (ancestry (earlier_superclasses u.interfaces) from)) (fun_ext (λ class. place_kept class name))

-- ---- one class more

slice_front : {X : Type 0} (xs ys : List X) (n : ℕ) → n < length xs → slice_get (xs ++ ys) n ≡ slice_get xs n
slice_front [] ys n l = absurd (omega (arith, l))
slice_front (x ∷ xs) ys zero l = refl
slice_front (x ∷ xs) ys (suc n) l = slice_front xs ys n (omega (arith, l))

slice_none : {X : Type 0} (xs : List X) (n : ℕ) → length xs ≤ n → slice_get xs n ≡ None
slice_none [] n l = refl
slice_none (x ∷ xs) zero l = absurd (omega (arith, l))
slice_none (x ∷ xs) (suc n) l = slice_none xs n (omega (arith, l))

-- how many fields a class inherits, by what is kept of those before it
pub inherited_so_far : (u : UnitTree) (all : List ClassFields) (rest : List FieldsTree) → all_class_fields u ≡ map fields_tree all ++ rest → length all ≤ suc (length u.interfaces)
    → (superclass : Option ℕ) → counted_among all superclass ≡ counts (sorts_of_fields (inherited_by u (length all) superclass))
inherited_so_far u all rest e l None = refl
inherited_so_far u all rest e l (Some class) = go (nat_lt class (length all)) refl
  where
    tree : (o : Option ClassFields) → counted_at o ≡ counted_said (option_map fields_tree o)
    tree None = refl
    tree (Some x) = refl

    go : (b : Bool) → nat_lt class (length all) ≡ b → counted_at (slice_get all class) ≡ counts (sorts_of_fields (inherited_by u (length all) (Some class)))
    go true t =
        let lt : class < length all = (Decides-ltb class (length all)).0 t in
        let within : class < length (map fields_tree all) = omega (arith, lt, length-map all fields_tree) in
        tree (slice_get all class) ∙ ap counted_said (sym (slice_get-map fields_tree all class) ∙ sym (slice_front (map fields_tree all) rest class within) ∙ ap (λ ts. slice_get ts class) (sym e))
        ∙ said_counts u class (omega (arith, lt, l)) ∙ ap (λ fs. counts (sorts_of_fields fs)) (sym (fields_among (length all) u class lt))
    go false t =
        let past : length all ≤ class = grind (arith, nat_tests) in
        ap counted_at (slice_none all class past) ∙ ap (λ fs. counts (sorts_of_fields fs)) (sym (fields_past (length all) u class past))

-- and which
zero_more : (n : ℕ) → 0 + n ≡ n
zero_more n = omega arith

list_from : (u : UnitTree) (first count n : ℕ) → n < count → slice_get (all_fields_from u first count) n ≡ Some (fields u (first + n))
list_from u first zero n l = absurd (omega (arith, l))
list_from u first (suc count) zero l =
    let e : first ≡ first + 0 = omega arith in
    ap (λ m. Some (fields u m)) e
list_from u first (suc count) (suc n) l =
    let e : suc first + n ≡ first + suc n = omega arith in
    list_from u (suc first) count n (omega (arith, l)) ∙ ap (λ m. Some (fields u m)) e

abbrev list_said : Option (List ClassField) → List ClassField
list_said None = []
list_said (Some xs) = xs

list_tree : (o : Option (Vec Field Global)) → list_at o ≡ list_said (option_map list_of o)
list_tree None = refl
list_tree (Some x) = refl

pub lists_so_far : (u : UnitTree) (all : List (Vec Field Global)) (rest : List (List ClassField)) → all_fields_from u 0 (suc (length u.interfaces)) ≡ map list_of all ++ rest → length all ≤ suc (length u.interfaces)
    → (superclass : Option ℕ) → list_among all superclass ≡ inherited_by u (length all) superclass
lists_so_far u all rest e l None = refl
lists_so_far u all rest e l (Some class) = go (nat_lt class (length all)) refl
  where
    go : (b : Bool) → nat_lt class (length all) ≡ b → list_at (slice_get all class) ≡ inherited_by u (length all) (Some class)
    go true t =
        let lt : class < length all = (Decides-ltb class (length all)).0 t in
        let within : class < length (map list_of all) = omega (arith, lt, length-map all list_of) in
        list_tree (slice_get all class) ∙ ap list_said (sym (slice_get-map list_of all class) ∙ sym (slice_front (map list_of all) rest class within) ∙ ap (λ ts. slice_get ts class) (sym e)
        ∙ list_from u 0 (suc (length u.interfaces)) class (omega (arith, lt, l)) ∙ ap (λ m. Some (fields u m)) (zero_more class)) ∙ sym (fields_among (length all) u class lt)
    go false t =
        let past : length all ≤ class = grind (arith, nat_tests) in
        ap list_at (slice_none all class past) ∙ sym (fields_past (length all) u class past)

pub lists_kept : (u : UnitTree) (all : List (Vec Field Global)) → map list_of all ≡ all_fields_from u 0 (suc (length u.interfaces)) → (class : ℕ) → list_at (slice_get all class) ≡ fields u class
lists_kept u all e class = go (nat_lt class (suc (length u.interfaces))) refl
  where
    counted : (first count : ℕ) → length (all_fields_from u first count) ≡ count
    counted first zero = refl
    counted first (suc count) = ap (λ n. suc n) (counted (suc first) count)

    gone : (n : ℕ) → length u.interfaces ≤ n → fields u (suc n) ≡ []
    gone n past =
        class_past u n (slice_none u.interfaces n past)

    later_on : (class : ℕ) → suc (length u.interfaces) ≤ class → fields u class ≡ []
    later_on zero past = refl
    later_on (suc n) past = gone n (omega (arith, past))

    go : (b : Bool) → nat_lt class (suc (length u.interfaces)) ≡ b → list_at (slice_get all class) ≡ fields u class
    go true t =
        list_tree (slice_get all class) ∙ ap list_said (sym (slice_get-map list_of all class) ∙ ap (λ ts. slice_get ts class) e
        ∙ list_from u 0 (suc (length u.interfaces)) class ((Decides-ltb class (suc (length u.interfaces))).0 t) ∙ ap (λ m. Some (fields u m)) (zero_more class))
    go false t =
        let past : suc (length u.interfaces) ≤ class = grind (arith, nat_tests) in
        let few : length all ≤ class = omega (arith, past, sym (length-map all list_of) ∙ ap length e ∙ counted 0 (suc (length u.interfaces))) in
        ap list_at (slice_none all class few) ∙ sym (later_on class past)
