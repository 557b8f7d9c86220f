-- What tables, maps and lists have at names and numbers.
pub use Rattle.arc_class.specs.NameMaps.{Named, at_name}
use Rattle.std.specs.Prelude.{ℕ, zero, suc, ◌+◌, Bool, false, List, [], ◌∷◌, map, slice_get, nat_lt, codes, Option, Some, None, option_map, Vec, if◌then◌else◌}
use Rattle.std.specs.Global.{Global}
use Rattle.std.specs.Str.{bytes_eq}
use Rattle.std.specs.Borrow.{Bor}
use Rattle.arc_ast.specs.declared.tree.Kind.{Kind}
use Rattle.arc_ast.specs.declared.tree.MethodHead.{MethodHead}
use Rattle.arc_ast.specs.declared.tree.Sign.{Sign}
use Rattle.arc_ast.specs.declared.tree.Sign.TheVariants as signs
use Rattle.arc_ast.specs.Tree.{TypeTree, Object, ResultTree, Value, HeadTree, head_tree}
use Rattle.arc_spec.specs.Classes.{Class, superclasses, ancestry, first_that_has, own_dealloc}
use Rattle.arc_class.specs.declared.fields.ClassFields.{ClassFields}
use Rattle.arc_class.specs.declared.heads.Heads.{Heads}
use Rattle.arc_class.specs.declared.root.BuiltIn.{BuiltIn}
use Rattle.arc_class.specs.declared.table.ClassId.{ClassId}
use Rattle.arc_class.specs.declared.table.Entry.{Entry}
use Rattle.arc_class.specs.declared.table.Field.{Field}
use Rattle.arc_class.specs.declared.table.FoundField.{FoundField}
use Rattle.arc_class.specs.declared.table.MethodId.{MethodId}
use Rattle.arc_class.specs.declared.table.Place.{Place}
use Rattle.arc_class.specs.declared.table.Sel.{Sel}
use Rattle.arc_class.specs.declared.table.MethodResult.{MethodResult}
use Rattle.arc_class.specs.Classes.{is_root, result_of, is_related, built_in_result, built_in_given}
use Rattle.arc_class.specs.Fields.{ClassField}
use Rattle.arc_class.specs.RuntimeClasses.{classes}

-- the numbers that stand for classes, selectors and methods
abbrev pub number_of_class : ClassId → ℕ
number_of_class class = class.0

abbrev pub number_of_selector : Sel → ℕ
number_of_selector selector = selector.0

abbrev pub number_of_method : MethodId → ℕ
number_of_method method = method.0

-- the number of the class with a name, by a map from the names of interfaces
abbrev pub class_number_in : Named Place → List ℕ → Option ℕ
class_number_in names name = if is_root name then Some 0 else option_map (λ p. p.number) (at_name names name)

-- the class that a type names, by such a map
abbrev pub type_class_in : Named Place → TypeTree → Option ClassId
type_class_in names (Object at name) = option_map (λ n. record { 0 = n }) (class_number_in names name)
type_class_in names _ = None

-- the class of a result whose type names one, by such a map
abbrev pub result_class_in : Named Place → ResultTree → Option ClassId
result_class_in names (Value type) = type_class_in names type
result_class_in names _ = None

-- what a method gives, by such a map
abbrev pub given_in : Named Place → HeadTree → MethodResult
given_in names h = record { kind = result_of h; class = result_class_in names h.result; related = is_related h }

-- the method of a sign that maps have at a selector
abbrev pub head_at : Heads → Sign → List ℕ → Option (Bor MethodHead)
head_at heads signs.Class selector = at_name heads.class_methods selector
head_at heads signs.Instance selector = at_name heads.instance_methods selector

abbrev pub result_at : Heads → Sign → List ℕ → Option Kind
result_at heads sign selector = option_map (λ h. result_of (head_tree h.now)) (head_at heads sign selector)

-- what the method gives that a class itself has for a selector, by a table of the methods of each class; the root's are built in
abbrev pub own_result_in : (class : ℕ) → Option Entry → Sign → List ℕ → Option Kind
own_result_in class None sign selector = None
own_result_in zero (Some e) sign selector = built_in_result sign selector
own_result_in (suc n) (Some e) sign selector = result_at e.methods sign selector

-- the same with the class of an object that it gives
abbrev pub given_at : Named Place → Heads → Sign → List ℕ → Option MethodResult
given_at names heads sign selector = option_map (λ h. given_in names (head_tree h.now)) (head_at heads sign selector)

abbrev pub own_given_in : Named Place → (class : ℕ) → Option Entry → Sign → List ℕ → Option MethodResult
own_given_in names class None sign selector = None
own_given_in names zero (Some e) sign selector = built_in_given sign selector
own_given_in names (suc n) (Some e) sign selector = given_at names e.methods sign selector

abbrev pub superclass_among : List Entry → ℕ → Option ℕ
superclass_among entries class = superclass_at (slice_get entries class)
  where
    superclass_at : Option Entry → Option ℕ
    superclass_at None = None
    superclass_at (Some e) = e.superclass

abbrev pub superclass_of_entry : Entry → Option ℕ
superclass_of_entry e = e.superclass

-- the nearest that a class and those above it have
abbrev pub given_among : Named Place → List Entry → Option ℕ → Sign → List ℕ → Option MethodResult
given_among names entries from sign selector =
    first_that_has (λ class. own_given_in names class (slice_get entries class) sign selector) (ancestry (map superclass_of_entry entries) from)

-- the field that a class itself declares, and the nearest of it and those above it, by a table of the fields of each class
abbrev pub own_field_in : Option ClassFields → List ℕ → Option FoundField
own_field_in None name = None
own_field_in (Some c) name = at_name c.named name

-- the place of the first field with a name that a class itself declares
abbrev pub own_place_in : Option ClassFields → List ℕ → Option ℕ
own_place_in None name = None
own_place_in (Some c) name = at_name c.places name

abbrev pub superclass_of_fields : ClassFields → Option ℕ
superclass_of_fields c = c.superclass

abbrev pub field_among : List ClassFields → Option ℕ → List ℕ → Option FoundField
field_among classes from name = first_that_has (λ class. own_field_in (slice_get classes class) name) (ancestry (map superclass_of_fields classes) from)

-- the lesser of two places, where there are any
abbrev pub least_of : Option ℕ → Option ℕ → Option ℕ
least_of None b = b
least_of (Some a) None = Some a
least_of (Some a) (Some b) = Some (if nat_lt b a then b else a)

-- the least place that one of these classes has
abbrev pub least_among : (own : ℕ → Option ℕ) → (classes : List ℕ) → Option ℕ
least_among own [] = None
least_among own (class ∷ others) = least_of (own class) (least_among own others)

-- the first by position of the fields with a name that a class and those above it declare
abbrev pub place_among : List ClassFields → Option ℕ → List ℕ → Option ℕ
place_among classes from name = least_among (λ class. own_place_in (slice_get classes class) name) (ancestry (map superclass_of_fields classes) from)

-- a field, without where it lies in memory; and all of a class's objects
abbrev pub field_tree : Field → ClassField
field_tree f = record { name = f.name.now; kind = f.kind; qual = f.qual; owner = number_of_class f.owner; visibility = f.visibility }

abbrev pub list_of : Vec Field Global → List ClassField
list_of all = map field_tree all.items

-- what is in the list at a place; there is nothing where there is no list
abbrev pub items_at : {X : Type 0} → Option (Vec X Global) → List X
items_at None = []
items_at (Some all) = all.items

abbrev pub list_at : Option (Vec Field Global) → List ClassField
list_at None = []
list_at (Some all) = list_of all

abbrev pub list_among : List (Vec Field Global) → Option ℕ → List ClassField
list_among lists None = []
list_among lists (Some class) = list_at (slice_get lists class)

-- the function that the nearest `dealloc` runs of a class and those above it
abbrev pub nearest_dealloc : List Class → Option ℕ → Option ℕ
nearest_dealloc classes from = first_that_has (λ class. own_dealloc (slice_get classes class)) (ancestry (superclasses classes) from)

-- whether a message of this sign with this selector ends an object
abbrev pub ends_object : Sign → List ℕ → Bool
ends_object signs.Class selector = false
ends_object signs.Instance selector = bytes_eq selector (codes "dealloc")

-- the methods of the root, which are built in
abbrev pub built_in_at : BuiltIn → Sign → List ℕ → Option ℕ
built_in_at b signs.Class selector = if bytes_eq selector (codes "alloc") then Some b.alloc_method else if bytes_eq selector (codes "new") then Some b.new_method else None
built_in_at b signs.Instance selector = if bytes_eq selector (codes "init") then Some b.init_method else if bytes_eq selector (codes "dealloc") then Some b.dealloc_method else None

-- names, without where they lie in memory
abbrev pub names_of : List (Bor (List ℕ)) → List (List ℕ)
names_of = map (λ key. key.now)

-- the numbers of the built-in methods come after those of all functions
abbrev pub built_in_from : (first : ℕ) → BuiltIn
built_in_from first = record { alloc_method = first; new_method = first + 1; init_method = first + 2; dealloc_method = first + 3 }
