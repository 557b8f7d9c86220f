-- The fields of objects.
use Rattle.std.specs.Prelude.{ℕ, zero, suc, Bool, false, List, [], ◌∷◌, map, Option, Some, None, nat_eq, nat_lt, reverse, flat_map, slice_get, if◌then◌else◌}
use Rattle.std.specs.Option.{option_and_then, option_map_or}
use Rattle.std.specs.Str.{bytes_eq}
use Rattle.arc_ast.specs.declared.tree.Kind.{Kind}
use Rattle.arc_ast.specs.declared.tree.Qual.{Qual}
use Rattle.arc_ast.specs.declared.tree.Visibility.{Visibility}
use Rattle.arc_ast.specs.Types.{type_kind}
use Rattle.arc_ast.specs.Tree.{FieldTree, InterfaceTree, ImplementationTree, UnitTree}
use Rattle.arc_spec.specs.declared.sort_counts.SortCounts.{SortCounts}
use Rattle.arc_class.specs.declared.table.FoundField.{FoundField}
use Rattle.arc_class.specs.Classes.{by_position, class_number, type_class, superclass}
use Rattle.arc_spec.specs.Sorts.{sort_of, next_of, with_one, counts}
use Rattle.arc_spec.specs.Classes.{ancestry, first_that_has}

-- a field that the objects of a class have, with what it is, how it holds an object, if it names one (ARC, "Ownership qualification"), and the class that declares
-- it
pub record ClassField : Type 0 where
  pub name : List ℕ
  pub kind : Kind
  pub qual : Option Qual
  pub owner : ℕ
  pub visibility : Visibility

-- the fields that the first implementation with a name declares
abbrev pub fields_by : List ImplementationTree → List ℕ → List FieldTree
fields_by [] name = []
fields_by (i ∷ others) name = if bytes_eq name i.name then i.fields else fields_by others name

abbrev pub is_number : ℕ → Option ℕ → Bool
is_number class found = option_map_or (λ n. nat_eq n class) found false

-- the fields that an implementation adds to those of this interface, whose class has this number; the first interface with a name has the implementation
abbrev pub fields_added : UnitTree → (class : ℕ) → InterfaceTree → List FieldTree
fields_added u class i = if is_number class (class_number u.interfaces i.name) then fields_by u.implementations i.name else []

-- The fields that a class declares, by position in the file: those in its interface's braces and those in its implementation's, of which either may stand first
-- (OPL, "Instance Variables").
abbrev pub fields_declared : UnitTree → (class : ℕ) → InterfaceTree → List FieldTree
fields_declared u class i = by_position u i i.fields (fields_added u class i)

-- the same by the number of a class; the root declares none
abbrev pub own_fields : UnitTree → (class : ℕ) → List FieldTree
own_fields u zero = []
own_fields u (suc n) = option_map_or (fields_declared u (suc n)) (slice_get u.interfaces n) []

-- the sort of a field: how it holds an object, if it names one (ARC, "Ownership qualification")
abbrev pub field_sort : FieldTree → Option Qual
field_sort f = sort_of f.qualifiers (type_kind f.type)

-- a field that a class declares
abbrev pub owned : (owner : ℕ) → FieldTree → ClassField
owned owner f = record { name = f.name; kind = type_kind f.type; qual = field_sort f; owner = owner; visibility = f.visibility }

-- a superclass that stands before its class; another one is inherited from by nobody, since it is refused (rule 22, UnknownClass)
abbrev pub if_before : (class : ℕ) → (superclass : Option ℕ) → Option ℕ
if_before class = option_and_then (λ above. if nat_lt above class then Some above else None)

abbrev pub earlier_superclasses_from : List InterfaceTree → (class : ℕ) → List InterfaceTree → List (Option ℕ)
earlier_superclasses_from interfaces class [] = []
earlier_superclasses_from interfaces class (i ∷ others) = if_before class (class_number interfaces i.superclass) ∷ earlier_superclasses_from interfaces (suc class) others

-- the superclasses of all classes, as far as these inherit from them
abbrev pub earlier_superclasses : List InterfaceTree → List (Option ℕ)
earlier_superclasses interfaces = None ∷ earlier_superclasses_from interfaces 1 interfaces

abbrev pub own_class_fields : UnitTree → (class : ℕ) → List ClassField
own_class_fields u class = map (owned class) (own_fields u class)

-- The fields of a class's objects, of each sort in the order of their numbers, which count from 0: those that the classes declare from the root down to this one
-- (OPL, "Inheriting Instance Variables").
abbrev pub fields : UnitTree → (class : ℕ) → List ClassField
fields u class = flat_map (own_class_fields u) (reverse (ancestry (earlier_superclasses u.interfaces) (Some class)))

-- those that a class inherits from a superclass
abbrev pub inherited_by : UnitTree → (class : ℕ) → (superclass : Option ℕ) → List ClassField
inherited_by u class superclass = option_map_or (fields u) (if_before class superclass) []

-- the fields of the objects of so many classes, from this class on
abbrev pub all_fields_from : UnitTree → (class count : ℕ) → List (List ClassField)
all_fields_from u class zero = []
all_fields_from u class (suc n) = fields u class ∷ all_fields_from u (suc class) n

-- the fields that a class inherits
abbrev pub inherited : UnitTree → (class : ℕ) → List ClassField
inherited u class = inherited_by u class (superclass u.interfaces class)

-- the sorts of fields, in their order
abbrev pub sorts_of_fields : List ClassField → List (Option Qual)
sorts_of_fields = map (λ f. f.qual)

abbrev pub written_sorts : List FieldTree → List (Option Qual)
written_sorts = map field_sort

-- a field of a class, after so many of each sort
abbrev pub field_after : List InterfaceTree → (owner : ℕ) → (before : SortCounts) → FieldTree → FoundField
field_after interfaces owner before f =
    record { owner = record { 0 = owner }; index = next_of (field_sort f) before; kind = type_kind f.type; qual = field_sort f; class = type_class interfaces f.type; visibility = f.visibility }

-- the first field with a name among those that a class declares, where so many of each sort come before these
abbrev pub numbered : List InterfaceTree → (owner : ℕ) → (before : SortCounts) → List FieldTree → List ℕ → Option FoundField
numbered interfaces owner before [] name = None
numbered interfaces owner before (f ∷ others) name =
    if bytes_eq name f.name then Some (field_after interfaces owner before f) else numbered interfaces owner (with_one (field_sort f) before) others name

-- the field with a name that a class itself declares
abbrev pub own_field : UnitTree → (class : ℕ) → List ℕ → Option FoundField
own_field u class name = numbered u.interfaces class (counts (sorts_of_fields (inherited u class))) (own_fields u class) name

-- the field with a name that the objects of a class have: the nearest that the class or a class that it inherits from declares
abbrev pub known_field : UnitTree → Option ℕ → List ℕ → Option FoundField
known_field u from name = first_that_has (λ class. own_field u class name) (ancestry (earlier_superclasses u.interfaces) from)
