-- What the entries of a table say of classes.
use Rattle.std.specs.Prelude.{ℕ, suc, List, [], ◌∷◌, ◌++◌, slice_get, Option, Some, None}
use Rattle.arc_ast.specs.declared.tree.Sign.{Sign}
use Rattle.arc_ast.specs.Tree.{FieldTree, InterfaceTree, UnitTree, field_trees}
use Rattle.arc_spec.specs.Classes.{ancestry}
use Rattle.arc_class.specs.declared.fields.ClassFields.{ClassFields}
use Rattle.arc_class.specs.declared.fields.OwnFields.{OwnFields}
use Rattle.arc_class.specs.declared.table.Entry.{Entry}
use Rattle.arc_class.specs.declared.table.FoundField.{FoundField}
use Rattle.arc_class.specs.ClassRules.{field_place}
use Rattle.arc_class.specs.Classes.{class_number, own_result}
use Rattle.arc_spec.specs.declared.sort_counts.SortCounts.{SortCounts}
use Rattle.arc_class.specs.Fields.{numbered, sorts_of_fields, written_sorts, fields_declared, if_before, earlier_superclasses, inherited_by, own_fields}
use Rattle.arc_spec.specs.Sorts.{none_counted, with_all, counts}
use Rattle.arc_class.specs.NameMaps.{Named}
use Rattle.arc_class.specs.declared.table.MethodResult.{MethodResult}
use Rattle.arc_class.specs.declared.table.Place.{Place}
use Rattle.arc_class.specs.Lookups.{at_name, given_at, least_among}

-- a class's superclass, and what its own methods give
pub record EntryTree : Type 0 where
  pub superclass : Option ℕ
  pub results : Sign → List ℕ → Option MethodResult

abbrev pub entry_tree : Named Place → Entry → EntryTree
entry_tree names e = record { superclass = e.superclass; results = given_at names e.methods }

-- the root has none but those that are built in
abbrev pub root_entry : EntryTree
root_entry = record { superclass = None; results = λ sign selector. None }

abbrev pub class_entry : UnitTree → InterfaceTree → EntryTree
class_entry u i = record { superclass = class_number u.interfaces i.superclass; results = λ sign selector. own_result u sign selector i }

-- the fields that a class declares, without where they lie in memory
abbrev pub own_trees : OwnFields → List FieldTree
own_trees own = field_trees own.earlier.now ++ field_trees own.later.now

-- the superclass that a class inherits from, the place of its own first field with each name, its own fields, and how many its objects have of each sort
pub record FieldsTree : Type 0 where
  pub superclass : Option ℕ
  pub places : List ℕ → Option ℕ
  pub named : List ℕ → Option FoundField
  pub counted : SortCounts

abbrev pub fields_tree : ClassFields → FieldsTree
fields_tree c = record { superclass = c.superclass; places = at_name c.places; named = at_name c.named; counted = c.counted }

abbrev pub root_fields : FieldsTree
root_fields = record { superclass = None; places = λ name. None; named = λ name. None; counted = none_counted }

-- those of a class whose superclass has so many
abbrev pub class_fields_with : UnitTree → (class : ℕ) → (inherited : SortCounts) → InterfaceTree → FieldsTree
class_fields_with u class inherited i = record {
  superclass = if_before class (class_number u.interfaces i.superclass);
  places = λ name. field_place name (fields_declared u class i);
  named = numbered u.interfaces class inherited (fields_declared u class i);
  counted = with_all inherited (written_sorts (fields_declared u class i));
}

abbrev pub class_fields : UnitTree → (class : ℕ) → InterfaceTree → FieldsTree
class_fields u class i = class_fields_with u class (counts (sorts_of_fields (inherited_by u class (class_number u.interfaces i.superclass)))) i

abbrev pub class_fields_from : UnitTree → (class : ℕ) → List InterfaceTree → List FieldsTree
class_fields_from u class [] = []
class_fields_from u class (i ∷ others) = class_fields u class i ∷ class_fields_from u (suc class) others

-- the same of all classes
abbrev pub all_class_fields : UnitTree → List FieldsTree
all_class_fields u = root_fields ∷ class_fields_from u 1 u.interfaces

-- how many fields the objects of a class have of each sort, and none where there is no such class yet
abbrev pub counted_at : Option ClassFields → SortCounts
counted_at None = none_counted
counted_at (Some c) = c.counted

abbrev pub counted_among : List ClassFields → Option ℕ → SortCounts
counted_among classes None = none_counted
counted_among classes (Some class) = counted_at (slice_get classes class)

-- the first by position of the fields with a name that a class and those above it declare, in a source
abbrev pub inherited_place : UnitTree → (above : Option ℕ) → List ℕ → Option ℕ
inherited_place u above name = least_among (λ class. field_place name (own_fields u class)) (ancestry (earlier_superclasses u.interfaces) above)
