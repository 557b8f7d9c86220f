-- The rules for classes, their methods and their fields, and all rules for what a source declares.
use Rattle.std.specs.Prelude.{ℕ, suc, Bool, false, ◌||◌, not, nat_lt, List, [], ◌∷◌, ◌++◌, length, flat_map, Option, Some, None, is_some, is_none, if◌then◌else◌}
use Rattle.std.specs.List.{list_any}
use Rattle.std.specs.Option.{option_map_or}
use Rattle.std.specs.Str.{bytes_eq}
use Rattle.arc_class.specs.declared.classes.TheConstants.{MOST_FIELDS}
use Rattle.arc_ast.specs.Tree.{HeadTree, MethodTree, FieldTree, InterfaceTree, ImplementationTree, UnitTree}
use Rattle.arc_sites.specs.FoundViolations.{violations_of}
use Rattle.arc_sites.specs.Sites.{unit_sites}
use Rattle.arc_spec.specs.Classes.{ancestry}
use Rattle.arc_class.specs.BrokenRules.{Broken, broken_if}
use Rattle.arc_class.specs.Classes.{is_root, interface_number, class_number, first_head}
use Rattle.arc_class.specs.Fields.{own_fields, fields_declared, if_before, earlier_superclasses, fields}
use Rattle.arc_class.specs.Globals.{known_global, variable_before}
use Rattle.arc_class.specs.FunctionRules.{is_library, duplicate, missing_main}
use Rattle.arc_class.specs.BrokenRules.{in_order}
use Rattle.arc_class.specs.FunctionNames.{first_named, number_of, is_main}
use Rattle.arc_class.specs.SiteRules.{stands_before, violations}

-- ---- methods

-- 21 Duplicate: a second method of one implementation of a sign with a selector, at its `+` or `-`; `before` are those before it (this project's own choice)
abbrev pub broken_methods : (before : List HeadTree) → List MethodTree → List Broken
broken_methods before [] = []
broken_methods before (m ∷ others) = broken_if (is_some (first_head m.head.sign m.head.selector before)) m.head.at 21 ++ broken_methods (before ++ m.head ∷ []) others

-- ---- fields

-- the place of the first field with a name
abbrev pub field_place : List ℕ → List FieldTree → Option ℕ
field_place name [] = None
field_place name (f ∷ others) = if bytes_eq name f.name then Some f.at else field_place name others

-- whether there is a place, and it is before this one
abbrev pub is_earlier : Option ℕ → ℕ → Bool
is_earlier other at = option_map_or (λ o. nat_lt o at) other false

-- two fields with one name, reported at the second by position
abbrev pub broken_pair : Option ℕ → ℕ → List Broken
broken_pair other at = option_map_or (λ o. record { at = if nat_lt at o then o else at; number = 21 } ∷ []) other []

-- 21 Duplicate: of two fields with one name, of one class or of a class and one above it, the second by position, at its name (OPL, "Instance Variables").
-- `at` and `name` are those of a field, whose class declares the fields `all` and inherits from `above`. Of a superclass that doesn't stand before its class, as the
-- class itself, nothing is inherited (`if_before`): rule 22 reports it, and it is above nobody here.
abbrev pub broken_field : UnitTree → (above : Option ℕ) → (all : List FieldTree) → (at : ℕ) → (name : List ℕ) → List Broken
broken_field u above all at name = broken_if (is_earlier (field_place name all) at) at 21
    ++ flat_map (λ class. broken_pair (field_place name (own_fields u class)) at) (ancestry (earlier_superclasses u.interfaces) above)

abbrev pub broken_fields : UnitTree → (above : Option ℕ) → (all : List FieldTree) → List FieldTree → List Broken
broken_fields u above all = flat_map (λ f. broken_field u above all f.at f.name)

-- ---- classes

-- 21 Duplicate: an interface of the root, of a name of the library's, of an earlier interface's class or of the name of an earlier function or
-- global variable, at its name (this project's own choice)
abbrev pub is_taken : UnitTree → (before : List InterfaceTree) → InterfaceTree → Bool
is_taken u before i = is_root i.name || (is_library i.name || (is_some (interface_number before i.name) || (stands_before (first_named i.name u.functions) i.at || variable_before (known_global u.interfaces u.globals i.name) i.at)))

-- whether one of these implementations has the name
abbrev pub is_implemented : List ImplementationTree → List ℕ → Bool
is_implemented implementations name = list_any (λ i. bytes_eq name i.name) implementations

-- 22 UnknownClass: a superclass that has no earlier interface, at its name. 26 NoImplementation: a class that has no implementation, at its interface's name
-- (OPL, "Defining a Class").
abbrev pub broken_names : UnitTree → (before : List InterfaceTree) → InterfaceTree → List Broken
broken_names u before i = (broken_if (is_taken u before i) i.at 21 ++ broken_if (not (is_implemented u.implementations i.name)) i.at 26)
    ++ broken_if (is_none (class_number before i.superclass)) i.superclass_at 22

abbrev pub broken_own_fields : UnitTree → (class : ℕ) → InterfaceTree → List Broken
broken_own_fields u class i = broken_fields u (if_before class (class_number u.interfaces i.superclass)) (fields_declared u class i) (fields_declared u class i)

-- 27 TooManyFields: a class whose objects have more fields than this, of both sorts together, at its interface's name (this project's own limit)
abbrev pub broken_members : UnitTree → (class : ℕ) → InterfaceTree → List Broken
broken_members u class i = broken_if (nat_lt MOST_FIELDS (length (fields u class))) i.at 27 ++ broken_own_fields u class i

abbrev pub broken_interface : UnitTree → (before : List InterfaceTree) → InterfaceTree → List Broken
broken_interface u before i = broken_names u before i ++ broken_members u (suc (length before)) i

-- 21 Duplicate: an implementation of the root, or a second one of a class, at its name. 22 UnknownClass: one of a class without an interface, at its name.
-- (OPL, "Defining a Class"; the numbers are this project's own.)
abbrev pub broken_own_names : UnitTree → (before : List ImplementationTree) → ImplementationTree → List Broken
broken_own_names u before i =
    broken_if (is_root i.name || is_implemented before i.name) i.at 21 ++ broken_if (is_none (class_number u.interfaces i.name)) i.at 22

-- the names of an implementation's fields are looked at with those of its class's interface (`broken_own_fields`)
abbrev pub broken_implementation : UnitTree → (before : List ImplementationTree) → ImplementationTree → List Broken
broken_implementation u before i = broken_own_names u before i ++ broken_methods [] i.methods

-- all that is wrong with what a source declares (21 to 30), before its bodies are looked at
abbrev pub broken : UnitTree → List Broken
broken u = (in_order duplicate [] u.functions ++ (missing_main (number_of is_main u.functions) ++ violations_of (violations u) (unit_sites u)))
    ++ (in_order (broken_interface u) [] u.interfaces ++ in_order (broken_implementation u) [] u.implementations)
