-- What a table of a source is.
pub use Rattle.arc_class.specs.Lookups.{number_of_class, number_of_selector, number_of_method, at_name, class_number_in, type_class_in, head_at, result_class_in, result_at, own_result_in, own_given_in, superclass_among, superclass_of_entry, given_among, own_field_in, own_place_in, superclass_of_fields, field_among, place_among, field_tree, list_of, items_at, list_at, list_among, nearest_dealloc, ends_object, built_in_at, names_of, built_in_from}
use Rattle.std.specs.Prelude.{◌≡◌, ℕ, List, [], position, slice_get, Option, Some, None, option_and_then, if◌then◌else◌}
use Rattle.std.specs.Option.{option_map_or, option_or}
use Rattle.std.specs.Str.{bytes_eq}
use Rattle.std.specs.Borrow.{Bor}
use Rattle.arc_ast.specs.declared.tree.Kind.{Kind}
use Rattle.arc_ast.specs.declared.tree.Sign.{Sign}
use Rattle.arc_ast.specs.declared.tree.Sign.TheVariants as signs
use Rattle.arc_ast.specs.Tree.{UnitTree}
use Rattle.arc_spec.specs.declared.class.Gives.{Gives}
use Rattle.arc_spec.specs.declared.class.Gives.TheVariants.{Number}
use Rattle.arc_spec.specs.Classes.{classes_of, gives_of, lookup, descends}
use Rattle.arc_class.specs.declared.owners.Owners.{Owners}
use Rattle.arc_spec.specs.declared.sort_counts.SortCounts.{SortCounts}
use Rattle.arc_class.specs.declared.table.ClassId.{ClassId}
use Rattle.arc_class.specs.declared.table.ClassTable.{ClassTable}
use Rattle.arc_class.specs.declared.table.Declared.{Declared}
use Rattle.arc_class.specs.declared.table.FoundField.{FoundField}
use Rattle.arc_class.specs.declared.table.MethodResult.{MethodResult}
use Rattle.arc_class.specs.declared.table.Variable.{Variable}
use Rattle.arc_class.specs.KeptNames.{function_kept, head_in}
use Rattle.arc_class.specs.Classes.{kinds_passed, selector_gives, and_name, class_number, superclass, built_in_result, result_of, counting_result, counting_given, known_result, any_result, class_of_result, selector_number, function_count}
use Rattle.arc_class.specs.Fields.{ClassField, fields, known_field}
use Rattle.arc_class.specs.Globals.{known_global}
use Rattle.arc_class.specs.FunctionNames.{known, parameter_kinds, listed_kinds, kinds_of_parameters, number_of, is_main}
use Rattle.arc_class.specs.RuntimeClasses.{classes}
use Rattle.arc_spec.specs.Sorts.{counts_of_kinds}

-- what a table knows of the functions of a name
abbrev pub function_in : ClassTable → List ℕ → Option Declared
function_in table = at_name table.functions

-- what a table knows of the global variables of a name
abbrev pub global_in : ClassTable → List ℕ → Option Variable
global_in table = at_name table.globals

-- the kinds of the parameters of the functions of a name, and of the methods of a sign with a selector
abbrev pub parameters_in : ClassTable → List ℕ → List Kind
parameters_in table name = option_map_or listed_kinds (function_kept table.first_functions name) []

abbrev pub passed_in : ClassTable → Sign → List ℕ → List Kind
passed_in table sign selector = option_map_or (λ h. parameter_kinds h.parameters) (option_or (head_in table.declared sign selector) (head_in table.defined sign selector)) []

abbrev pub class_in : ClassTable → List ℕ → Option ℕ
class_in table = class_number_in table.names

-- the number of the selector with a name, by a table
abbrev pub selector_in : ClassTable → List ℕ → Option ℕ
selector_in table name = position (λ key. bytes_eq name key.now) table.selectors.keys

abbrev pub superclass_in : ClassTable → ℕ → Option ℕ
superclass_in table = superclass_among table.entries.items

-- the class of what the functions of a name give, if its type names one
abbrev pub function_class_in : ClassTable → List ℕ → Option ClassId
function_class_in table name = option_and_then (λ f. result_class_in table.names f.result) (function_kept table.first_functions name)

abbrev pub nearest_result_in : ClassTable → (class : ℕ) → Sign → List ℕ → Option MethodResult
nearest_result_in table class = given_among table.names table.entries.items (Some class)

abbrev pub result_in_table : ClassTable → Option ℕ → Sign → List ℕ → Option MethodResult
result_in_table table None sign selector = None
result_in_table table (Some class) sign selector = option_or (counting_given selector) (nearest_result_in table class sign selector)

-- which class has the nearest method of a sign, by a table
abbrev pub owners_in : ClassTable → Sign → Owners
owners_in table signs.Class = table.class_methods
owners_in table signs.Instance = table.instance_methods

-- what a message to an object gives of which no class is known
abbrev pub any_result_in : ClassTable → List ℕ → Option Kind
any_result_in table selector = option_or (counting_result selector)
    (option_or (result_at table.declared signs.Instance selector) (option_or (result_at table.defined signs.Instance selector) (built_in_result signs.Instance selector)))

abbrev pub field_in_table : ClassTable → Option ℕ → List ℕ → Option FoundField
field_in_table table = field_among table.named_fields.items

abbrev pub fields_in : ClassTable → ℕ → List ClassField
fields_in table class = list_at (slice_get table.fields.items class)

-- the name of a selector; a number that none has stands for no name
abbrev pub selector_name : ClassTable → ℕ → List ℕ
selector_name table number = name_at (slice_get table.selectors.keys number)
  where
    name_at : Option (Bor (List ℕ)) → List ℕ
    name_at None = []
    name_at (Some key) = key.now

-- The method that a message with a selector finds, from a class up to the root, and there a built-in one (OPL, "How Messaging Works"). A `dealloc` is found as
-- the others are.
abbrev pub look_up_passing : ClassTable → (class : ℕ) → Sign → (selector : ℕ) → SortCounts → Gives → Option ℕ
look_up_passing table class sign selector passed wanted =
    lookup (classes_of table.classes.items) (Some class) sign selector passed.numbers passed.objects wanted

-- what the methods of a sign with a selector give
abbrev pub gives_in : ClassTable → Sign → List ℕ → Gives
gives_in table sign selector =
    option_map_or (λ h. gives_of (result_of h)) (option_or (head_in table.declared sign selector) (head_in table.defined sign selector)) Number

abbrev pub defined_in : ClassTable → (class : ℕ) → Sign → (selector : ℕ) → Option ℕ
defined_in table class sign selector =
    if ends_object sign (selector_name table selector) then nearest_dealloc (classes_of table.classes.items) (Some class)
    else look_up_passing table class sign selector (counts_of_kinds (passed_in table sign (selector_name table selector))) (gives_in table sign (selector_name table selector))

abbrev pub built_in_method : ClassTable → (class : ℕ) → Sign → (selector : ℕ) → Option ℕ
built_in_method table class sign selector =
    if descends (classes_of table.classes.items) (Some class) 0 then built_in_at table.built_in sign (selector_name table selector) else None

abbrev pub method_in : ClassTable → (class : ℕ) → Sign → (selector : ℕ) → Option ℕ
method_in table class sign selector = option_or (defined_in table class sign selector) (built_in_method table class sign selector)

abbrev pub selector_names : ClassTable → List (List ℕ)
selector_names table = names_of table.selectors.keys

-- a table with the same functions and classes, of whose selectors nothing is said
pub record KeepsDeclared (old new : ClassTable) : Type 0 where
  pub functions : new.functions ≡ old.functions
  pub first_functions : new.first_functions ≡ old.first_functions
  pub globals : new.globals ≡ old.globals
  pub main : new.main ≡ old.main
  pub names : new.names ≡ old.names
  pub entries : new.entries ≡ old.entries
  pub class_methods : new.class_methods ≡ old.class_methods
  pub instance_methods : new.instance_methods ≡ old.instance_methods
  pub declared : new.declared ≡ old.declared
  pub defined : new.defined ≡ old.defined
  pub named_fields : new.named_fields ≡ old.named_fields
  pub field_owners : new.field_owners ≡ old.field_owners
  pub fields : new.fields ≡ old.fields
  pub classes : new.classes ≡ old.classes
  pub built_in : new.built_in ≡ old.built_in

-- a table that knows the same
pub record IsSameTable (old new : ClassTable) : Type 0 where
  pub declared : KeepsDeclared old new
  pub selectors : selector_names new ≡ selector_names old

-- The name is a selector's from now on, and this is its number. A new one stands after the others, whose numbers stay (Runtime Reference,
-- `sel_registerName`).
pub record Registers (old : ClassTable) (name : List ℕ) (new : ClassTable) (number : ℕ) : Type 0 where
  pub declared : KeepsDeclared old new
  pub selectors : selector_names new ≡ and_name (selector_names old) name
  pub is_numbered : selector_in new name ≡ Some number

-- The table is one of a source: it knows what is known of each function's and each global variable's name, which function is `main`, and the classes, their methods, their fields and the selectors.
pub record IsTableOf (u : UnitTree) (table : ClassTable) : Type 0 where
  pub knows : (name : List ℕ) → function_in table name ≡ known u.functions name
  pub globals : (name : List ℕ) → global_in table name ≡ known_global u.interfaces u.globals name
  pub parameters : (name : List ℕ) → parameters_in table name ≡ kinds_of_parameters u.functions name
  pub passed : (sign : Sign) (selector : List ℕ) → passed_in table sign selector ≡ kinds_passed u sign selector
  pub gives : (sign : Sign) (selector : List ℕ) → gives_in table sign selector ≡ selector_gives u sign selector
  pub function_classes : (name : List ℕ) → function_class_in table name ≡ class_of_result u name
  pub main : number_of is_main u.functions ≡ Some table.main
  pub numbers : (name : List ℕ) → class_in table name ≡ class_number u.interfaces name
  pub superclasses : (class : ℕ) → superclass_in table class ≡ superclass u.interfaces class
  pub results : (from : Option ℕ) (sign : Sign) (selector : List ℕ) → result_in_table table from sign selector ≡ known_result u from sign selector
  pub any_results : (selector : List ℕ) → any_result_in table selector ≡ any_result u selector
  pub selectors : (name : List ℕ) → selector_in table name ≡ selector_number u name
  pub named : (from : Option ℕ) (name : List ℕ) → field_in_table table from name ≡ known_field u from name
  pub all_fields : (class : ℕ) → fields_in table class ≡ fields u class
  pub classes : classes_of table.classes.items ≡ classes u
  pub built_in : table.built_in ≡ built_in_from (function_count u)
