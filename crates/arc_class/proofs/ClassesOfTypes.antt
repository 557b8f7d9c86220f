-- The classes that types name.
use Rattle.std.proofs.Common.{◌≡◌, ℕ, Bool, List, Option, Some, None, option_map, refl, ap}
use Rattle.std.proofs.Math.Path.{fun_ext}
use Rattle.arc_class.specs.NameMaps.{Named}
use Rattle.arc_ast.specs.declared.tree.Kind.{Kind}
use Rattle.arc_ast.specs.Tree as t
use Rattle.arc_ast.specs.Tree.{TypeTree, ResultTree, HeadTree, InterfaceTree}
use Rattle.arc_class.specs.declared.table.ClassId.{ClassId}
use Rattle.arc_class.specs.declared.table.Place.{Place}
use Rattle.arc_class.specs.declared.table.MethodResult.{MethodResult}
use Rattle.arc_class.specs.Classes.{class_number, type_class, result_of, is_related, result_class, given_by}
use Rattle.arc_class.specs.Lookups.{given_in}
use Rattle.arc_class.specs.Table.{class_number_in, type_class_in, result_class_in, number_of_class}

abbrev pub with_number : ℕ → ClassId
with_number n = record { 0 = n }

-- a class is the one of its number
pub class_back : (o : Option ClassId) → o ≡ option_map (λ n. record { 0 = n }) (option_map number_of_class o)
class_back None = refl
class_back (Some id) = refl

-- where names have the same numbers, types name the same classes
pub class_same : (names : Named Place) (interfaces : List InterfaceTree) → ((sought : List ℕ) → class_number_in names sought ≡ class_number interfaces sought) → (type : TypeTree)
    → type_class_in names type ≡ type_class interfaces type
class_same names interfaces same t.Boolean = refl
class_same names interfaces same t.Int = refl
class_same names interfaces same t.Long = refl
class_same names interfaces same t.Id = refl
class_same names interfaces same (t.Object at name) = ap (option_map with_number) (same name)

pub result_class_same : (names : Named Place) (interfaces : List InterfaceTree) → ((sought : List ℕ) → class_number_in names sought ≡ class_number interfaces sought) → (result : ResultTree)
    → result_class_in names result ≡ result_class interfaces result
result_class_same names interfaces same t.Void = refl
result_class_same names interfaces same (t.Value type) = class_same names interfaces same type
result_class_same names interfaces same t.Related = refl

-- and methods give the same
given_same : (names : Named Place) (interfaces : List InterfaceTree) → ((sought : List ℕ) → class_number_in names sought ≡ class_number interfaces sought) → (h : HeadTree)
    → given_in names h ≡ given_by interfaces h
given_same names interfaces same h = ap (given_with (result_of h) (is_related h)) (result_class_same names interfaces same h.result)
  where
    given_with : Kind → Bool → Option ClassId → MethodResult
    given_with kind related class = record { kind = kind; class = class; related = related }

pub all_given_same : (names : Named Place) (interfaces : List InterfaceTree) → ((sought : List ℕ) → class_number_in names sought ≡ class_number interfaces sought)
    → given_in names ≡ given_by interfaces
all_given_same names interfaces same = fun_ext (given_same names interfaces same)
