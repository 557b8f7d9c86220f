-- The classes of a source, their methods and their selectors.
use Rattle.std.specs.Prelude.{ℕ, zero, suc, ◌+◌, Bool, true, false, ◌&&◌, ◌||◌, nat_lt, List, [], ◌∷◌, ◌++◌, length, map, fold, flat_map, Option, Some, None, option_map, option_and_then, slice_get, codes, if◌then◌else◌}
use Rattle.std.specs.List.{find, list_any}
use Rattle.std.specs.Option.{option_map_or, option_or}
use Rattle.std.specs.Str.{bytes_eq}
use Rattle.arc_ast.specs.declared.tree.Kind.{Kind}
use Rattle.arc_ast.specs.declared.tree.Kind.TheVariants as k
use Rattle.arc_ast.specs.declared.tree.Sign.{Sign}
use Rattle.arc_ast.specs.declared.tree.Sign.TheVariants as signs
use Rattle.arc_ast.specs.Types.{result_kind}
use Rattle.arc_ast.specs.Tree.{TypeTree, Object, Id, ResultTree, Value, Related, FunctionTree, HeadTree, MethodTree, InterfaceTree, ImplementationTree, UnitTree}
use Rattle.arc_class.specs.declared.table.ClassId.{ClassId}
use Rattle.arc_class.specs.declared.table.MethodResult.{MethodResult}
use Rattle.arc_spec.specs.Families.{method_family, gives_related, is_object}
use Rattle.arc_spec.specs.declared.class.Gives.{Gives}
use Rattle.arc_spec.specs.declared.class.Gives.TheVariants.{Number}
use Rattle.arc_spec.specs.Classes.{same_sign, gives_of, ancestry, first_that_has}
use Rattle.arc_class.specs.FunctionNames.{has_body, first_named, parameter_kinds}

-- the one root class, which is built in (this project's own choice)
abbrev pub is_root : List ℕ → Bool
is_root name = bytes_eq name (codes "NSObject")

-- the number of the first interface with a name, counted from 0
abbrev pub interface_number : List InterfaceTree → List ℕ → Option ℕ
interface_number [] name = None
interface_number (i ∷ others) name = if bytes_eq name i.name then Some 0 else option_map (λ n. suc n) (interface_number others name)

-- Classes are numbered: the root is 0, and then each class is, in the order of the interfaces (this project's own choice). This is the number of the class with
-- a name.
abbrev pub class_number : List InterfaceTree → List ℕ → Option ℕ
class_number interfaces name = if is_root name then Some 0 else option_map (λ n. suc n) (interface_number interfaces name)

-- the class that a type names, if it names one that has an interface or is the root
abbrev pub type_class : List InterfaceTree → TypeTree → Option ClassId
type_class interfaces (Object at name) = option_map (λ n. record { 0 = n }) (class_number interfaces name)
type_class interfaces _ = None

-- the number of the superclass of a class (OPL, "Inheritance")
abbrev pub superclass : List InterfaceTree → (class : ℕ) → Option ℕ
superclass interfaces zero = None
superclass interfaces (suc n) = option_and_then (λ i. class_number interfaces i.superclass) (slice_get interfaces n)

-- the superclasses of all classes, in the order of their numbers
abbrev pub superclasses : List InterfaceTree → List (Option ℕ)
superclasses interfaces = None ∷ map (λ i. class_number interfaces i.superclass) interfaces

-- what is declared of methods
abbrev pub heads : List MethodTree → List HeadTree
heads = map (λ m. m.head)

-- the methods that the first implementation with a name defines
abbrev pub defined_by : List ImplementationTree → List ℕ → List MethodTree
defined_by [] name = []
defined_by (i ∷ others) name = if bytes_eq name i.name then i.methods else defined_by others name

-- whether the first implementation with a name stands before a place
abbrev pub implemented_before : List ImplementationTree → List ℕ → (at : ℕ) → Bool
implemented_before [] name at = false
implemented_before (i ∷ others) name at = if bytes_eq name i.name then nat_lt i.at at else implemented_before others name at

-- what a class declares in its interface, and what in its implementation, by position in the file, as either may stand first
abbrev pub by_position : {X : Type 0} → UnitTree → InterfaceTree → (declared defined : List X) → List X
by_position u i declared defined = if implemented_before u.implementations i.name i.at then defined ++ declared else declared ++ defined

-- the methods that a class's interface declares and its implementation defines
abbrev pub own_heads : UnitTree → InterfaceTree → List HeadTree
own_heads u i = by_position u i i.methods (heads (defined_by u.implementations i.name))

-- whether a method is one of this sign with this selector
abbrev pub is_method : Sign → List ℕ → HeadTree → Bool
is_method sign selector h = same_sign sign h.sign && bytes_eq selector h.selector

-- the first method of a sign with a selector
abbrev pub first_head : Sign → List ℕ → List HeadTree → Option HeadTree
first_head sign selector = find (is_method sign selector)

-- what a method gives
abbrev pub result_of : HeadTree → Kind
result_of h = result_kind h.result

-- the class of a result whose type names one
abbrev pub result_class : List InterfaceTree → ResultTree → Option ClassId
result_class interfaces (Value type) = type_class interfaces type
result_class interfaces _ = None

-- Whether a method gives an object of the class that gets the message: where its type is `instancetype`, and by its family where that is `id` (ARC, "Related result
-- types").
abbrev pub is_related : HeadTree → Bool
is_related h = related h.result
  where
    related : ResultTree → Bool
    related Related = true
    related (Value Id) = gives_related h.sign (method_family h.sign h.selector k.Object)
    related _ = false

-- the class of what the functions of a name give, as the first one of them says
abbrev pub class_of_result : UnitTree → List ℕ → Option ClassId
class_of_result u name = option_and_then (λ f. result_class u.interfaces f.result) (first_named name u.functions)

-- what a method gives: its kind, and its class, if its type names one, and whether it is of the class that gets the message
abbrev pub given_by : List InterfaceTree → HeadTree → MethodResult
given_by interfaces h = record { kind = result_of h; class = result_class interfaces h.result; related = is_related h }

-- what a class's own method with a selector gives: the first by position, where its interface declares one and its implementation defines one
abbrev pub own_result : UnitTree → Sign → List ℕ → InterfaceTree → Option MethodResult
own_result u sign selector i = option_map (given_by u.interfaces) (first_head sign selector (own_heads u i))

-- What the methods of the root give that are built in: two make objects, and `init` gives the object that it was sent to (OPL, "Allocating and Initializing
-- Objects"); `dealloc` gives nothing.
abbrev pub built_in_result : Sign → List ℕ → Option Kind
built_in_result signs.Class selector = if bytes_eq selector (codes "alloc") || bytes_eq selector (codes "new") then Some k.Object else None
built_in_result signs.Instance selector =
    if bytes_eq selector (codes "init") then Some k.Object else if bytes_eq selector (codes "dealloc") then Some k.Void else None

-- What the messages give that count owners by hand, and `dealloc`, to any receiver and whatever a source declares. No source may send them under ARC, not to an
-- object and not to a class, which a later rule reports by their names (ARC, "Memory management methods" and "dealloc"); so they are known here.
abbrev pub counting_result : List ℕ → Option Kind
counting_result selector =
    if bytes_eq selector (codes "retain") || bytes_eq selector (codes "autorelease") then Some k.Object
    else if bytes_eq selector (codes "retainCount") then Some k.Long
    else if bytes_eq selector (codes "release") || bytes_eq selector (codes "dealloc") then Some k.Void else None

-- the objects that methods of the root give are of the class that gets the message
abbrev pub built_in_given : Sign → List ℕ → Option MethodResult
built_in_given sign selector = option_map (λ kind. record { kind = kind; class = None; related = is_object kind }) (built_in_result sign selector)

-- those that the messages give which count owners are as of `id`
abbrev pub counting_given : List ℕ → Option MethodResult
counting_given selector = option_map (λ kind. record { kind = kind; class = None; related = false }) (counting_result selector)

-- what the method gives that a class itself has, by its number
abbrev pub result_in : UnitTree → (class : ℕ) → Sign → List ℕ → Option MethodResult
result_in u zero sign selector = built_in_given sign selector
result_in u (suc n) sign selector = option_and_then (own_result u sign selector) (slice_get u.interfaces n)

-- What the method gives that is known for a message to a class or to its objects: the nearest that the class or a class above it declares or defines (OPL,
-- "Messages to self and super"), those of the root being built in, and those that count owners as they are always known.
abbrev pub nearest_result : UnitTree → Option ℕ → Sign → List ℕ → Option MethodResult
nearest_result u from sign selector = first_that_has (λ class. result_in u class sign selector) (ancestry (superclasses u.interfaces) from)

abbrev pub known_result : UnitTree → Option ℕ → Sign → List ℕ → Option MethodResult
known_result u from sign selector = option_and_then (λ class. option_or (counting_given selector) (nearest_result u (Some class) sign selector)) from

-- the methods of all interfaces, and those of all implementations
abbrev pub declared : List InterfaceTree → List HeadTree
declared = flat_map (λ i. i.methods)

abbrev pub defined : List ImplementationTree → List HeadTree
defined = flat_map (λ i. heads i.methods)

-- What a message to an object gives of which no class is known (OPL, "Dynamic Typing"): where it counts owners as that is known, and else as the first method
-- of objects does that is declared, or else defined, or built in. All of these give the same.
abbrev pub source_result : UnitTree → List ℕ → Option Kind
source_result u selector = option_or (option_map result_of (first_head signs.Instance selector (declared u.interfaces)))
    (option_or (option_map result_of (first_head signs.Instance selector (defined u.implementations))) (built_in_result signs.Instance selector))

abbrev pub any_result : UnitTree → List ℕ → Option Kind
any_result u selector = option_or (counting_result selector) (source_result u selector)

-- the kinds of the parameters of the methods of a sign with a selector, of which all have those of the first that is declared, or else defined
abbrev pub kinds_passed : UnitTree → Sign → List ℕ → List Kind
kinds_passed u sign selector =
    option_map_or (λ h. parameter_kinds h.parameters) (option_or (first_head sign selector (declared u.interfaces)) (first_head sign selector (defined u.implementations))) []

-- what the methods of a sign with a selector give, a number or an object, as the first that is declared, or else defined, does; a number where there is none
abbrev pub selector_gives : UnitTree → Sign → List ℕ → Gives
selector_gives u sign selector =
    option_map_or (λ h. gives_of (result_of h)) (option_or (first_head sign selector (declared u.interfaces)) (first_head sign selector (defined u.implementations))) Number

-- ---- selectors

-- whether a name is among these
abbrev pub among : List (List ℕ) → List ℕ → Bool
among names name = list_any (λ a. bytes_eq a name) names

-- names and one more, unless it is among them
abbrev pub and_name : List (List ℕ) → List ℕ → List (List ℕ)
and_name names name = if among names name then names else names ++ name ∷ []

abbrev pub with_selectors : List (List ℕ) → List HeadTree → List (List ℕ)
with_selectors = fold (λ names h. and_name names h.selector)

abbrev pub defined_selectors : List (List ℕ) → List ImplementationTree → List (List ℕ)
defined_selectors = fold (λ names i. with_selectors names (heads i.methods))

-- the selectors of the root's methods, which are built in (Runtime Reference, "NSObject"; OPL, "Allocating and Initializing Objects" and "Introspection")
abbrev pub built_in_selectors : List (List ℕ)
built_in_selectors = codes "alloc" ∷ codes "new" ∷ codes "init" ∷ codes "dealloc" ∷ codes "isKindOfClass:" ∷ codes "isMemberOfClass:" ∷ codes "respondsToSelector:" ∷ codes "conformsToProtocol:" ∷ []

-- the implementations up to the first that doesn't stand before a place, and those from it on
abbrev pub standing_before : (at : ℕ) → List ImplementationTree → List ImplementationTree
standing_before at [] = []
standing_before at (i ∷ others) = if nat_lt i.at at then i ∷ standing_before at others else []

abbrev pub standing_after : (at : ℕ) → List ImplementationTree → List ImplementationTree
standing_after at [] = []
standing_after at (i ∷ others) = if nat_lt i.at at then standing_after at others else i ∷ others

-- names and the selectors of all methods, each once, in the order of the file: before those of an interface come those of the implementations before it
abbrev pub selectors_in_order : List (List ℕ) → List InterfaceTree → List ImplementationTree → List (List ℕ)
selectors_in_order names [] implementations = defined_selectors names implementations
selectors_in_order names (i ∷ others) implementations =
    selectors_in_order (with_selectors (defined_selectors names (standing_before i.at implementations)) i.methods) others (standing_after i.at implementations)

-- The selectors of a source: those that are built in, and then those of its methods, by first appearance.
abbrev pub selectors : UnitTree → List (List ℕ)
selectors u = selectors_in_order built_in_selectors u.interfaces u.implementations

-- selectors are numbered in that order, from 0
abbrev pub number_among : List (List ℕ) → List ℕ → Option ℕ
number_among [] name = None
number_among (a ∷ others) name = if bytes_eq a name then Some 0 else option_map (λ n. suc n) (number_among others name)

abbrev pub selector_number : UnitTree → List ℕ → Option ℕ
selector_number u name = number_among (selectors u) name

-- whether a method ends the objects of its class
abbrev pub is_dealloc : HeadTree → Bool
is_dealloc h = is_method signs.Instance (codes "dealloc") h

-- ---- functions

-- how many functions have a body
abbrev pub bodies : List FunctionTree → ℕ
bodies [] = 0
bodies (f ∷ others) = if has_body f then suc (bodies others) else bodies others

-- Functions are numbered: first those with a body, and then the methods, in the order of the implementations. This is how many there are once those of these
-- implementations are counted too.
abbrev pub numbers_after : (first : ℕ) → List ImplementationTree → ℕ
numbers_after = fold (λ number i. number + length i.methods)

abbrev pub function_count : UnitTree → ℕ
function_count u = numbers_after (bodies u.functions) u.implementations
