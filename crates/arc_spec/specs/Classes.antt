-- Classes, and the methods that messages find.
use Rattle.std.specs.Prelude.{ℕ, zero, suc, ◌-◌, ℤ, pos, negsuc, Bool, ◌&&◌, nat_eq, nat_lt, List, [], ◌∷◌, ◌++◌, length, map, Option, Some, None, option_and_then, slice_get, if◌then◌else◌}
use Rattle.std.specs.List.{list_any}
use denote.Enum.Declared.{tag_of}
use Rattle.std.specs.Option.{option_map_or, option_or}
use Rattle.arc_ast.specs.declared.tree.Kind.{Kind}
use Rattle.arc_ast.specs.declared.tree.Kind.TheVariants as k
use Rattle.arc_ast.specs.declared.tree.Sign.{Sign}
use Rattle.arc_ast.specs.contracts.tree.Sign as sign
use Rattle.arc_spec.specs.declared.class.Gives.{Gives}
use Rattle.arc_spec.specs.declared.class.Gives.TheVariants as gives
use Rattle.arc_spec.specs.contracts.class.Gives as result
use Rattle.arc_spec.specs.declared.class.Method.{Method}
use Rattle.arc_spec.specs.declared.class.Class as declared
use Rattle.arc_spec.specs.declared.sort_counts.SortCounts.{SortCounts}
use Rattle.arc_spec.specs.Sorts.{none_counted}

-- A class: the number of its superclass, which the root has none of, its own methods (OPL, "Classes"), what its dealloc runs, and how many fields its objects have of each
-- sort, of which the inherited ones come first.
pub record Class : Type 0 where
  pub superclass : Option ℕ
  pub methods : List Method
  pub dealloc : Option ℕ
  pub fields : SortCounts

abbrev pub class_of : declared.Class → Class
class_of c = record { superclass = c.superclass; methods = c.methods.items; dealloc = c.dealloc; fields = c.fields }

abbrev pub classes_of : List declared.Class → List Class
classes_of = map class_of

-- whether two signs are the same
abbrev pub same_sign : Sign → Sign → Bool
same_sign a b = nat_eq (tag_of sign.the_type a) (tag_of sign.the_type b)

-- what gives a value of a kind, or no value: what has no result gives the number 0
abbrev pub gives_of : Kind → Gives
gives_of k.Object = gives.Object
gives_of _ = gives.Number

-- whether both are a number, or both an object
abbrev pub same_gives : Gives → Gives → Bool
same_gives a b = nat_eq (tag_of result.the_type a) (tag_of result.the_type b)

-- whether a method answers a message of this sign with this selector, and so many numbers and objects as arguments, which wants a number or an object of it
abbrev pub answers : Sign → (selector takes objects : ℕ) → (wanted : Gives) → Method → Bool
answers sign selector takes objects wanted m =
    same_sign m.sign sign && (nat_eq m.selector selector && (nat_eq m.takes takes && (nat_eq m.objects objects && same_gives m.gives wanted)))

-- what the first method runs that answers a message
abbrev pub found : Sign → (selector takes objects : ℕ) → (wanted : Gives) → List Method → Option ℕ
found sign selector takes objects wanted [] = None
found sign selector takes objects wanted (m ∷ others) =
    if answers sign selector takes objects wanted m then Some m.runs else found sign selector takes objects wanted others

-- ---- the classes above a class

-- A class and those above it, by its superclass (None: there is no such class).
abbrev pub and_above : (class : ℕ) → (superclass : Option (Option ℕ)) → (above : Option ℕ → List ℕ) → List ℕ
and_above class superclass above = option_map_or (λ s. class ∷ above s) superclass []

-- a class and those above it, so many at most
abbrev pub ancestry_within : (n : ℕ) → (superclasses : List (Option ℕ)) → (from : Option ℕ) → List ℕ
ancestry_within n superclasses None = []
ancestry_within zero superclasses (Some class) = []
ancestry_within (suc n) superclasses (Some class) = and_above class (slice_get superclasses class) (λ above. ancestry_within n superclasses above)

-- The class with a number and those above it, up to the root, where these are the superclasses of all classes (OPL, "Inheritance"). There are no more of them
-- than classes.
abbrev pub ancestry : (superclasses : List (Option ℕ)) → (from : Option ℕ) → List ℕ
ancestry superclasses = ancestry_within (length superclasses) superclasses

abbrev pub superclass_of : Class → Option ℕ
superclass_of c = c.superclass

abbrev pub superclasses : List Class → List (Option ℕ)
superclasses = map superclass_of

-- what the first of these has that has something
abbrev pub first_that_has : {X Y : Type 0} → (X → Option Y) → List X → Option Y
first_that_has has [] = None
first_that_has has (x ∷ others) = option_or (has x) (first_that_has has others)

-- ---- messages

-- the methods that a class itself has
abbrev pub own_methods : Option Class → List Method
own_methods c = option_map_or (λ c. c.methods) c []

-- What a message runs: the method of the first class that has one, from the class with this number up to the root (OPL, "How Messaging Works").
abbrev pub lookup : List Class → Option ℕ → Sign → (selector takes objects : ℕ) → (wanted : Gives) → Option ℕ
lookup classes from sign selector takes objects wanted =
    first_that_has (λ class. found sign selector takes objects wanted (own_methods (slice_get classes class))) (ancestry (superclasses classes) from)

-- The numbers of two selectors of the root's own methods (`selectors` of arc_class): `new`, and `init`, which gives the object back that gets it (OPL, "Allocating and
-- Initializing Objects").
abbrev pub new_selector : ℕ
new_selector = 1

abbrev pub init_selector : ℕ
init_selector = 2

-- whether a message to an object is the root's own `init`, where no class has a method that answers it
abbrev pub is_root_init : (selector takes objects : ℕ) → (wanted : Gives) → Bool
is_root_init selector takes objects wanted =
    nat_eq selector init_selector && (nat_eq takes 0 && (nat_eq objects 0 && same_gives wanted gives.Object))

-- what the dealloc of a class runs
abbrev pub own_dealloc : Option Class → Option ℕ
own_dealloc = option_and_then (λ c. c.dealloc)

-- whether the class with this number is the other one, or comes from it (OPL, "Inheritance")
abbrev pub descends : List Class → Option ℕ → (other : ℕ) → Bool
descends classes from other = list_any (λ class. nat_eq class other) (ancestry (superclasses classes) from)

-- the class that a number is the number of
abbrev pub class_at : ℤ → Option ℕ
class_at (pos n) = Some n
class_at (negsuc n) = None

-- ---- fields

-- how many fields the objects of a class have, of each sort
abbrev pub field_counts : Option Class → SortCounts
field_counts c = option_map_or (λ c. c.fields) c none_counted

-- how many of them hold numbers, and how many name objects
abbrev pub count_of : Option Class → ℕ
count_of c = (field_counts c).numbers

abbrev pub strong_count : Option Class → ℕ
strong_count c = (field_counts c).objects

-- so many numbers that follow one another, from the first one on
abbrev pub numbers_from : (first count : ℕ) → List ℕ
numbers_from first zero = []
numbers_from first (suc n) = first ∷ numbers_from (suc first) n

-- the lesser of two numbers
abbrev pub lesser : ℕ → ℕ → ℕ
lesser a b = if nat_lt a b then a else b

-- The order in which so many fields are destroyed, where the classes above have so many of them: the own ones of the class, which come after the inherited ones, in
-- their order, then those of its superclass, and so on (that a class's come before those of its superclass is this project's own choice).
abbrev pub order_of_fields : (count : ℕ) → (inherited : List ℕ) → List ℕ
order_of_fields count [] = numbers_from 0 count
order_of_fields count (n ∷ above) = numbers_from (lesser n count) (count - lesser n count) ++ order_of_fields (lesser n count) above

-- how many fields each of these classes has that name objects
abbrev pub strong_counts : List Class → List ℕ → List ℕ
strong_counts classes = map (λ class. strong_count (slice_get classes class))

-- the class above a class
abbrev pub above_class : Option Class → Option ℕ
above_class = option_and_then (λ c. c.superclass)

-- the order in which the fields of an object of a class are destroyed that name objects
abbrev pub field_order : List Class → (class : ℕ) → List ℕ
field_order classes class =
    order_of_fields (strong_count (slice_get classes class)) (strong_counts classes (ancestry (superclasses classes) (above_class (slice_get classes class))))
