-- For each class and each name, the nearest class from that one up that has the name.
use Rattle.std.specs.Prelude.{◌≡◌, ℕ, zero, suc, ◌<◌, ◌≤◌, ◌^◌, Bool, List, [], length, map, slice_get, Option, Some, None, is_some, option_map, if◌then◌else◌}
use Rattle.arc_ast.specs.declared.tree.Sign.{Sign}
use Rattle.arc_spec.specs.Classes.{ancestry, first_that_has}
use Rattle.arc_class.specs.declared.fields.ClassFields.{ClassFields}
use Rattle.arc_class.specs.declared.table.Entry.{Entry}
use Rattle.arc_class.specs.declared.owners.Map.{Map}
use Rattle.arc_class.specs.declared.owners.Maps.{Maps}
use Rattle.arc_class.specs.declared.owners.Owners.{Owners}
use Rattle.arc_class.specs.Classes.{number_among}
use Rattle.arc_class.specs.NumberMaps.{at_number, IsWithin}
use Rattle.arc_class.specs.Lookups.{head_at, superclass_of_entry, own_result_in, superclass_of_fields, own_field_in, names_of}
use Rattle.std.specs.Option.{option_or}

-- the names that maps have, in the order of their numbers
abbrev pub names_in : Maps → List (List ℕ)
names_in maps = names_of maps.names.keys

-- what a map has at a name's number, if the name has one
abbrev pub at_number_of : Maps → (first number : Option ℕ) → Option ℕ
at_number_of maps first None = None
at_number_of maps first (Some number) = at_number maps.levels maps.nodes.items first number

-- what a map has at a name
abbrev pub in_map : Maps → Map → List ℕ → Option ℕ
in_map maps map name = option_or (at_number_of maps map.first (number_among (names_in maps) name)) map.otherwise

-- nothing is shared yet
pub record no_maps (maps : Maps) : Type 0 where
  pub names : names_in maps ≡ []
  pub nodes : maps.nodes.items ≡ []

-- A map's parts are there, and it has nothing at numbers that no name has.
pub record IsMap (maps : Maps) (map : Map) : Type 0 where
  pub within : IsWithin maps.levels maps.nodes.items map.first
  pub unnamed : (number : ℕ) → length (names_in maps) ≤ number → number < 2 ^ maps.levels → at_number maps.levels maps.nodes.items map.first number ≡ None

-- all maps stay, and what they have
pub record Keeps (old new : Maps) : Type 0 where
  pub is_map : (map : Map) → IsMap old map → IsMap new map
  pub same : (map : Map) → IsMap old map → (name : List ℕ) → in_map new map name ≡ in_map old map name

-- A map has a class at names that pass a test, and else what another one had.
pub record Adds (old new : Maps) (map made : Map) (passes : List ℕ → Bool) (class : ℕ) : Type 0 where
  pub keeps : Keeps old new
  pub is_map : IsMap new made
  pub found : (name : List ℕ) → in_map new made name ≡ (if passes name then Some class else in_map old map name)

-- ---- the maps of classes

-- what a class has at names, where its map is known
abbrev pub view_of : Maps → Option Map → Option (List ℕ → Option ℕ)
view_of maps None = None
view_of maps (Some m) = Some (in_map maps m)

-- the same of each class, in the order of their numbers
abbrev pub views : Owners → List (Option (List ℕ → Option ℕ))
views owners = map (view_of owners.maps) owners.classes.items

-- Each map that is known of a class has its parts there, and nothing at numbers that no name has.
pub record IsOwners (owners : Owners) : Type 0 where
  pub maps : (class : ℕ) (m : Map) → slice_get owners.classes.items class ≡ Some (Some m) → IsMap owners.maps m

-- one Option of two
abbrev pub joined : {X : Type 0} → Option (Option X) → Option X
joined None = None
joined (Some view) = view

-- what a class has, by what is known of all: no class has nothing, and nothing is known of a class that isn't there
abbrev pub view_at : List (Option (List ℕ → Option ℕ)) → (class : Option ℕ) → Option (List ℕ → Option ℕ)
view_at all None = Some (λ name. None)
view_at all (Some class) = joined (slice_get all class)

-- what is there at a name, where anything is known
abbrev pub has_at : Option (List ℕ → Option ℕ) → List ℕ → Option ℕ
has_at None name = None
has_at (Some view) name = view name

-- a class has names of its own, and else what the class above it has
abbrev pub with_own : (passes : List ℕ → Bool) → (class : ℕ) → Option (List ℕ → Option ℕ) → Option (List ℕ → Option ℕ)
with_own passes class None = None
with_own passes class (Some view) = Some (λ name. if passes name then Some class else view name)

-- what the class has that is found, if one is
abbrev pub own_of : {X : Type 0} → (own : ℕ → Option X) → Option ℕ → Option X
own_of own None = None
own_of own (Some class) = own class

-- a class, where it has something of its own
abbrev pub owner_by : {X : Type 0} → (own : ℕ → List ℕ → Option X) → (class : ℕ) → List ℕ → Option ℕ
owner_by own class name = option_map (λ found. class) (own class name)

-- Where a class's map is known, it says which class has the nearest of a name. A map may name a class that has nothing of the name, as those of methods name
-- the root for all selectors: so what the named class has is asked for (`own_of`).
abbrev pub Finds : {X : Type 0} → (superclasses : List (Option ℕ)) → (own : ℕ → List ℕ → Option X) → List (Option (List ℕ → Option ℕ)) → Type 0
Finds superclasses own all = (class : ℕ) (view : List ℕ → Option ℕ) → slice_get all class ≡ Some (Some view) → (name : List ℕ)
    → first_that_has (λ c. own c name) (ancestry superclasses (Some class)) ≡ own_of (λ c. own c name) (view name)

-- what is known of a class after others by its methods of a sign; the root, which is the first, has all
abbrev pub entry_view : (class : ℕ) → Entry → Sign → List (Option (List ℕ → Option ℕ)) → Option (List ℕ → Option ℕ)
entry_view zero e sign all = Some (λ name. Some 0)
entry_view (suc n) e sign all = with_own (λ name. is_some (head_at e.methods sign name)) (suc n) (view_at all e.superclass)

-- The owners of the methods of a sign, and of the fields: which class has the nearest, by what is known of each class.
abbrev pub FindsMethods : List Entry → Sign → Owners → Type 0
FindsMethods entries sign owners =
    Finds (map superclass_of_entry entries) (owner_by (λ class selector. own_result_in class (slice_get entries class) sign selector)) (views owners)

abbrev pub FindsFields : List ClassFields → Owners → Type 0
FindsFields classes owners = Finds (map superclass_of_fields classes) (owner_by (λ class name. own_field_in (slice_get classes class) name)) (views owners)
