-- Maps from numbers to numbers, which share their parts. A number is looked for by its binary digits, the lowest first.
use Rattle.std.specs.Prelude.{◌≡◌, ℕ, zero, suc, ◌<◌, ◌/◌, ◌%◌, ◌^◌, List, ◌++◌, length, Option, Some, None, slice_get, nat_eq, if◌then◌else◌}
use Rattle.arc_class.specs.declared.numbered.Node.{Node}

-- a part with nothing
abbrev pub no_node : Node
no_node = record { even = None; odd = None }

abbrev pub or_no_node : Option Node → Node
or_no_node None = no_node
or_no_node (Some node) = node

-- the part with a number, and one with nothing where there is none
abbrev pub node_at : List Node → Option ℕ → Node
node_at nodes None = no_node
node_at nodes (Some at) = or_no_node (slice_get nodes at)

-- what a part has on the side of a number, and the same with something there
abbrev pub side : Node → ℕ → Option ℕ
side node number = if nat_eq (number % 2) 0 then node.even else node.odd

abbrev pub with_side : Node → ℕ → ℕ → Node
with_side node number at = if nat_eq (number % 2) 0 then record { even = Some at; odd = node.odd } else record { even = node.even; odd = Some at }

-- what the map that begins at a part has at a number, of which so many digits are left
unfoldable pub at_number : (levels : ℕ) → List Node → (first : Option ℕ) → (number : ℕ) → Option ℕ
at_number zero nodes first number = first
at_number (suc n) nodes first number = at_number n nodes (side (node_at nodes first) number) (number / 2)

-- the part with this number is there, or none is meant
abbrev pub IsThere : List Node → Option ℕ → Type 0
IsThere nodes None = Unit {0}
IsThere nodes (Some at) = at < length nodes

-- each part of the map that begins here is there, for so many digits
unfoldable pub IsWithin : (levels : ℕ) → List Node → (first : Option ℕ) → Type 0
IsWithin zero nodes first = Unit {0}
IsWithin (suc n) nodes first = IsThere nodes first × IsWithin n nodes (node_at nodes first).even × IsWithin n nodes (node_at nodes first).odd

-- parts are added after others
pub record Extends (old new : List Node) : Type 0 where
  pub more : List Node
  pub is : new ≡ old ++ more

-- The map that begins at a part has a value at a number, and else what another map had. Parts were only added.
pub record Puts (levels : ℕ) (old new : List Node) (first : Option ℕ) (number value at : ℕ) : Type 0 where
  pub extends : Extends old new
  pub within : IsWithin levels new (Some at)
  pub found : (sought : ℕ) → sought < 2 ^ levels → at_number levels new (Some at) sought ≡ (if nat_eq sought number then Some value else at_number levels old first sought)
