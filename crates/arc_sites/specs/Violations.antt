-- Violations of rules, of which the first is reported (this project's own choice).
use Rattle.std.specs.Prelude.{◌≡◌, ℕ, Bool, false, ◌&&◌, ◌||◌, nat_lt, nat_eq, List, [], ◌∷◌, Option, Some, None, if◌then◌else◌}
use Rattle.std.specs.List.{All, Contains}
use Rattle.std.specs.Option.{option_map_or}
use Rattle.arc_sites.specs.declared.violation.Violation.{Violation}

-- whether a is reported before b: it is at an earlier place, or at the same place with a lower number
abbrev pub is_before : Violation → Violation → Bool
is_before a b = nat_lt a.at b.at || (nat_eq a.at b.at && nat_lt a.number b.number)

-- the one of two that is reported
abbrev pub earlier : Violation → Violation → Violation
earlier a b = if is_before b a then b else a

abbrev pub earlier_of : Option Violation → Option Violation → Option Violation
earlier_of None b = b
earlier_of (Some a) None = Some a
earlier_of (Some a) (Some b) = Some (earlier a b)

-- the one of all that is reported: that at the least place, and there with the least number
abbrev pub first : List Violation → Option Violation
first [] = None
first (a ∷ others) = earlier_of (Some a) (first others)

-- a violation is the first of these: it is one of them, and none of them is reported before it
pub record IsFirst (all : List Violation) (b : Violation) : Type 0 where
  pub among : Contains all b
  pub least : All (λ c. is_before c b ≡ false) all

-- a place that breaks a rule, if it does
abbrev pub at_if : Bool → ℕ → Option ℕ
at_if breaks at = if breaks then Some at else None

-- the violation of the rule with a number, where there is a place that breaks it
abbrev pub violates : (number : ℕ) → (place : Option ℕ) → List Violation
violates number place = option_map_or (λ at. record { at = at; number = number } ∷ []) place []
