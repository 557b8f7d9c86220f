-- Violations of rules, which this crate, arc_judge and arc_check call broken rules.
use Rattle.std.specs.Prelude.{ℕ, Bool, List, [], ◌∷◌, ◌++◌, if◌then◌else◌}
use Rattle.arc_sites.specs.declared.violation.Violation.{Violation}
pub use Rattle.arc_sites.specs.Violations.{is_before, earlier, earlier_of, first, IsFirst}

abbrev pub Broken : Type 0
Broken = Violation

-- a broken rule by its place and its number, if it is broken
abbrev pub broken_if : Bool → ℕ → ℕ → List Broken
broken_if breaks at number = if breaks then record { at = at; number = number } ∷ [] else []

-- what is broken of each of these, in their order, by a rule that looks at those before it too
abbrev pub in_order : {X : Type 0} → (rule : List X → X → List Broken) → (before : List X) → List X → List Broken
in_order rule before [] = []
in_order rule before (x ∷ others) = rule before x ++ in_order rule (before ++ x ∷ []) others
