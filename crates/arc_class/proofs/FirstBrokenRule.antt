-- The first violation in a list, and that nothing is violated where there is none.
use Rattle.std.proofs.Common.{◌≡◌, List, [], None}
use Rattle.arc_class.specs.BrokenRules.{Broken, first}
use Rattle.arc_sites.proofs.FirstViolation.{none_violated}
pub use Rattle.arc_sites.proofs.FirstViolation.{earlier_of-assoc, earlier_of-none, first-append, first_turn, first_both, first_is}

pub none_broken : (xs : List Broken) → first xs ≡ None → xs ≡ []
none_broken xs e = none_violated xs e
