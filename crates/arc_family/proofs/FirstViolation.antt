-- The first violation of two lists in a row, under a name of this crate, by which `first_broken` is proved.
use Rattle.std.proofs.Common.{◌≡◌, List, ◌++◌}
use Rattle.arc_sites.specs.declared.violation.Violation.{Violation}
use Rattle.arc_sites.specs.Violations.{earlier_of, first}
use Rattle.arc_sites.proofs.FirstViolation.{first-append}

pub both : (xs ys : List Violation) → first (xs ++ ys) ≡ earlier_of (first xs) (first ys)
both xs ys = first-append xs ys
