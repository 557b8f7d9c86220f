-- The violation that a fault reports, which is answered instead of a program.
use Rattle.std.specs.Prelude.{◌≡◌, List, Some}
use Rattle.arc_fault.specs.declared.own.OwnFault.{OwnFault}
use Rattle.arc_fault.specs.Own.{report}
use Rattle.arc_sites.specs.declared.violation.Violation.{Violation}
use Rattle.arc_sites.specs.Violations.{first}

-- the violation that a fault reports
abbrev pub reported : OwnFault → Violation
reported f = record { at = (report f).at; number = (report f).number }

-- when a fault is answered: it reports the first of all violations
abbrev pub Refuses : List Violation → OwnFault → Type 0
Refuses all fault = first all ≡ Some (reported fault)
