-- The violation that a fault reports, which is answered instead of a checked program.
use Rattle.std.specs.Prelude.{◌≡◌, List, Some}
use Rattle.arc_class.specs.BrokenRules.{Broken, first}
use Rattle.arc_fault.specs.declared.check.CheckFault.{CheckFault}
use Rattle.arc_fault.specs.declared.check.CheckFault.TheVariants as f
use Rattle.arc_fault.specs.Check.{report}

-- the broken rule that a fault reports
abbrev pub reported : CheckFault → Broken
reported f = record { at = (report f).at; number = (report f).number }

-- When each fault is answered: it reports the first of all broken rules; want of memory may come at any source.
abbrev pub Refuses : List Broken → CheckFault → Type 0
Refuses all f.Memory = Unit {0}
Refuses all fault = first all ≡ Some (reported fault)
