-- The number, the name and the position of each fault of `parse`.
use Rattle.std.specs.Prelude.{codes}
use Rattle.arc_fault.specs.declared.parse.ParseFault.{ParseFault}
use Rattle.arc_fault.specs.declared.parse.ParseFault.TheVariants as f
use Rattle.arc_fault.specs.Report.{Report}

abbrev pub report : ParseFault → Report
report (f.Unexpected at) = record { number = 11; name = codes "Unexpected"; at = at }
report (f.TooDeep at) = record { number = 12; name = codes "TooDeep"; at = at }
report f.Memory = record { number = 13; name = codes "Memory"; at = 0 }
