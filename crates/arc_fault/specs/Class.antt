-- The number, the name and the position of each fault of `build`.
use Rattle.std.specs.Prelude.{codes}
use Rattle.arc_fault.specs.declared.class.ClassFault.{ClassFault}
use Rattle.arc_fault.specs.declared.class.ClassFault.TheVariants as f
use Rattle.arc_fault.specs.Report.{Report}

abbrev pub report : ClassFault → Report
report (f.Duplicate at) = record { number = 21; name = codes "Duplicate"; at = at }
report (f.UnknownClass at) = record { number = 22; name = codes "UnknownClass"; at = at }
report (f.SelectorKinds at) = record { number = 24; name = codes "SelectorKinds"; at = at }
report (f.NoImplementation at) = record { number = 26; name = codes "NoImplementation"; at = at }
report (f.TooManyFields at) = record { number = 27; name = codes "TooManyFields"; at = at }
report (f.HookMethod at) = record { number = 28; name = codes "HookMethod"; at = at }
report f.NoMain = record { number = 29; name = codes "NoMain"; at = 0 }
report (f.UndefinedFunction at) = record { number = 30; name = codes "UndefinedFunction"; at = at }
report f.Memory = record { number = 31; name = codes "Memory"; at = 0 }
