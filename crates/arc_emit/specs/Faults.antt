-- The number and the name of a fault, which is answered where there is no code.
use Rattle.std.specs.Prelude.{ℕ, List, codes}
use Rattle.arc_emit.specs.declared.fault.EmitFault.{EmitFault}
use Rattle.arc_emit.specs.declared.fault.EmitFault.TheVariants as fault

-- the number of a fault, under which the compiler's users know it
abbrev pub fault_number : EmitFault → ℕ
fault_number fault.TooLarge = 71
fault_number fault.Memory = 72

abbrev pub fault_name : EmitFault → List ℕ
fault_name fault.TooLarge = codes "TooLarge"
fault_name fault.Memory = codes "Memory"
