use Rattle.std.proofs.Common.{ap, sym}
use Rattle.arc_machine.specs.FaultNames.{report}
use Rattle.arc_machine.proofs.fault.fault_number.Goals as goal

pub returns-in-Resurrected : goal.returns-in-Resurrected
returns-in-Resurrected c = ap (λ fault. (report fault).0) (sym c.in-Resurrected.is)
