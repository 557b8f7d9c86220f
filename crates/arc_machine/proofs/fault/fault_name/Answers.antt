use Rattle.std.proofs.Common.{ap, sym}
use Rattle.arc_machine.specs.FaultNames.{report}
use Rattle.arc_machine.proofs.fault.fault_name.Goals as goal

pub returns-in-Depth : goal.returns-in-Depth
returns-in-Depth c = ap (λ fault. (report fault).1) (sym c.in-Depth.is)
