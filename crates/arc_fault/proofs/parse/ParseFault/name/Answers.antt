use Rattle.std.proofs.Common.{sym, ap}
use Rattle.arc_fault.specs.Parse.{report}
use Rattle.arc_fault.proofs.parse.ParseFault.name.Goals as goal

pub returns-in-TooDeep : goal.returns-in-TooDeep
returns-in-TooDeep c = ap (λ f. (report f).name) (sym c.in-TooDeep.is)
