use Rattle.std.proofs.Common.{sym, ap}
use Rattle.arc_fault.specs.Parse.{report}
use Rattle.arc_fault.proofs.parse.ParseFault.number.Goals as goal

pub returns-in-TooDeep : goal.returns-in-TooDeep
returns-in-TooDeep c = ap (λ f. (report f).number) (sym c.in-TooDeep.is)
