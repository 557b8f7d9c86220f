use Rattle.std.proofs.Common.{sym, ap}
use Rattle.arc_fault.specs.Parse.{report}
use Rattle.arc_fault.proofs.parse.ParseFault.at.Goals as goal

pub returns-in-Memory : goal.returns-in-Memory
returns-in-Memory c = ap (λ f. (report f).at) (sym c.in-Memory.is)
