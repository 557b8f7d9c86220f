use Rattle.std.proofs.Common.{sym, ap}
use Rattle.arc_resolve.specs.private.ResolvedNodes.{resolution}
use Rattle.arc_resolve.specs.SourceResolution.{kind_in}
use Rattle.arc_resolve.proofs.resolution.kind_in.Goals as goal

pub returns-in-Gives : goal.returns-in-Gives
returns-in-Gives c = ap (λ r. kind_in (resolution r)) (sym c.in-Gives.is)

pub returns-in-Refers : goal.returns-in-Refers
returns-in-Refers c = ap (λ r. kind_in (resolution r)) (sym c.in-Refers.is)
