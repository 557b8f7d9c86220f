use Rattle.std.proofs.Common.{sym, ap}
use Rattle.arc_resolve.specs.private.ResolvedNodes.{resolution}
use Rattle.arc_resolve.specs.SourceResolution.{object_in}
use Rattle.arc_resolve.proofs.resolution.object_in.Goals as goal

pub returns-in-Gives : goal.returns-in-Gives
returns-in-Gives c = ap (λ r. object_in (resolution r)) (sym c.in-Gives.is)
