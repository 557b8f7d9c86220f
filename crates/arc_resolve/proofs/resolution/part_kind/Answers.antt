use Rattle.std.proofs.Common.{sym, ap}
use Rattle.arc_resolve.specs.private.ResolvedNodes.{part_of}
use Rattle.arc_resolve.specs.SourceResolution.{kind_in}
use Rattle.arc_resolve.proofs.resolution.part_kind.Goals as goal

pub returns-in-Number : goal.returns-in-Number
returns-in-Number c = ap (λ r. kind_in (part_of r)) (sym c.in-Number.is)

pub returns-in-Object : goal.returns-in-Object
returns-in-Object c = ap (λ r. kind_in (part_of r)) (sym c.in-Object.is)
