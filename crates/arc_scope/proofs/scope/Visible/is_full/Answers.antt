use Rattle.std.proofs.Common.{not, ap}
use Rattle.arc_scope.proofs.scope.Visible.is_full.Goals as goal

pub returns : goal.returns
returns c = λ table. ap not (c.has_place.ensures.scope table)
