use Rattle.std.proofs.Common.{refl}
use Rattle.arc_scope.proofs.scope.Visible.has_place.Goals as goal

pub returns-clause-scope : goal.returns-clause-scope
returns-clause-scope c = λ table. rw (c.from.ensures, c.from-2.ensures, c.from-3.ensures) refl
