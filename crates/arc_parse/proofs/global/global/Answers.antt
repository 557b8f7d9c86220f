use Rattle.std.proofs.Common.{arith}
use Rattle.arc_parse.proofs.global.global.Goals as goal

pub returns-clause-shorter : goal.returns-clause-shorter
returns-clause-shorter c = omega (arith, c.in_ok-own.ensures.shorter, c.in_ok-at.ensures.shorter, c.in_ok-initial.ensures.shorter)
