use Rattle.std.proofs.Common.{arith}
use Rattle.arc_parse.proofs.parameter.parameter.Goals as goal

pub returns-clause-shorter : goal.returns-clause-shorter
returns-clause-shorter c = omega (arith, c.in_ok-before.ensures.shorter, c.in_ok-type_name.ensures.shorter, c.in_ok-after.ensures.shorter, c.in_ok-at.ensures.shorter)
