use Rattle.std.proofs.Common.{arith}
use Rattle.arc_parse.proofs.class.class_names.Goals as goal

pub returns-clause-shorter : goal.returns-clause-shorter
returns-clause-shorter c = omega (arith, c.in_ok-directive.ensures.shorter, c.in_ok-name.ensures.shorter, c.in_ok-more_names.ensures.shorter, c.in_ok-expect.ensures.shorter)
