use Rattle.std.proofs.Common.{arith}
use Rattle.arc_parse.proofs.Table.{sees_looser, sees_none, sees_own}
use Rattle.arc_parse.proofs.operator.level_ahead.Goals as goal

pub returns-in-Some-of_token-clause-there : goal.returns-in-Some-of_token-clause-there
returns-in-Some-of_token-clause-there c = grind (arith, sees_own, sees_none, sees_looser)
