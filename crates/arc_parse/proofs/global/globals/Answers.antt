use Rattle.std.proofs.Common.{arith}
use Rattle.arc_parse.proofs.Globals.{read_globals}
use Rattle.arc_parse.proofs.global.globals.Goals as goal

pub returns-clause-gives : goal.returns-clause-gives
returns-clause-gives c = grind (arith, read_globals)

pub returns-in_err-expect-clause-gives : goal.returns-in_err-expect-clause-gives
returns-in_err-expect-clause-gives c = grind (arith, read_globals)

pub returns-in_err-all-clause-gives : goal.returns-in_err-all-clause-gives
returns-in_err-all-clause-gives c = grind (arith, read_globals)

pub returns-clause-shorter : goal.returns-clause-shorter
returns-clause-shorter c = omega (arith, c.in_ok-first.ensures.shorter, c.in_ok-all.ensures.shorter, c.in_ok-expect.ensures.shorter)
