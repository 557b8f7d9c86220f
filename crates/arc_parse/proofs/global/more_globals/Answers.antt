use Rattle.std.proofs.Common.{arith}
use Rattle.arc_parse.proofs.Globals.{read_more_globals}
use Rattle.arc_grammar.proofs.Lists.{appends}
use Rattle.arc_parse.proofs.global.more_globals.Goals as goal

pub returns-clause-gives : goal.returns-clause-gives
returns-clause-gives c = grind (arith, read_more_globals, appends)

pub globals-preserved : goal.globals-preserved
globals-preserved c = grind (arith, read_more_globals, appends)

pub returns-in_err-next-clause-gives : goal.returns-in_err-next-clause-gives
returns-in_err-next-clause-gives c = grind (arith, read_more_globals, appends)
