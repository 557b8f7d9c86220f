use Rattle.std.proofs.Common.{arith}
use Rattle.arc_grammar.specs.Grammar as grammar
use Rattle.arc_grammar.proofs.Lists.{stmts_all}
use Rattle.arc_parse.proofs.function.braces.Goals as goal

pub returns-clause-gives : goal.returns-clause-gives
unfolding grammar.braces
returns-clause-gives c = grind (arith, stmts_all)
