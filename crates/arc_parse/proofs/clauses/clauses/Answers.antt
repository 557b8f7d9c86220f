use Rattle.std.proofs.lemmas.Grind.{common_steps}
use Rattle.arc_grammar.specs.Grammar as grammar
use Rattle.std.proofs.Common.{arith}
use Rattle.arc_parse.proofs.clauses.clauses.Goals as goal

pub returns-clause-gives : goal.returns-clause-gives
unfolding grammar.clauses
returns-clause-gives c = grind (arith, common_steps)

pub returns-clause-shorter : goal.returns-clause-shorter
returns-clause-shorter c = omega (arith, c.in_ok-expect.ensures.shorter, c.in_ok-beginning.ensures.shorter, c.in_ok-test.ensures.shorter, c.in_ok-step.ensures.shorter)
