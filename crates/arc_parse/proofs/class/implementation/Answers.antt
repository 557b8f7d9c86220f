use Rattle.std.proofs.lemmas.Grind.{common_steps}
use Rattle.arc_grammar.specs.Grammar as grammar
use Rattle.std.proofs.Common.{arith}
use Rattle.arc_parse.proofs.class.implementation.Goals as goal

pub returns-clause-gives : goal.returns-clause-gives
unfolding grammar.implementation
returns-clause-gives c = grind (arith, common_steps)

pub returns-clause-shorter : goal.returns-clause-shorter
returns-clause-shorter c = omega (arith, c.in_ok-directive.ensures.shorter, c.in_ok-at.ensures.shorter, c.in_ok-fields.ensures.shorter, c.in_ok-methods.ensures.shorter, c.in_ok-directive-2.ensures.shorter)
