use Rattle.std.proofs.lemmas.Grind.{common_steps}
use Rattle.arc_grammar.specs.Grammar as grammar
use Rattle.std.proofs.Common.{arith}
use Rattle.arc_parse.proofs.literal.literal.Goals as goal

pub returns-clause-gives : goal.returns-clause-gives
unfolding grammar.literal
returns-clause-gives c = grind (arith, common_steps)

pub returns-in_default-kind-clause-gives : goal.returns-in_default-kind-clause-gives
unfolding grammar.literal
returns-in_default-kind-clause-gives c = grind (arith, common_steps)

pub returns-in_default-clause-gives : goal.returns-in_default-clause-gives
unfolding grammar.literal
returns-in_default-clause-gives c = grind (arith, common_steps)
