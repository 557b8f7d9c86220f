use Rattle.std.proofs.lemmas.Grind.{common_steps}
use Rattle.arc_grammar.specs.Grammar as grammar
use Rattle.std.proofs.Common.{arith}
use Rattle.arc_parse.proofs.top.external.Goals as goal

pub returns-in-Some-clause-gives : goal.returns-in-Some-clause-gives
unfolding grammar.external grammar.of_void
returns-in-Some-clause-gives c = grind (arith, common_steps)

pub returns-else-sees_name-clause-gives : goal.returns-else-sees_name-clause-gives
unfolding grammar.external grammar.of_void
returns-else-sees_name-clause-gives c = grind (arith, common_steps)

pub returns-then-sees_name-clause-gives : goal.returns-then-sees_name-clause-gives
unfolding grammar.external grammar.of_void
returns-then-sees_name-clause-gives c = grind (arith, common_steps)

pub returns-then-begins_qualifier-clause-gives : goal.returns-then-begins_qualifier-clause-gives
unfolding grammar.external grammar.of_void
returns-then-begins_qualifier-clause-gives c = grind (arith, common_steps)
