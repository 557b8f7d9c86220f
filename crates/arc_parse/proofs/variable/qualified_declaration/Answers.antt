use Rattle.std.proofs.lemmas.Grind.{common_steps}
use Rattle.arc_grammar.specs.Grammar as grammar
use Rattle.std.proofs.Common.{arith}
use Rattle.arc_parse.proofs.variable.qualified_declaration.Goals as goal

pub returns-else-sees_name-clause-gives : goal.returns-else-sees_name-clause-gives
unfolding grammar.qualified_declaration
returns-else-sees_name-clause-gives c = grind (arith, common_steps)

pub returns-then-sees_name-clause-gives : goal.returns-then-sees_name-clause-gives
unfolding grammar.qualified_declaration
returns-then-sees_name-clause-gives c = grind (arith, common_steps)
