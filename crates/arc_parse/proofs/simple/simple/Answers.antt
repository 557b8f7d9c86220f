use Rattle.std.proofs.lemmas.Grind.{common_steps}
use Rattle.arc_form.specs.Reader.{nested}
use Rattle.arc_grammar.specs.Grammar as grammar
use Rattle.std.proofs.Common.{arith}
use Rattle.arc_parse.proofs.simple.simple.Goals as goal

pub returns-clause-gives : goal.returns-clause-gives
unfolding grammar.simple nested
returns-clause-gives c = grind (arith, common_steps)

pub returns-then-begins_expr-clause-gives : goal.returns-then-begins_expr-clause-gives
unfolding grammar.simple nested
returns-then-begins_expr-clause-gives c = grind (arith, common_steps)

pub returns-else-begins_expr-clause-gives : goal.returns-else-begins_expr-clause-gives
unfolding grammar.simple nested
returns-else-begins_expr-clause-gives c = grind (arith, common_steps)

pub returns-then-sees_name_and-clause-gives : goal.returns-then-sees_name_and-clause-gives
unfolding grammar.simple nested
returns-then-sees_name_and-clause-gives c = grind (arith, common_steps)
