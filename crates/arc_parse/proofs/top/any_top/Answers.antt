use Rattle.std.proofs.lemmas.Grind.{common_steps}
use Rattle.arc_grammar.specs.Grammar as grammar
use Rattle.std.proofs.Common.{arith}
use Rattle.arc_parse.proofs.top.any_top.Goals as goal

pub returns-then-sees_at-3-clause-gives : goal.returns-then-sees_at-3-clause-gives
unfolding grammar.top
returns-then-sees_at-3-clause-gives c = grind (arith, common_steps)

pub returns-then-sees_at-2-clause-gives : goal.returns-then-sees_at-2-clause-gives
unfolding grammar.top
returns-then-sees_at-2-clause-gives c = grind (arith, common_steps)
