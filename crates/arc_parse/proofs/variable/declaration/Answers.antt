use Rattle.std.proofs.lemmas.Grind.{common_steps}
use Rattle.arc_grammar.proofs.Lists.{alls}
use Rattle.arc_grammar.specs.Grammar as grammar
use Rattle.std.proofs.Common.{arith}
use Rattle.arc_parse.proofs.variable.declaration.Goals as goal

pub returns-clause-gives : goal.returns-clause-gives
unfolding grammar.declaration
returns-clause-gives c = grind (arith, common_steps, alls)
