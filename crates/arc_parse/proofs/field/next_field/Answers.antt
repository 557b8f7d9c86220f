use Rattle.arc_grammar.proofs.Lists.{appends}
use Rattle.arc_parse.specs.private.Fields.{name_on}
use Rattle.std.proofs.Common.{arith}
use Rattle.arc_parse.proofs.field.next_field.Goals as goal

pub returns-clause-gives : goal.returns-clause-gives
unfolding name_on
returns-clause-gives c = grind (arith, appends)
