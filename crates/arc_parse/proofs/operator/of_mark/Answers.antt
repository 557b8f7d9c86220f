use Rattle.std.proofs.Common.{sym, ap}
use Rattle.arc_form.specs.Operators.{entry}
use Rattle.arc_grammar.specs.Grammar as grammar
use Rattle.arc_parse.proofs.operator.of_mark.Goals as goal

pub returns-in-Star-clause-found : goal.returns-in-Star-clause-found
unfolding grammar.table
returns-in-Star-clause-found c = sym (ap (entry grammar.table) c.in-Star.is)
