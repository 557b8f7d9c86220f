use Rattle.std.proofs.Common.{arith}
use Rattle.arc_grammar.specs.Grammar as grammar
use Rattle.arc_grammar.proofs.Loops.{one_more}
use Rattle.arc_grammar.proofs.Fits.{taking}
use Rattle.arc_form.proofs.Joining.{all_push, row_start}
use Rattle.arc_grammar.proofs.Lists.{alls}
use Rattle.arc_parse.proofs.method.methods.Goals as goal

pub methods-preserved : goal.methods-preserved
unfolding grammar.methods
methods-preserved c = grind (arith, one_more, taking, row_start, all_push, alls)

pub returns-clause-gives : goal.returns-clause-gives
unfolding grammar.methods
returns-clause-gives c = grind (arith, one_more, taking, row_start, all_push, alls)

pub returns-in_err-method-clause-gives : goal.returns-in_err-method-clause-gives
unfolding grammar.methods
returns-in_err-method-clause-gives c = grind (arith, one_more, taking, row_start, all_push, alls)
