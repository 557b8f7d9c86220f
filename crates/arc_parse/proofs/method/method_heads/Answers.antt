use Rattle.std.proofs.Common.{arith}
use Rattle.arc_grammar.specs.Grammar as grammar
use Rattle.arc_parse.proofs.Signatures.{next_heads}
use Rattle.arc_form.proofs.Joining.{all_push, row_start}
use Rattle.arc_grammar.proofs.Lists.{alls}
use Rattle.arc_parse.proofs.method.method_heads.Goals as goal

pub returns-in_err-expect-clause-gives : goal.returns-in_err-expect-clause-gives
unfolding grammar.method_heads
returns-in_err-expect-clause-gives c = grind (arith, next_heads, row_start, all_push, alls)

pub heads-preserved : goal.heads-preserved
unfolding grammar.method_heads
heads-preserved c = grind (arith, next_heads, row_start, all_push, alls)

pub returns-clause-gives : goal.returns-clause-gives
unfolding grammar.method_heads
returns-clause-gives c = grind (arith, next_heads, row_start, all_push, alls)

pub returns-in_err-head-clause-gives : goal.returns-in_err-head-clause-gives
unfolding grammar.method_heads
returns-in_err-head-clause-gives c = grind (arith, next_heads, row_start, all_push, alls)
