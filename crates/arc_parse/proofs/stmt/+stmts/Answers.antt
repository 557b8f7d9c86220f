use Rattle.std.proofs.lemmas.Grind.{common_steps}
use Rattle.std.proofs.Common.{rules, arith}
use Rattle.arc_grammar.specs.Grammar as grammar
use Rattle.arc_ast.proofs.Trees.{block_tree}
use Rattle.arc_grammar.proofs.Lists.{stmts_all}
use Rattle.arc_grammar.proofs.Loops.{one_more}
use Rattle.arc_form.specs.Reader.{nested}
use Rattle.arc_grammar.proofs.Fits.{read_rule, taking}
use Rattle.arc_form.proofs.Joining.{all_push, row_start}
use Rattle.arc_parse.proofs.stmt.+stmts.Goals as goal

pub block-returns-clause-gives : goal.block-returns-clause-gives
unfolding grammar.block
block-returns-clause-gives t c = rw (block_tree c.in_ok-at.at c.in_ok-all.all, ← stmts_all c.in_ok-all.all.items) (search rules)

pub items-items-preserved : goal.items-items-preserved
unfolding grammar.items
items-items-preserved t c = grind (arith, one_more, taking, row_start, all_push)

pub for_do-returns-clause-gives : goal.for_do-returns-clause-gives
unfolding grammar.for_do
for_do-returns-clause-gives t c = grind (arith, common_steps)

pub if_else-returns-clause-gives : goal.if_else-returns-clause-gives
unfolding grammar.if_else
if_else-returns-clause-gives t c = grind (arith, common_steps)

pub while_do-returns-clause-gives : goal.while_do-returns-clause-gives
unfolding grammar.while_do
while_do-returns-clause-gives t c = grind (arith, common_steps)

pub items-returns-in_err-item-clause-gives : goal.items-returns-in_err-item-clause-gives
unfolding grammar.items
items-returns-in_err-item-clause-gives t c = grind (arith, one_more, taking, row_start, all_push)

pub otherwise-returns-clause-gives : goal.otherwise-returns-clause-gives
unfolding grammar.otherwise
otherwise-returns-clause-gives t c = grind (arith, common_steps)

pub stmt-returns-then-depth-le-DEEPEST-clause-gives : goal.stmt-returns-then-depth-le-DEEPEST-clause-gives
unfolding grammar.body nested
stmt-returns-then-depth-le-DEEPEST-clause-gives t c = grind (arith, read_rule)

pub stmt-returns-else-depth-le-DEEPEST-clause-gives : goal.stmt-returns-else-depth-le-DEEPEST-clause-gives
unfolding grammar.body nested
stmt-returns-else-depth-le-DEEPEST-clause-gives t c = grind (arith, read_rule)

pub stmt-returns-then-not-begins_other-clause-gives : goal.stmt-returns-then-not-begins_other-clause-gives
unfolding grammar.body nested
stmt-returns-then-not-begins_other-clause-gives t c = grind (arith, read_rule)

pub items-items-init : goal.items-items-init
unfolding grammar.items
items-items-init t c = grind (arith, one_more, taking, row_start, all_push)

pub if_else-returns-clause-shorter : goal.if_else-returns-clause-shorter
if_else-returns-clause-shorter t c = omega (arith, c.in_ok-at.ensures.shorter, c.in_ok-condition.ensures.shorter, c.in_ok-first.ensures.shorter, c.in_ok-second.ensures.shorter)

pub items-returns-clause-gives : goal.items-returns-clause-gives
unfolding grammar.items
items-returns-clause-gives t c = grind (arith, one_more, taking, row_start, all_push)
