use Rattle.std.proofs.Common.{◌+◌, ◌*◌, length}
use Rattle.arc_ast.specs.Tree.{stmt_tree}
use Rattle.arc_grammar.specs.Grammar.{reads, items, item, begins_item}
use Rattle.arc_grammar.proofs.Loops.{SoFar, row}
use Rattle.arc_parse.proofs.stmt.+stmts.Given as goal

abbrev pub decreases-stmt : goal.decreases-stmt
decreases-stmt l = 16 * length l.reader.now.rest.now + 6

abbrev pub decreases-statement : goal.decreases-statement
decreases-statement l = 16 * length l.reader.now.rest.now + 5

abbrev pub decreases-if_else : goal.decreases-if_else
decreases-if_else l = 16 * length l.reader.now.rest.now + 3

abbrev pub decreases-otherwise : goal.decreases-otherwise
decreases-otherwise l = 16 * length l.reader.now.rest.now + 9

abbrev pub decreases-while_do : goal.decreases-while_do
decreases-while_do l = 16 * length l.reader.now.rest.now + 2

abbrev pub decreases-do_while : goal.decreases-do_while
decreases-do_while l = 16 * length l.reader.now.rest.now + 2

abbrev pub decreases-for_do : goal.decreases-for_do
decreases-for_do l = 16 * length l.reader.now.rest.now + 2

abbrev pub decreases-branch : goal.decreases-branch
decreases-branch l = 16 * length l.reader.now.rest.now + 7

abbrev pub decreases-block : goal.decreases-block
decreases-block l = 16 * length l.reader.now.rest.now + 3

abbrev pub decreases-items : goal.decreases-items
decreases-items l = 16 * length l.reader.now.rest.now + 9

abbrev pub decreases-item : goal.decreases-item
decreases-item l = 16 * length l.reader.now.rest.now + 8

abbrev pub invariant-items-items : goal.invariant-items-items
invariant-items-items l = SoFar l.initial.reader.rest.now l.reader.rest.now (reads (items l.fn.depth)) (row begins_item (item l.fn.depth) stmt_tree l.all.items)

abbrev pub decreases-items-items : goal.decreases-items-items
decreases-items-items l = length l.reader.rest.now
