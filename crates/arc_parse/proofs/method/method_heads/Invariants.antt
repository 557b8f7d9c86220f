use Rattle.arc_ast.specs.Tree.{head_tree}
use Rattle.arc_grammar.specs.Grammar.{reads, method_heads, begins_method, next_head}
use Rattle.arc_grammar.proofs.Loops.{length, SoFar, row}
use Rattle.arc_parse.proofs.method.method_heads.Given as goal

abbrev pub invariant-heads : goal.invariant-heads
invariant-heads l = SoFar l.initial.reader.rest.now l.reader.rest.now (reads method_heads) (row begins_method next_head head_tree l.all.items)

abbrev pub decreases-heads : goal.decreases-heads
decreases-heads l = length l.reader.rest.now
