use Rattle.arc_ast.specs.Tree.{method_tree}
use Rattle.arc_grammar.specs.Grammar.{reads, methods, begins_method, method}
use Rattle.arc_grammar.proofs.Loops.{length, SoFar, row}
use Rattle.arc_parse.proofs.method.methods.Given as goal

abbrev pub invariant-methods : goal.invariant-methods
invariant-methods l = SoFar l.initial.reader.rest.now l.reader.rest.now (reads methods) (row begins_method method method_tree l.all.items)

abbrev pub decreases-methods : goal.decreases-methods
decreases-methods l = length l.reader.rest.now
