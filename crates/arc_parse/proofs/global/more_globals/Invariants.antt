use Rattle.arc_ast.specs.Tree.{type_tree, global_trees}
use Rattle.arc_grammar.proofs.Loops.{length, SoFar}
use Rattle.arc_parse.specs.private.Globals.{globals_on}
use Rattle.arc_parse.proofs.global.more_globals.Given as goal

abbrev pub invariant-globals : goal.invariant-globals
invariant-globals l = SoFar l.initial.reader.rest.now l.reader.rest.now (globals_on l.of_class (l.qualifiers, type_tree l.type_name) (global_trees l.fn.before.items)) (globals_on l.of_class (l.qualifiers, type_tree l.type_name) (global_trees l.all.items))

abbrev pub decreases-globals : goal.decreases-globals
decreases-globals l = length l.reader.rest.now
