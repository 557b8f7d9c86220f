use Rattle.arc_ast.specs.Tree.{variable_tree}
use Rattle.arc_form.specs.Views.{all}
use Rattle.arc_grammar.specs.Grammar.{reads, variables}
use Rattle.arc_grammar.proofs.Loops.{length, SoFarAfter}
use Rattle.arc_parse.specs.private.Declaring.{variables_on}
use Rattle.arc_parse.proofs.variable.variables.Given as goal

abbrev pub invariant-variables : goal.invariant-variables
invariant-variables l = SoFarAfter l.fn.reader.rest.now l.initial.reader.rest.now l.reader.rest.now (reads (variables l.of_class)) (variables_on l.of_class (all variable_tree l.all.items))

abbrev pub decreases-variables : goal.decreases-variables
decreases-variables l = length l.reader.rest.now
