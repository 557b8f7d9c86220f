use Rattle.arc_ast.specs.Tree.{parameter_tree}
use Rattle.arc_form.specs.Views.{all}
use Rattle.arc_grammar.proofs.Loops.{length, SoFarAfter}
use Rattle.arc_parse.specs.private.Signatures.{listed_on, more_parameters_on}
use Rattle.arc_parse.proofs.parameter.parameters_after.Given as goal

abbrev pub invariant-parameters : goal.invariant-parameters
invariant-parameters l = SoFarAfter l.fn.reader.rest.now l.initial.reader.rest.now l.reader.rest.now (listed_on (all parameter_tree l.fn.before.items)) (more_parameters_on (all parameter_tree l.all.items))

abbrev pub decreases-parameters : goal.decreases-parameters
decreases-parameters l = length l.reader.rest.now
