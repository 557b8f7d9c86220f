use Rattle.arc_form.specs.Views.{all}
use Rattle.arc_ast.specs.Tree.{parameter_tree}
use Rattle.arc_grammar.specs.Grammar.{these, typed}
use Rattle.arc_grammar.proofs.Loops.{length, SoFarAfter}
use Rattle.arc_parse.specs.private.Given.{parts_on, last_part_on}
use Rattle.arc_parse.proofs.method.typed_parts.Given as goal

abbrev pub invariant-parts : goal.invariant-parts
invariant-parts l = SoFarAfter l.fn.reader.rest.now l.initial.reader.rest.now l.reader.rest.now (last_part_on these typed (l.fn.selector.items, all parameter_tree l.fn.given.items)) (parts_on these typed (l.selector.items, all parameter_tree l.given.items))

abbrev pub decreases-parts : goal.decreases-parts
decreases-parts l = length l.reader.rest.now
