use Rattle.arc_ast.specs.Types.{and_qualifier}
use Rattle.arc_form.specs.Joining.{joining}
use Rattle.arc_grammar.specs.Grammar.{reads, qualifier, begins_qualifier}
use Rattle.arc_grammar.proofs.Loops.{length, SoFar}
use Rattle.arc_parse.proofs.qualifier.more_qualifiers.Given as goal

abbrev pub invariant-qualifiers : goal.invariant-qualifiers
invariant-qualifiers l = SoFar l.initial.reader.rest.now l.reader.rest.now (joining begins_qualifier (reads qualifier) and_qualifier l.fn.before) (joining begins_qualifier (reads qualifier) and_qualifier l.all)

abbrev pub decreases-qualifiers : goal.decreases-qualifiers
decreases-qualifiers l = length l.reader.rest.now
