use Rattle.arc_grammar.proofs.Loops.{length, SoFar}
use Rattle.arc_parse.specs.private.Fields.{names_skipped}
use Rattle.arc_parse.proofs.class.more_names.Given as goal

-- the names to come are those that are left
abbrev pub invariant-names : goal.invariant-names
invariant-names l = SoFar l.initial.reader.rest.now l.reader.rest.now names_skipped names_skipped

abbrev pub decreases-names : goal.decreases-names
decreases-names l = length l.reader.rest.now
