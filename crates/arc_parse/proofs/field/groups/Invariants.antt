use Rattle.arc_ast.specs.Tree.{field_trees}
use Rattle.arc_form.specs.Form.{map}
use Rattle.arc_grammar.specs.Grammar.{reads, groups}
use Rattle.arc_grammar.proofs.Loops.{length, SoFar}
use Rattle.arc_parse.specs.private.Fields.{fields_of}
use Rattle.arc_parse.proofs.Fields.{groups_on}
use Rattle.arc_parse.proofs.field.groups.Given as goal

abbrev pub invariant-groups : goal.invariant-groups
invariant-groups l = SoFar l.initial.reader.rest.now l.reader.rest.now (reads (map (fields_of l.fn.first) groups)) (groups_on (l.visibility, field_trees l.all.items))

abbrev pub decreases-groups : goal.decreases-groups
decreases-groups l = length l.reader.rest.now
