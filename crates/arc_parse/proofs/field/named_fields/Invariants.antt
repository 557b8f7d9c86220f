use Rattle.arc_ast.specs.Tree.{type_tree, field_trees}
use Rattle.arc_grammar.proofs.Loops.{length, SoFarAfter}
use Rattle.arc_parse.specs.private.Fields.{names_on, more_names_on}
use Rattle.arc_parse.proofs.field.named_fields.Given as goal

abbrev pub invariant-fields : goal.invariant-fields
invariant-fields l = SoFarAfter l.fn.reader.rest.now l.initial.reader.rest.now l.reader.rest.now (names_on l.of_class l.visibility (l.qualifiers, type_tree l.type_name) (field_trees l.fn.all.items)) (more_names_on l.of_class l.visibility (l.qualifiers, type_tree l.type_name) (field_trees l.all.items))

abbrev pub decreases-fields : goal.decreases-fields
decreases-fields l = length l.reader.rest.now
