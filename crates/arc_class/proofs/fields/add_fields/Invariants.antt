use Rattle.std.proofs.Common.{◌≡◌, ◌++◌, map, drop}
use Rattle.arc_ast.specs.Tree.{field_trees}
use Rattle.arc_class.specs.Fields.{owned}
use Rattle.arc_class.specs.Table.{field_tree, number_of_class}
use Rattle.arc_class.proofs.fields.add_fields.Given as goal

-- those so far with the rest are all
abbrev pub invariant-loop-field : goal.invariant-loop-field
invariant-loop-field l = map field_tree l.initial.all.items ++ map (owned (number_of_class l.owner)) (field_trees l.fields) ≡ map field_tree l.all.items ++ map (owned (number_of_class l.owner)) (field_trees (drop l.field-index l.fields))
