use Rattle.std.proofs.Common.{◌≡◌, ℕ, List, map, option_map, drop}
use Rattle.arc_ast.specs.Tree.{UnitTree, FieldTree, field_trees}
use Rattle.arc_class.specs.BrokenRules.{first, earlier_of}
use Rattle.arc_class.specs.ClassRules.{field_place, broken_fields}
use Rattle.arc_class.specs.private.Entries.{fields_tree, all_class_fields}
use Rattle.arc_class.specs.Fault.{reported}
use Rattle.arc_class.specs.Table.{at_name}
use Rattle.arc_class.proofs.fields.fields_fault.Given as goal

-- what is reported so far and what is reported of the rest is reported of all
abbrev pub invariant-loop-field : goal.invariant-loop-field
invariant-loop-field l = (u : UnitTree) (all : List FieldTree) → map fields_tree l.classes ≡ all_class_fields u → ((name : List ℕ) → at_name l.places name ≡ field_place name all)
    → first (broken_fields u l.above all (field_trees l.fields)) ≡ earlier_of (option_map reported l.fault) (first (broken_fields u l.above all (field_trees (drop l.field-index l.fields))))
