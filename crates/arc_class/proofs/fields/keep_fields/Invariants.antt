use Rattle.std.proofs.Common.{◌≡◌, ℕ, List, drop}
use Rattle.arc_ast.specs.Tree.{InterfaceTree, field_trees}
use Rattle.arc_class.specs.Classes.{class_number}
use Rattle.arc_class.specs.Fields.{numbered, written_sorts}
use Rattle.arc_spec.specs.Sorts.{with_all}
use Rattle.arc_class.specs.Table.{at_name, class_number_in, number_of_class}
use Rattle.arc_class.proofs.fields.keep_fields.Given as goal
use Rattle.std.specs.Option.{option_or}

-- what is kept and what is first of the rest is first of all
abbrev pub invariant-loop-field : goal.invariant-loop-field
invariant-loop-field l = record {
  kept : (interfaces : List InterfaceTree) → ((sought : List ℕ) → class_number_in l.names sought ≡ class_number interfaces sought) → (sought : List ℕ)
      → option_or (at_name l.initial.named sought) (numbered interfaces (number_of_class l.owner) l.fn.before (field_trees l.fields) sought)
      ≡ option_or (at_name l.named sought) (numbered interfaces (number_of_class l.owner) l.counted (field_trees (drop l.field-index l.fields)) sought);
  counted : with_all l.fn.before (written_sorts (field_trees l.fields)) ≡ with_all l.counted (written_sorts (field_trees (drop l.field-index l.fields)));
}
