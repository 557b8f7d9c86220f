use Rattle.std.proofs.Common.{◌≡◌, ℕ, List, drop}
use Rattle.arc_ast.specs.Tree.{field_trees}
use Rattle.std.specs.Option.{option_or}
use Rattle.arc_class.specs.ClassRules.{field_place}
use Rattle.arc_class.specs.Table.{at_name}
use Rattle.arc_class.proofs.fields.keep_places.Given as goal

-- what is kept and what is first of the rest is first of all
abbrev pub invariant-loop-field : goal.invariant-loop-field
invariant-loop-field l = (sought : List ℕ) → option_or (at_name l.initial.places sought) (field_place sought (field_trees l.fields))
    ≡ option_or (at_name l.places sought) (field_place sought (field_trees (drop l.field-index l.fields)))
