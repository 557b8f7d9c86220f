use Rattle.std.proofs.Common.{◌≡◌, drop, fold}
use Rattle.arc_class.specs.Classes.{and_name}
use Rattle.arc_class.specs.Table.{names_of}
use Rattle.arc_class.proofs.building.add_names.Given as goal

-- those so far with the rest are all
abbrev pub invariant-loop-name : goal.invariant-loop-name
invariant-loop-name l = fold and_name (names_of l.initial.names.keys) (names_of l.added) ≡ fold and_name (names_of l.names.keys) (names_of (drop l.name-index l.added))
