use Rattle.std.specs.BTreeMap.{keys}
use Rattle.arc_class.proofs.OwnerMapUpdates.{Adding, any_key}
use Rattle.arc_class.proofs.owners.Maps.with_part.Given as goal

-- the names that are left are added to what was made
abbrev pub invariant-loop-name : goal.invariant-loop-name
invariant-loop-name g l = Adding l.initial.self l.self l.fn.map l.made (any_key (keys l.part)) (any_key l.name-iterator) l.class
