use Rattle.std.proofs.Common.{drop, is_some}
use Rattle.arc_class.specs.NameMaps.{at_name, all_parts}
use Rattle.arc_class.proofs.OwnerMapUpdates.{Adding}
use Rattle.arc_class.proofs.owners.Maps.with_names.Given as goal

-- the names of the parts that are left are added to what was made
abbrev pub invariant-loop-part : goal.invariant-loop-part
invariant-loop-part g l =
    Adding l.initial.self l.self l.fn.map l.made (λ sought. is_some (at_name (all_parts l.parts) sought)) (λ sought. is_some (at_name (all_parts (drop l.part-index l.parts)) sought)) l.class
