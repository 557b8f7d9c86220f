use Rattle.std.proofs.Common.{◌≡◌, length, map, slice_get}
use Rattle.arc_class.specs.Lookups.{superclass_of_entry, own_result_in}
use Rattle.arc_class.specs.Owners.{IsOwners, views, owner_by}
use Rattle.arc_class.proofs.NearestOwner.{Follows}
use Rattle.arc_class.proofs.nearest.method_owners.Given as goal

-- the classes so far are known
abbrev pub invariant-loop-class : goal.invariant-loop-class
invariant-loop-class l = record {
  owners : IsOwners l.owners;
  counted : length (views l.owners) ≡ l.class;
  follows : Follows (map superclass_of_entry l.entries) (owner_by (λ class selector. own_result_in class (slice_get l.entries class) l.sign selector)) (views l.owners);
}
