use Rattle.std.proofs.Common.{◌≡◌, length, map, slice_get}
use Rattle.arc_class.specs.Lookups.{superclass_of_fields, own_field_in}
use Rattle.arc_class.specs.Owners.{IsOwners, views, owner_by}
use Rattle.arc_class.proofs.NearestOwner.{Follows}
use Rattle.arc_class.proofs.nearest.field_owners.Given as goal

-- the classes so far are known
abbrev pub invariant-loop-known : goal.invariant-loop-known
invariant-loop-known l = record {
  owners : IsOwners l.owners;
  counted : length (views l.owners) ≡ l.known-index;
  follows : Follows (map superclass_of_fields l.classes) (owner_by (λ class name. own_field_in (slice_get l.classes class) name)) (views l.owners);
}
