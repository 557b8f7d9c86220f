use Rattle.std.proofs.Common.{◌≡◌, drop, map}
use Rattle.arc_spec.specs.Objects.{names, field_places}
use Rattle.arc_plain.specs.Views.{object_of}
use Rattle.arc_plain.proofs.place.has_field.Given as goal

-- no field of those before it names the object
abbrev pub invariant-loop-one : goal.invariant-loop-one
invariant-loop-one l = names l.object (field_places (map object_of l.objects)) ≡ names l.object (field_places (map object_of (drop l.one-index l.objects)))
