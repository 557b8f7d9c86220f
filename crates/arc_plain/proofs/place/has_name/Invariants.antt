use Rattle.std.proofs.Common.{◌≡◌, drop}
use Rattle.arc_spec.specs.Objects.{names}
use Rattle.arc_plain.proofs.place.has_name.Given as goal

-- none of those before it names the object
abbrev pub invariant-loop-place : goal.invariant-loop-place
invariant-loop-place l = names l.object l.places ≡ names l.object (drop l.place-index l.places)
