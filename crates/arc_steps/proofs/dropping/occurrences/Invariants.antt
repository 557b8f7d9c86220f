use Rattle.std.proofs.Common.{◌≡◌, take}
use Rattle.arc_spec.specs.HolderCounts.{holders}
use Rattle.arc_steps.proofs.dropping.occurrences.Given as goal

abbrev pub invariant-loop-depth : goal.invariant-loop-depth
invariant-loop-depth g l = l.count ≡ holders l.object (take l.depth l.objects.places)
