use Rattle.std.proofs.Common.{◌≤◌, ℕ, Option, length, take}
use Rattle.arc_cells.specs.Representation.{Parts}
use Rattle.arc_steps.specs.Releases.{CanDrop, Drops}
use Rattle.arc_steps.proofs.dropping.drop_temporaries.Given as goal

abbrev pub invariant-loop-objects : goal.invariant-loop-objects
invariant-loop-objects g l = record {
  places : l.objects.temporaries ≤ length l.objects.places;
  can : CanDrop (g.S.Store.out l.objects.store) (take l.objects.temporaries l.objects.places);
  rest : (new : Parts g.row.S.Denot) (last : Option ℕ) → Drops g.S.Store.out (take l.objects.temporaries l.objects.places) l.objects new last
      → Drops g.S.Store.out (take l.fn.objects.temporaries l.fn.objects.places) l.fn.objects new last;
}

abbrev pub decreases-loop-objects : goal.decreases-loop-objects
decreases-loop-objects g l = l.objects.temporaries
