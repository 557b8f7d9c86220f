use Rattle.arc_plain.proofs.ObjectsReported.{new_reported}
use Rattle.arc_plain.proofs.object.new_object.Goals as goal

pub returns : goal.returns
returns c = new_reported c.args.class c.args.counts c.in_ok-vec.field-0.items c.in_ok-vec-2.field-0.items (c.in_ok-vec.ensures.items_if_clones_equal (λ y h. h)) (c.in_ok-vec-2.ensures.items_if_clones_equal (λ y h. h))
