use Rattle.std.proofs.Common.{◌≡◌, ◌-◌, length, map, slice_get}
use Rattle.arc_spec.specs.Classes.{ancestry_within}
use Rattle.arc_class.specs.Lookups.{least_of, least_among}
use Rattle.arc_class.specs.Table.{place_among, superclass_of_fields, own_place_in}
use Rattle.arc_class.proofs.fields.least_from.Given as goal

-- what was seen and what is seen from the next class up is all
abbrev pub invariant-loop-passed : goal.invariant-loop-passed
invariant-loop-passed l = place_among l.classes l.fn.class l.name
    ≡ least_of l.place (least_among (λ class. own_place_in (slice_get l.classes class) l.name) (ancestry_within (length l.classes - l._passed) (map superclass_of_fields l.classes) l.next))
