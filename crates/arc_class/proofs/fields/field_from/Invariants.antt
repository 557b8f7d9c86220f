use Rattle.std.proofs.Common.{◌≡◌, ◌-◌, length, map, slice_get}
use Rattle.arc_spec.specs.Classes.{ancestry_within, first_that_has}
use Rattle.arc_class.specs.Table.{field_among, superclass_of_fields, own_field_in}
use Rattle.arc_class.proofs.fields.field_from.Given as goal

-- what is found is found from the next class up
abbrev pub invariant-loop-passed : goal.invariant-loop-passed
invariant-loop-passed l = field_among l.classes l.fn.class l.name
    ≡ first_that_has (λ class. own_field_in (slice_get l.classes class) l.name) (ancestry_within (length l.classes - l._passed) (map superclass_of_fields l.classes) l.next)
