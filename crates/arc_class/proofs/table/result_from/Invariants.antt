use Rattle.std.proofs.Common.{◌≡◌, ◌-◌, length, map, slice_get}
use Rattle.arc_spec.specs.Classes.{ancestry_within, first_that_has}
use Rattle.arc_class.specs.Lookups.{given_among, superclass_of_entry, own_given_in}
use Rattle.arc_class.proofs.table.result_from.Given as goal

-- what is found is found from the next class up
abbrev pub invariant-loop-passed : goal.invariant-loop-passed
invariant-loop-passed l = given_among l.names l.entries l.fn.class l.sign l.selector
    ≡ first_that_has (λ class. own_given_in l.names class (slice_get l.entries class) l.sign l.selector) (ancestry_within (length l.entries - l._passed) (map superclass_of_entry l.entries) l.next)
