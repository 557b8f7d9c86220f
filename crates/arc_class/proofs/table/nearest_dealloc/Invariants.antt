use Rattle.std.proofs.Common.{◌≡◌, ◌-◌, length, slice_get}
use Rattle.arc_spec.specs.Classes.{classes_of, superclasses, ancestry_within, first_that_has, own_dealloc}
use Rattle.arc_class.specs.Table.{nearest_dealloc}
use Rattle.arc_class.proofs.table.nearest_dealloc.Given as goal

-- what is found is found from the next class up
abbrev pub invariant-loop-passed : goal.invariant-loop-passed
invariant-loop-passed l = nearest_dealloc (classes_of l.classes) l.fn.class
    ≡ first_that_has (λ class. own_dealloc (slice_get (classes_of l.classes) class)) (ancestry_within (length l.classes - l._passed) (superclasses (classes_of l.classes)) l.next)
