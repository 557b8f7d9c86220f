use Rattle.std.proofs.Common.{◌≡◌, ◌-◌, length, slice_get}
use Rattle.arc_spec.specs.Classes.{classes_of, superclasses, ancestry_within, first_that_has, found, own_methods, lookup}
use Rattle.arc_spec.proofs.class.look_up.Given as goal

-- what is found is found from the next class up
abbrev pub invariant-loop-passed : goal.invariant-loop-passed
invariant-loop-passed l = lookup (classes_of l.classes) l.fn.from l.sign l.selector l.takes l.objects l.gives
    ≡ first_that_has (λ class. found l.sign l.selector l.takes l.objects l.gives (own_methods (slice_get (classes_of l.classes) class))) (ancestry_within (length l.classes - l._passed) (superclasses (classes_of l.classes)) l.next)
