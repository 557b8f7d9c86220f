use Rattle.std.proofs.Common.{◌≡◌, ◌-◌, length, nat_eq}
use Rattle.std.specs.List.{list_any}
use Rattle.arc_spec.specs.Classes.{classes_of, superclasses, ancestry_within, descends}
use Rattle.arc_spec.proofs.class.descends_from.Given as goal

-- whether the other class is found is whether it is found from the next class up
abbrev pub invariant-loop-passed : goal.invariant-loop-passed
invariant-loop-passed l = descends (classes_of l.classes) l.fn.from l.other
    ≡ list_any (λ class. nat_eq class l.other) (ancestry_within (length l.classes - l._passed) (superclasses (classes_of l.classes)) l.next)
