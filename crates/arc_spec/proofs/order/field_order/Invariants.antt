use Rattle.std.proofs.Common.{◌≡◌, ◌++◌, ◌-◌, length}
use Rattle.arc_spec.specs.Classes.{classes_of, superclasses, ancestry_within, strong_counts, order_of_fields, field_order}
use Rattle.arc_spec.proofs.order.field_order.Given as goal

-- what is left comes after the fields so far
abbrev pub invariant-loop-passed : goal.invariant-loop-passed
invariant-loop-passed l = l.order.items
    ++ order_of_fields l.count (strong_counts (classes_of l.classes) (ancestry_within (length l.classes - l._passed) (superclasses (classes_of l.classes)) l.next))
    ≡ field_order (classes_of l.classes) l.class
