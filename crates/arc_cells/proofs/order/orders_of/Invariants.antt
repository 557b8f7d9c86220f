use Rattle.std.proofs.Common.{◌≡◌, map}
use Rattle.arc_spec.specs.Classes.{classes_of, numbers_from, field_order}
use Rattle.arc_cells.specs.Representation.{items_of}
use Rattle.arc_cells.proofs.order.orders_of.Given as goal

-- those of the classes so far
abbrev pub invariant-loop-class : goal.invariant-loop-class
invariant-loop-class l = map items_of l.orders.items ≡ map (field_order (classes_of l.classes)) (numbers_from 0 l.class)
