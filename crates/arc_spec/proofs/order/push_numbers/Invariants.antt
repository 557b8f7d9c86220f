use Rattle.std.proofs.Common.{◌≡◌, ◌++◌, ◌-◌}
use Rattle.arc_spec.specs.Classes.{numbers_from}
use Rattle.arc_spec.proofs.order.push_numbers.Given as goal

-- those that are left are appended
abbrev pub invariant-loop-number : goal.invariant-loop-number
invariant-loop-number l = l.numbers.items ++ numbers_from l.number (l.last - l.number) ≡ l.initial.numbers.items ++ numbers_from l.first (l.last - l.first)
