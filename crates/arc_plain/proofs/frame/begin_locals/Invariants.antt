use Rattle.std.proofs.Common.{◌≡◌, ◌++◌, ◌-◌, pos}
use Rattle.arc_spec.specs.World.{padded}
use Rattle.arc_plain.proofs.frame.begin_locals.Given as goal

-- what is there, and what the slots to come hold
abbrev pub invariant-loop : goal.invariant-loop
invariant-loop l = padded (pos 0) l.slots l.arguments ≡ l.locals.items ++ padded (pos 0) (l.slots - l.counter) l.rest
