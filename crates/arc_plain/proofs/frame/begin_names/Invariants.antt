use Rattle.std.proofs.Common.{◌≡◌, ◌++◌, ◌-◌}
use Rattle.arc_spec.specs.World.{padded}
use Rattle.arc_plain.proofs.frame.begin_names.Given as goal

-- what is there, and what the variables to come name
abbrev pub invariant-loop : goal.invariant-loop
invariant-loop l = padded 0 l.count l.objects ≡ l.names.items ++ padded 0 (l.count - l.counter) l.rest
