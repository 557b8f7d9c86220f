use Rattle.std.proofs.Common.{◌≡◌, ◌-◌, ◌++◌}
use Rattle.arc_lower.specs.PlainActions.{plain_actions}
use Rattle.arc_lower.specs.Lowered.{take_actions}
use Rattle.arc_lower.proofs.place.append_takes.Given as goal

abbrev pub invariant-loop-passed : goal.invariant-loop-passed
invariant-loop-passed l = plain_actions l.actions.items ++ take_actions l.first (l.count - l.passed) ≡ plain_actions l.initial.actions.items ++ take_actions l.first l.count
