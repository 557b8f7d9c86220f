use Rattle.std.proofs.Common.{◌≡◌, ◌-◌, ◌++◌}
use Rattle.arc_lower.specs.PlainActions.{plain_actions}
use Rattle.arc_lower.specs.Lowered.{all_empty_actions}
use Rattle.arc_lower.proofs.place.append_all_empty.Given as goal

abbrev pub invariant-loop-passed : goal.invariant-loop-passed
invariant-loop-passed l = plain_actions l.actions.items ++ all_empty_actions l.names l.first (l.count - l.passed) ≡ plain_actions l.initial.actions.items ++ all_empty_actions l.names l.first l.count
