use Rattle.std.proofs.Common.{◌≡◌, ◌++◌}
use Rattle.arc_lower.specs.PlainActions.{plain_actions}
use Rattle.arc_lower.specs.Lowered.{zero_actions}
use Rattle.arc_lower.proofs.variable.append_zeros.Given as goal

abbrev pub invariant-loop-number : goal.invariant-loop-number
invariant-loop-number l = plain_actions l.actions.items ≡ plain_actions l.initial.actions.items ++ zero_actions l._number
