use Rattle.std.proofs.Common.{◌≡◌, ◌++◌}
use Rattle.arc_lower.specs.PlainActions.{plain_actions}
use Rattle.arc_lower.specs.Lowered.{declare_actions}
use Rattle.arc_lower.proofs.place.append_declares.Given as goal

abbrev pub invariant-loop-variable : goal.invariant-loop-variable
invariant-loop-variable l = plain_actions l.actions.items ≡ plain_actions l.initial.actions.items ++ declare_actions l._variable
