use Rattle.std.proofs.Common.{◌≡◌, drop}
use Rattle.std.specs.List.{list_any}
use Rattle.arc_lower.specs.PlainActions.{plain_actions}
use Rattle.arc_lower.specs.Lowered.{action_takes}
use Rattle.arc_lower.proofs.place.take_some.Given as goal

abbrev pub invariant-loop-action : goal.invariant-loop-action
invariant-loop-action l = list_any action_takes (plain_actions l.actions) ≡ list_any action_takes (plain_actions (drop l.action-index l.actions))
