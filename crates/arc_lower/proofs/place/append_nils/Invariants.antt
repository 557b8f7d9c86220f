use Rattle.std.proofs.Common.{◌≡◌, ◌++◌}
use Rattle.arc_lower.specs.PlainActions.{plain_actions}
use Rattle.arc_lower.specs.Lowered.{nil_actions}
use Rattle.arc_lower.proofs.place.append_nils.Given as goal

abbrev pub invariant-loop-reference : goal.invariant-loop-reference
invariant-loop-reference l = plain_actions l.actions.items ≡ plain_actions l.initial.actions.items ++ nil_actions l._reference
