use Rattle.std.proofs.Common.{◌≡◌, ◌++◌, length}
use Rattle.arc_lower.specs.PlainActions.{plain_actions}
use Rattle.arc_lower.specs.Lowered.{text_actions}
use Rattle.arc_lower.proofs.print.append_text.Given as goal

abbrev pub invariant-loop-rest : goal.invariant-loop-rest
invariant-loop-rest l = plain_actions l.actions.items ++ text_actions l.rest ≡ plain_actions l.initial.actions.items ++ text_actions l.bytes

abbrev pub decreases-loop-rest : goal.decreases-loop-rest
decreases-loop-rest l = length l.rest
