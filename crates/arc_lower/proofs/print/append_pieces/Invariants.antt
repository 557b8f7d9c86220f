use Rattle.std.proofs.Common.{◌≡◌, ◌++◌, drop}
use Rattle.arc_checked.specs.Checked.{pieces}
use Rattle.arc_lower.specs.PlainActions.{plain_actions}
use Rattle.arc_lower.specs.Lowered.{format_actions}
use Rattle.arc_lower.proofs.print.append_pieces.Given as goal

abbrev pub invariant-loop-piece : goal.invariant-loop-piece
invariant-loop-piece l = plain_actions l.actions.items ++ format_actions (pieces (drop l.piece-index l.pieces)) l.left ≡ plain_actions l.initial.actions.items ++ format_actions (pieces l.pieces) l.count
