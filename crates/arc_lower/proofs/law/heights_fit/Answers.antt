use Rattle.arc_lower.proofs.ProgramHeights.{heights_fit}
use Rattle.arc_lower.proofs.ActionSafety.{lowered_bounded, room_suffices}
use Rattle.arc_lower.proofs.law.heights_fit.Goals as goal

pub returns : goal.returns
returns c = search (heights_fit, lowered_bounded, room_suffices)
