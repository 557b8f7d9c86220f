use Rattle.arc_code.proofs.HeightsKept.{never_more, sound_with_room}
use Rattle.arc_code.proofs.law.heights_bound_runs.Goals as goal

pub returns : goal.returns
returns c = search (never_more, sound_with_room)
