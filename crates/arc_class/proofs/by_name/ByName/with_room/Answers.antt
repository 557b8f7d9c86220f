use Rattle.arc_class.proofs.NameMapParts.{blank_none}
use Rattle.arc_class.proofs.by_name.ByName.with_room.Goals as goal

pub returns : goal.returns
returns g c = blank_none c.loop-part.parts.items c.loop-part.invariant.0
