use Rattle.std.proofs.Common.{◌≡◌, length}
use Rattle.arc_class.proofs.NameMapParts.{Blank}
use Rattle.arc_class.proofs.by_name.ByName.with_room.Given as goal

abbrev pub invariant-loop-part : goal.invariant-loop-part
invariant-loop-part g l = Blank l.parts.items × (length l.parts.items ≡ l._part)
