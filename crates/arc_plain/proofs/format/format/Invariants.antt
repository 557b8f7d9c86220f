use Rattle.std.proofs.Common.{◌≡◌, ◌++◌, drop}
use Rattle.arc_checked.specs.Checked as checked
use Rattle.arc_spec.specs.Meaning.{formatted}
use Rattle.arc_plain.proofs.format.format.Given as goal

-- what is written, and what the pieces to come write of the values that are left
abbrev pub invariant-loop-piece : goal.invariant-loop-piece
invariant-loop-piece l =
    l.text.items ++ formatted (checked.pieces (drop l.piece-index l.pieces)) l.rest ≡ formatted (checked.pieces l.pieces) l.values
