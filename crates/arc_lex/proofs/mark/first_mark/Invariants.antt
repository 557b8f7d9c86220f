use Rattle.std.proofs.Common.{◌≡◌, drop}
use Rattle.arc_lex.specs.private.Pieces.{first_front}
use Rattle.arc_lex.specs.Spellings.{mark_bytes}
use Rattle.arc_lex.proofs.mark.first_mark.Given as goal

-- the first among all is the first among the rest
abbrev pub invariant-loop-mark : goal.invariant-loop-mark
invariant-loop-mark l = first_front mark_bytes (drop l.mark-index l.marks) l.bytes ≡ first_front mark_bytes l.marks l.bytes
