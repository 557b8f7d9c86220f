use Rattle.std.proofs.Common.{◌≡◌, drop, map}
use Rattle.arc_lex.specs.private.Pieces.{first_front, itself, now}
use Rattle.arc_lex.proofs.word.first_text.Given as goal

-- the first among all is the first among the rest
abbrev pub invariant-loop-text : goal.invariant-loop-text
invariant-loop-text l = first_front itself (map now (drop l.text-index l.texts)) l.bytes ≡ first_front itself (map now l.texts) l.bytes
