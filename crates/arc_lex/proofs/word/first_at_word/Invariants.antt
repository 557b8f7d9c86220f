use Rattle.std.proofs.Common.{◌≡◌, drop}
use Rattle.arc_lex.specs.private.Pieces.{first_front}
use Rattle.arc_lex.specs.Spellings.{at_bytes}
use Rattle.arc_lex.proofs.word.first_at_word.Given as goal

-- the first among all is the first among the rest
abbrev pub invariant-loop-word : goal.invariant-loop-word
invariant-loop-word l = first_front at_bytes (drop l.word-index l.words) l.bytes ≡ first_front at_bytes l.words l.bytes
