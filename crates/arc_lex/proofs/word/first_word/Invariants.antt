use Rattle.std.proofs.Common.{◌≡◌, drop}
use Rattle.arc_lex.specs.private.Pieces.{first_equal}
use Rattle.arc_lex.specs.Spellings.{word_bytes}
use Rattle.arc_lex.proofs.word.first_word.Given as goal

-- the first among all is the first among the rest
abbrev pub invariant-loop-word : goal.invariant-loop-word
invariant-loop-word l = first_equal word_bytes (drop l.word-index l.words) l.name ≡ first_equal word_bytes l.words l.name
