use Rattle.std.proofs.Common.{◌≡◌, ◌≤◌, ◌+◌, ◌++◌, ℕ, List, length, true, Option}
use Rattle.arc_lex.specs.Source.{Cuts}
use Rattle.arc_lex.specs.Tokens.{Tok, toks}
use Rattle.arc_lex.specs.declared.piece.Rule.{Rule}
use Rattle.arc_lex.proofs.lex.lex.Given as goal
use Rattle.arc_lex.specs.declared.lex.TheConstants.{MOST_BYTES}

-- what completes the rest completes the whole
abbrev pub invariant-pieces : goal.invariant-pieces
invariant-pieces l = record {
  short : length l.source ≤ MOST_BYTES;
  count : l.at + length l.rest ≡ length l.source;
  cut : (ts : List Tok) (broken : Option (ℕ × Rule)) → Cuts l.at l.starts l.rest ts broken → Cuts 0 true l.source (toks l.tokens.items ++ ts) broken;
}

abbrev pub decreases-pieces : goal.decreases-pieces
decreases-pieces l = length l.rest
