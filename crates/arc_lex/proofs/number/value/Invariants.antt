use Rattle.std.proofs.Common.{◌≡◌, drop}
use Rattle.arc_lex.specs.Texts.{number_after}
use Rattle.arc_lex.specs.private.Bases.{factor}
use Rattle.arc_lex.proofs.number.value.Given as goal

-- the number so far, followed by the rest, is the whole
abbrev pub invariant-loop-digit : goal.invariant-loop-digit
invariant-loop-digit l = number_after (factor l.base) l.n (drop l.digit-index l.digits) ≡ number_after (factor l.base) 0 l.digits
