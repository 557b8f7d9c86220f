use Rattle.std.proofs.Common.{◌≡◌, drop, false}
use Rattle.arc_lex.specs.Source.{to_close}
use Rattle.arc_lex.proofs.Closes.{plus}
use Rattle.arc_lex.proofs.skipped.to_close.Given as goal

abbrev pub invariant-loop-i : goal.invariant-loop-i
invariant-loop-i l = to_close false l.bytes ≡ plus l.i (to_close l.star (drop l.i l.bytes))
