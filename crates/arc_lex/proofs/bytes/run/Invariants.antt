use Rattle.std.proofs.Common.{◌≡◌, ◌+◌, drop}
use Rattle.arc_lex.specs.Bytes.{run}
use Rattle.arc_lex.proofs.bytes.run.Given as goal

abbrev pub invariant-loop-b : goal.invariant-loop-b
invariant-loop-b l = (l.n ≡ l.b-index) × (l.n + run l.class (drop l.b-index l.bytes) ≡ run l.class l.bytes)
