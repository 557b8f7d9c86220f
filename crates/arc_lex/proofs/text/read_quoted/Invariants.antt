use Rattle.std.proofs.Common.{drop}
use Rattle.arc_lex.proofs.ReadTexts.{ReadSoFar}
use Rattle.arc_lex.proofs.text.read_quoted.Given as goal

abbrev pub invariant-loop-len : goal.invariant-loop-len
invariant-loop-len l = ReadSoFar l.quote l.right l.escaped l.value.items l.len (drop l.len l.bytes) l.bytes
