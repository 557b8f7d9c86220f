use Rattle.std.proofs.Common.{◌≡◌, drop, map}
use Rattle.arc_lex.specs.private.Pieces.{is_one, now}
use Rattle.arc_lex.proofs.word.is_one.Given as goal

-- it is one of all where it is one of the rest
abbrev pub invariant-loop-text : goal.invariant-loop-text
invariant-loop-text l = is_one (map now (drop l.text-index l.texts)) l.name ≡ is_one (map now l.texts) l.name
