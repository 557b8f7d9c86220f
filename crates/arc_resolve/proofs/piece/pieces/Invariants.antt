use Rattle.std.proofs.Common.{◌≡◌, drop}
use Rattle.arc_scope.specs.declared.format.Begun.TheVariants.{Nothing}
use Rattle.arc_scope.specs.Formats.{parts, printed}
use Rattle.arc_resolve.specs.private.PlainByteRuns.{whole}
use Rattle.arc_resolve.proofs.piece.pieces.Given as goal

-- what is printed so far and what the rest prints is all
abbrev pub invariant-loop-byte : goal.invariant-loop-byte
invariant-loop-byte l = printed (parts Nothing l.format) ≡ whole l.all (printed (parts l.begun (drop l.byte-index l.format)))
