use Rattle.std.proofs.Common.{◌≡◌, drop}
use Rattle.arc_scope.specs.Formats.{conversions, parts, wanted}
use Rattle.arc_judge.proofs.conversion.next_conversion.Given as goal

-- no conversion is complete so far
abbrev pub invariant-loop-index : goal.invariant-loop-index
invariant-loop-index l = wanted l.format ≡ conversions (parts l.begun (drop l.index l.format))
