use Rattle.std.proofs.Common.{ℕ, ◌<◌, ◌^◌}
use Rattle.arc_class.proofs.numbered.levels_for.Given as goal

-- there are too few numbers of fewer digits
abbrev pub invariant-loop-levels : goal.invariant-loop-levels
invariant-loop-levels l = (fewer : ℕ) → fewer < l.levels → 2 ^ fewer < l.count
