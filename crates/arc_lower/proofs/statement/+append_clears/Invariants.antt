use Rattle.std.proofs.Common.{length}
use Rattle.arc_lower.proofs.statement.+append_clears.Given as goal

-- the scopes that are left
abbrev pub decreases-append_clears : goal.decreases-append_clears
decreases-append_clears l = length l.scopes.now
