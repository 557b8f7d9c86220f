use Rattle.std.proofs.Common.{length}
use Rattle.arc_parse.proofs.expr.+suffixes.Given as goal

abbrev pub decreases-suffixes : goal.decreases-suffixes
decreases-suffixes l = length l.reader.now.rest.now
