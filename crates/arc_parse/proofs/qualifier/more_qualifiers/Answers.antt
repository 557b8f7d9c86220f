use Rattle.std.proofs.Common.{arith}
use Rattle.arc_grammar.proofs.Loops.{one_more}
use Rattle.arc_grammar.proofs.Fits.{taking}
use Rattle.arc_parse.proofs.qualifier.more_qualifiers.Goals as goal

pub qualifiers-preserved : goal.qualifiers-preserved
qualifiers-preserved c = grind (arith, one_more, taking)
