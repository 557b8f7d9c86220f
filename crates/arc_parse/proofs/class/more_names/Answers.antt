use Rattle.std.proofs.Common.{arith}
use Rattle.arc_grammar.proofs.Fits.{taking}
use Rattle.arc_grammar.proofs.Loops.{one_more_listed}
use Rattle.arc_parse.proofs.class.more_names.Goals as goal

pub names-preserved : goal.names-preserved
names-preserved c = grind (arith, one_more_listed, taking)
