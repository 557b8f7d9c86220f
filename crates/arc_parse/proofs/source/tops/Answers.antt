use Rattle.std.proofs.Common.{arith}
use Rattle.arc_parse.proofs.Tops.{nothing_yet, tops_start}
use Rattle.arc_grammar.proofs.Loops.{one_more}
use Rattle.arc_grammar.proofs.Fits.{taking}
use Rattle.arc_parse.proofs.source.tops.Goals as goal

pub returns-in_err-one : goal.returns-in_err-one
returns-in_err-one c = grind (arith, tops_start, one_more, taking, nothing_yet)

pub tops-preserved : goal.tops-preserved
tops-preserved c = grind (arith, tops_start, one_more, taking, nothing_yet)
