use Rattle.std.proofs.Common.{arith}
use Rattle.std.proofs.lemmas.Grind.{common_steps}
use Rattle.arc_form.specs.Whole.{read_whole}
use Rattle.arc_parse.proofs.source.unit.Goals as goal

pub returns-in-None : goal.returns-in-None
unfolding read_whole
returns-in-None c = grind (arith, common_steps)
