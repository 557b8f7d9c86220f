use Rattle.std.proofs.Common.{arith}
use Rattle.std.proofs.lemmas.Grind.{common_steps}
use Rattle.arc_class.proofs.building.add_defined_before.Goals as goal

pub loop-implementation-preserved : goal.loop-implementation-preserved
loop-implementation-preserved c = grind (arith, common_steps)

pub returns-then-implementation-at-clause-rest : goal.returns-then-implementation-at-clause-rest
returns-then-implementation-at-clause-rest c = grind (arith, common_steps)

pub returns-clause-rest : goal.returns-clause-rest
returns-clause-rest c = grind (arith, common_steps)

pub returns-then-implementation-at-clause-added : goal.returns-then-implementation-at-clause-added
returns-then-implementation-at-clause-added c = grind (arith, common_steps)

pub returns-clause-added : goal.returns-clause-added
returns-clause-added c = grind (arith, common_steps)
