use Rattle.std.proofs.Common.{arith}
use Rattle.std.proofs.lemmas.Grind.{common_steps}
use Rattle.arc_lower.proofs.ActionLists.{raised_append, raised_nothing}
use Rattle.arc_lower.proofs.stub.append_methods.Goals as goal

pub loop-method-preserved : goal.loop-method-preserved
loop-method-preserved c = record { actions = grind (arith, common_steps); methods = grind (arith, common_steps); most = grind (arith, common_steps, raised_append, raised_nothing) }
