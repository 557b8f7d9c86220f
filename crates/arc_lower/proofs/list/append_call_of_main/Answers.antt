use Rattle.std.proofs.Common.{length, ap, length-append, arith}
use Rattle.std.proofs.lemmas.List.{length-map}
use Rattle.arc_ir.specs.ActionSteps.{Action}
use Rattle.arc_lower.specs.PlainActions.{PlainAction}
use Rattle.arc_lower.proofs.ActionCount.{call_length}
use Rattle.arc_lower.proofs.list.append_call_of_main.Goals as goal

pub returns-clause-end_step : goal.returns-clause-end_step
returns-clause-end_step c =
    omega (arith, length-map {A = Action} {B = PlainAction}, ap length c.in_ok-append_call.ensures, ap length c.in_ok-append.ensures, length-append {A = PlainAction}, call_length)
