use Rattle.std.proofs.Common.{ap, ◌∙◌}
use Rattle.arc_steps.specs.Views.{Seen}
use Rattle.arc_machine.proofs.machine.Machine.steps_done.Goals as goal

pub returns : goal.returns
returns g c = c.steps.ensures ∙ ap (λ (m : Seen g.row.S.Denot). m.steps) c.self.view_is
