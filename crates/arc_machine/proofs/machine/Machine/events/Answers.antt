use Rattle.std.proofs.Common.{ap, ◌∙◌}
use Rattle.arc_steps.specs.Views.{Seen}
use Rattle.arc_machine.proofs.machine.Machine.events.Goals as goal

pub returns : goal.returns
returns g c = c.events.ensures ∙ ap (λ (m : Seen g.row.S.Denot). m.events) c.self.view_is
