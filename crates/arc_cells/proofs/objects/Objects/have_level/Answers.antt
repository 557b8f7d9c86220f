use Rattle.std.proofs.Common.{length, nat_lt, ap, ◌∙◌}
use Rattle.arc_spec.specs.declared.limits.TheConstants.{MOST_LEVELS}
use Rattle.arc_cells.specs.Representation.{Parts}
use Rattle.arc_cells.proofs.objects.Objects.have_level.Goals as goal

pub returns : goal.returns
returns g c = ap (λ n. nat_lt n MOST_LEVELS) (c.len.ensures ∙ ap (λ (m : Parts g.row.S.Denot). length m.frames) c.self.view_is)
