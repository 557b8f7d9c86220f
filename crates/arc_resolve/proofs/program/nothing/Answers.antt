use Rattle.std.proofs.Common.{ap, ◌∙◌}
use Rattle.arc_spec.specs.Resolved.{Sequence}
use Rattle.arc_checked.specs.Checked.{commands}
use Rattle.arc_checked.proofs.NodeParts.{sequence_command}
use Rattle.arc_resolve.proofs.program.nothing.Goals as goal

pub returns : goal.returns
returns c = sequence_command 0 0 c.new.result ∙ ap (λ us. Sequence 0 0 (commands us)) c.new.ensures.items
