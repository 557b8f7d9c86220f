use Rattle.std.proofs.Common.{ap, ◌∙◌}
use Rattle.arc_spec.specs.Resolved.{Sequence}
use Rattle.arc_checked.proofs.NodeParts.{sequence_command}
use Rattle.arc_resolve.proofs.program.declaration.Goals as goal

pub returns-clause-command : goal.returns-clause-command
returns-clause-command c = sequence_command 0 0 c.in_ok-all.all ∙ ap (Sequence 0 0) c.in_ok-all.ensures.commands
