use Rattle.arc_lower.proofs.StepHeights.{statement_ends}
use Rattle.arc_lower.proofs.law.statements_end.Goals as goal

pub returns : goal.returns
returns c = λ P slots names here s command. statement_ends P slots names here s command
