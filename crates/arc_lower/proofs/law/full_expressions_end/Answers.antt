use Rattle.arc_lower.proofs.StepHeights.{full_expression_ends, full_object_expression_ends}
use Rattle.arc_lower.proofs.law.full_expressions_end.Goals as goal

pub returns : goal.returns
returns c = search (full_expression_ends, full_object_expression_ends)
