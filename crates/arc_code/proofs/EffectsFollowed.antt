-- Operations take and give what the table of instructions says.
use Rattle.std.proofs.Common.{List, arith}
use Rattle.std.proofs.lemmas.List.{length-set}
use Rattle.arc_spec.specs.Classes.{Class}
use Rattle.arc_code.specs.declared.instr.Op.{Op}
use Rattle.arc_code.specs.declared.instr.Op.TheVariants.{ReadField}
use Rattle.arc_code.specs.Instructions.{State, operates}
use Rattle.arc_code.specs.Effects.{on_names, operation_effect, Follows, After}
use Rattle.arc_code.proofs.StepOutcomes.{reference_after, field_after}

-- Each operation follows its row of the table.
pub operation_follows : (classes : List Class) (s : State) (o : Op) → After (Follows (operation_effect o) s) (operates classes o s)
operation_follows classes s (ReadField class index) = reference_after (Follows (on_names 1 1 1) s) s.held.names _ (λ r rest e. field_after (Follows (on_names 1 1 1) s) classes class r s.held _ (λ o. search arith))
operation_follows classes s _ = search (arith, length-set)
