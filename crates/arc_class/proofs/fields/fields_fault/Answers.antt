use Rattle.std.proofs.Common.{arith}
use Rattle.std.proofs.lemmas.Grind.{common_steps}
use Rattle.arc_class.proofs.ClassViolations.{fields_turn}
use Rattle.arc_class.proofs.fields.fields_fault.Goals as goal

pub loop-field-preserved : goal.loop-field-preserved
loop-field-preserved c u all e same =
    fields_turn u c.args.above all c.args.fields.now c.loop-field.field-index c.field-item.result _ _ _ _ c.loop-field-test.true c.field-item.is
    (c.field_fault-own.ensures u all e same) c.earlier-fault.ensures (c.loop-field.invariant u all e same)

pub returns : goal.returns
returns c = grind (arith, common_steps)
