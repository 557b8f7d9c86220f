use Rattle.std.proofs.Common.{refl, [], codes}
use Rattle.arc_spec.specs.Correctness.{Faults}
use Rattle.arc_spec.specs.declared.event.Fault.TheVariants.{Arithmetic, Unrecognized, NilField, FieldClass, Depth}
use Rattle.arc_known.specs.Programs as program
use Rattle.arc_known.specs.Programs.{printed}
use Rattle.arc_known.proofs.Reading.{reading, known}
use Rattle.arc_known.proofs.law.faults.Goals as goal

pub returns-clause-division_by_zero : goal.returns-clause-division_by_zero
unfolding reading
returns-clause-division_by_zero c = known program.division_by_zero [] 0 (printed (codes "<-2>")) (Faults Arithmetic) refl refl

pub returns-clause-least_quotient : goal.returns-clause-least_quotient
unfolding reading
returns-clause-least_quotient c = known program.least_quotient [] 0 (printed (codes "-2147483648")) (Faults Arithmetic) refl refl

pub returns-clause-no_method : goal.returns-clause-no_method
unfolding reading
returns-clause-no_method c = known program.no_method [] 0 program.no_method_shows (Faults Unrecognized) refl refl

pub returns-clause-field_of_nil : goal.returns-clause-field_of_nil
unfolding reading
returns-clause-field_of_nil c = known program.field_of_nil [] 0 (printed (codes "x")) (Faults NilField) refl refl

pub returns-clause-field_of_another_class : goal.returns-clause-field_of_another_class
unfolding reading
returns-clause-field_of_another_class c = known program.field_of_another_class [] 0 (printed (codes "x")) (Faults FieldClass) refl refl

pub returns-clause-endless_calls : goal.returns-clause-endless_calls
unfolding reading
returns-clause-endless_calls c = known program.endless_calls [] 0 [] (Faults Depth) refl refl
