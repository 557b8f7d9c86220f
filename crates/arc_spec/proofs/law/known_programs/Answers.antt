use Rattle.std.proofs.Common.{refl}
use Rattle.std.specs.Fmt.{digits}
use Rattle.arc_spec.proofs.law.known_programs.Goals as goal

pub returns-clause-division_fault : goal.returns-clause-division_fault
unfolding digits
returns-clause-division_fault c = refl

pub returns-clause-one_byte : goal.returns-clause-one_byte
unfolding digits
returns-clause-one_byte c = refl

pub returns-clause-wrapped_sum : goal.returns-clause-wrapped_sum
unfolding digits
returns-clause-wrapped_sum c = refl

pub returns-clause-class_methods : goal.returns-clause-class_methods
unfolding digits
returns-clause-class_methods c = refl

pub returns-clause-objects : goal.returns-clause-objects
unfolding digits
returns-clause-objects c = refl

pub returns-clause-fields : goal.returns-clause-fields
unfolding digits
returns-clause-fields c = refl

pub returns-clause-global : goal.returns-clause-global
unfolding digits
returns-clause-global c = refl

pub returns-clause-held_again : goal.returns-clause-held_again
unfolding digits
returns-clause-held_again c = refl

pub returns-clause-written : goal.returns-clause-written
unfolding digits
returns-clause-written c = refl

pub returns-clause-init : goal.returns-clause-init
unfolding digits
returns-clause-init c = refl

pub returns-clause-result : goal.returns-clause-result
unfolding digits
returns-clause-result c = refl
