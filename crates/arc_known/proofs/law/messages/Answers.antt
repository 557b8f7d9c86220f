use Rattle.std.proofs.Common.{refl, pos, [], codes}
use Rattle.arc_spec.specs.Correctness.{Ends}
use Rattle.arc_known.specs.Programs as program
use Rattle.arc_known.specs.Programs.{printed}
use Rattle.arc_known.proofs.Reading.{reading, known}
use Rattle.arc_known.proofs.law.messages.Goals as goal

pub returns-clause-class_methods : goal.returns-clause-class_methods
unfolding reading
returns-clause-class_methods c = known program.class_methods [] 0 (printed (codes "10 20")) (Ends (pos 0)) refl refl

pub returns-clause-nil_receiver : goal.returns-clause-nil_receiver
unfolding reading
returns-clause-nil_receiver c = known program.nil_receiver (codes "xA") 0 program.nil_receiver_shows (Ends (pos 0)) refl refl

pub returns-clause-object_methods : goal.returns-clause-object_methods
unfolding reading
returns-clause-object_methods c = known program.object_methods [] 0 program.object_methods_show (Ends (pos 1)) refl refl
