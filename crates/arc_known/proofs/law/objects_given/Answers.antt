use Rattle.std.proofs.Common.{refl, pos, []}
use Rattle.arc_spec.specs.Correctness.{Ends}
use Rattle.arc_known.specs.Programs as program
use Rattle.arc_known.proofs.Reading.{reading, known}
use Rattle.arc_known.proofs.law.objects_given.Goals as goal

pub returns-clause-init_methods : goal.returns-clause-init_methods
unfolding reading
returns-clause-init_methods c = known program.init_methods [] 0 program.init_methods_show (Ends (pos 0)) refl refl

pub returns-clause-families : goal.returns-clause-families
unfolding reading
returns-clause-families c = known program.objects_given [] 0 program.objects_given_show (Ends (pos 0)) refl refl
