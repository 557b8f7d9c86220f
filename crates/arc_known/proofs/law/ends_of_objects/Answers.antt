use Rattle.std.proofs.Common.{refl, pos, []}
use Rattle.arc_spec.specs.Correctness.{Ends}
use Rattle.arc_known.specs.Programs as program
use Rattle.arc_known.proofs.Reading.{reading, known}
use Rattle.arc_known.proofs.law.ends_of_objects.Goals as goal

pub returns-clause-ends : goal.returns-clause-ends
unfolding reading
returns-clause-ends c = known program.ends [] 0 program.ends_show (Ends (pos 0)) refl refl

pub returns-clause-early_return : goal.returns-clause-early_return
unfolding reading
returns-clause-early_return c = known program.early_return [] 0 program.early_return_shows (Ends (pos 2)) refl refl

pub returns-clause-kept_alive : goal.returns-clause-kept_alive
unfolding reading
returns-clause-kept_alive c = known program.kept_alive [] 0 program.kept_alive_shows (Ends (pos 0)) refl refl

pub returns-clause-turns_and_temporaries : goal.returns-clause-turns_and_temporaries
unfolding reading
returns-clause-turns_and_temporaries c = known program.turns_and_temporaries [] 2 program.turns_and_temporaries_show (Ends (pos 0)) refl refl
