use Rattle.std.proofs.Common.{refl, pos, [], codes}
use Rattle.arc_spec.specs.Correctness.{Ends}
use Rattle.arc_known.specs.Programs as program
use Rattle.arc_known.specs.Programs.{printed}
use Rattle.arc_known.proofs.Reading.{reading, known}
use Rattle.arc_known.proofs.law.numbers.Goals as goal

pub returns-clause-forty_two : goal.returns-clause-forty_two
unfolding reading
returns-clause-forty_two c = known program.forty_two [] 0 (printed (codes "42")) (Ends (pos 7)) refl refl

pub returns-clause-conversions : goal.returns-clause-conversions
unfolding reading
returns-clause-conversions c = known program.conversions [] 0 (printed (codes "14 -3|A%|4294967296\n")) (Ends (pos 20)) refl refl

pub returns-clause-tokens : goal.returns-clause-tokens
unfolding reading
returns-clause-tokens c = known program.tokens [] 0 (printed (codes "A42\n")) (Ends (pos 4)) refl refl

pub returns-clause-wrapped_sum : goal.returns-clause-wrapped_sum
unfolding reading
returns-clause-wrapped_sum c = known program.wrapped_sum [] 0 (printed (codes "-2147483648")) (Ends (pos 11)) refl refl

pub returns-clause-factorials : goal.returns-clause-factorials
unfolding reading
returns-clause-factorials c = known program.factorials [] 0 (printed (codes "120")) (Ends (pos 1932053504)) refl refl

pub returns-clause-updates : goal.returns-clause-updates
unfolding reading
returns-clause-updates c = known program.updates [] 0 program.updates_show (Ends (pos 1)) refl refl
