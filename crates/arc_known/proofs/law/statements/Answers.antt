use Rattle.std.proofs.Common.{refl, pos, negsuc, [], codes}
use Rattle.arc_spec.specs.Correctness.{Ends}
use Rattle.arc_known.specs.Programs as program
use Rattle.arc_known.specs.Programs.{printed}
use Rattle.arc_known.proofs.Reading.{reading, known}
use Rattle.arc_known.proofs.law.statements.Goals as goal

pub returns-clause-operands : goal.returns-clause-operands
unfolding reading
returns-clause-operands c = known program.operands [] 0 (printed (codes "cba")) (Ends (pos 9506)) refl refl

pub returns-clause-scopes : goal.returns-clause-scopes
unfolding reading
returns-clause-scopes c = known program.scopes [] 0 (printed (codes "27b")) (Ends (pos 0)) refl refl

pub returns-clause-echo : goal.returns-clause-echo
unfolding reading
returns-clause-echo c = known program.echo (codes "hi") 2 (printed (codes "hi")) (Ends (negsuc 1)) refl refl

pub returns-clause-loops : goal.returns-clause-loops
unfolding reading
returns-clause-loops c = known program.loops [] 5 (printed (codes "023")) (Ends (pos 35)) refl refl

pub returns-clause-globals : goal.returns-clause-globals
unfolding reading
returns-clause-globals c = known program.globals [] 0 (printed (codes "40")) (Ends (pos 42)) refl refl

pub returns-clause-deepest_blocks : goal.returns-clause-deepest_blocks
unfolding reading
returns-clause-deepest_blocks c = known program.deepest_blocks [] 0 [] (Ends (pos 0)) refl refl
