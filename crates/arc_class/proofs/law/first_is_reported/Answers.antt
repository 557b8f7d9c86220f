use Rattle.arc_class.proofs.FirstBrokenRule.{none_broken, first_is}
use Rattle.arc_class.proofs.law.first_is_reported.Goals as goal

pub returns-clause-none : goal.returns-clause-none
returns-clause-none c = none_broken

pub returns-clause-reported : goal.returns-clause-reported
returns-clause-reported c = first_is
