-- From what is reported of a source to an answer.
use Rattle.std.proofs.Common.{◌≡◌, List, [], Option, Some, None, option_map, sym, ap, ◌∙◌}
use Rattle.arc_class.specs.BrokenRules.{Broken, first}
use Rattle.arc_class.proofs.FirstBrokenRule.{none_broken}
use Rattle.arc_fault.specs.declared.check.CheckFault.{CheckFault}
use Rattle.arc_fault.specs.declared.check.CheckFault.TheVariants as f
use Rattle.arc_judge.specs.Fault.{reported, Refuses}

refuses : (all : List Broken) (fault : CheckFault) → first all ≡ Some (reported fault) → Refuses all fault
refuses all (f.UnknownName at) h = h
refuses all (f.NoSuchMethod at) h = h
refuses all (f.KindMismatch at) h = h
refuses all (f.NotAssignable at) h = h
refuses all (f.ArgumentCount at) h = h
refuses all (f.Format at) h = h
refuses all (f.OutsideLoop at) h = h
refuses all (f.FieldHidden at) h = h
refuses all (f.TooManyLocals at) h = h
refuses all f.Memory h = tt

pub unbroken : (all : List Broken) (fault : Option CheckFault) → option_map reported fault ≡ first all → fault ≡ None → all ≡ []
unbroken all fault e n = none_broken all (sym e ∙ ap (option_map reported) n)

pub refused : (all : List Broken) (fault : Option CheckFault) (one : CheckFault) → option_map reported fault ≡ first all → fault ≡ Some one → Refuses all one
refused all fault one e n = refuses all one (sym e ∙ ap (option_map reported) n)
