use Rattle.std.proofs.Common.{sym, ap}
use Rattle.arc_fault.specs.Check.{report}
use Rattle.arc_fault.proofs.check.CheckFault.name.Goals as goal

pub returns-in-UnknownName : goal.returns-in-UnknownName
returns-in-UnknownName c = ap (λ f. (report f).name) (sym c.in-UnknownName.is)

pub returns-in-NoSuchMethod : goal.returns-in-NoSuchMethod
returns-in-NoSuchMethod c = ap (λ f. (report f).name) (sym c.in-NoSuchMethod.is)

pub returns-in-KindMismatch : goal.returns-in-KindMismatch
returns-in-KindMismatch c = ap (λ f. (report f).name) (sym c.in-KindMismatch.is)

pub returns-in-NotAssignable : goal.returns-in-NotAssignable
returns-in-NotAssignable c = ap (λ f. (report f).name) (sym c.in-NotAssignable.is)

pub returns-in-ArgumentCount : goal.returns-in-ArgumentCount
returns-in-ArgumentCount c = ap (λ f. (report f).name) (sym c.in-ArgumentCount.is)

pub returns-in-Format : goal.returns-in-Format
returns-in-Format c = ap (λ f. (report f).name) (sym c.in-Format.is)

pub returns-in-OutsideLoop : goal.returns-in-OutsideLoop
returns-in-OutsideLoop c = ap (λ f. (report f).name) (sym c.in-OutsideLoop.is)

pub returns-in-FieldHidden : goal.returns-in-FieldHidden
returns-in-FieldHidden c = ap (λ f. (report f).name) (sym c.in-FieldHidden.is)

pub returns-in-TooManyLocals : goal.returns-in-TooManyLocals
returns-in-TooManyLocals c = ap (λ f. (report f).name) (sym c.in-TooManyLocals.is)

pub returns-in-Memory : goal.returns-in-Memory
returns-in-Memory c = ap (λ f. (report f).name) (sym c.in-Memory.is)
