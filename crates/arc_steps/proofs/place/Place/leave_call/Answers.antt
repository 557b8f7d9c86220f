use Rattle.std.proofs.Common.{◌∙◌, Some, ap, refl, sym}
use Rattle.arc_code.specs.CodeSteps.{program_of}
use Rattle.arc_steps.specs.CallEntry.{awaits_call}
use Rattle.arc_steps.specs.Places.{machine_view}
use Rattle.arc_steps.proofs.CallMessageSimulation.{leave_few, leave_call}
use Rattle.arc_steps.proofs.place.Place.leave_call.Goals as goal

pub leave_bare-requires-clause-places : goal.leave_bare-requires-clause-places
leave_bare-requires-clause-places g c = leave_few g.S.Store.out (program_of c.args._code.now) (machine_view c.args.self.now c.args.objects.now) c.requires.ready

pub returns-in-Some-Call-clause-went : goal.returns-in-Some-Call-clause-went
returns-in-Some-Call-clause-went g c holds =
    leave_call g.S.Store.out (program_of c.args._code.now) (machine_view c.args.self.now c.args.objects.now) c.in-Some-Call.back c.in-Some-Call.waiter _ (c.last.ensures ∙ c.in-Some-Call.is ∙ ap Some c.in-Some-Call.field-0-is) refl refl c.leave_bare.ensures

pub returns-in-Some-Call-clause-left : goal.returns-in-Some-Call-clause-left
returns-in-Some-Call-clause-left g c =
    sym (ap awaits_call (c.last.ensures ∙ c.in-Some-Call.is ∙ ap Some c.in-Some-Call.field-0-is))

pub returns-in_default-clause-went : goal.returns-in_default-clause-went
returns-in_default-clause-went g c holds = absurd (cc)
