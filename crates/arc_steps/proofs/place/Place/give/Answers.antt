use Rattle.std.proofs.Common.{◌≡◌, ◌∙◌, Some, slice_get, sym, ap, refl, arith}
use Rattle.std.proofs.lemmas.Grind.{common_steps}
use Rattle.arc_code.specs.CodeSteps.{program_of}
use Rattle.arc_cells.specs.declared.waiting.Waiting.TheVariants.{Call}
use Rattle.arc_steps.specs.Places.{machine_view}
use Rattle.arc_steps.proofs.ObjectReturnSimulation.{give_waits, give_room, give_went}
use Rattle.arc_steps.proofs.place.Place.give.Goals as goal

pub hand_over-requires-clause-few : goal.hand_over-requires-clause-few
hand_over-requires-clause-few g c =
    let last : slice_get c.args.objects.now.frames 0 ≡ Some (Call c.in-Some-Call.back c.in-Some-Call.waiter) = c.last.ensures ∙ c.in-Some-Call.is ∙ ap Some c.in-Some-Call.field-0-is in
    (give_room g.S.Store.out (program_of c.args.code.now) (machine_view c.args.self.now c.args.objects.now) c.requires.ready (omega arith) _ _ last).0

pub hand_over-requires-clause-names : goal.hand_over-requires-clause-names
hand_over-requires-clause-names g c =
    let last : slice_get c.args.objects.now.frames 0 ≡ Some (Call c.in-Some-Call.back c.in-Some-Call.waiter) = c.last.ensures ∙ c.in-Some-Call.is ∙ ap Some c.in-Some-Call.field-0-is in
    let few = (give_room g.S.Store.out (program_of c.args.code.now) (machine_view c.args.self.now c.args.objects.now) c.requires.ready (omega arith) _ _ last).1 in
    omega (arith, few, c.requires.places.names)

pub unreachable-requires : goal.unreachable-requires
unreachable-requires g c =
    let waits = give_waits g.S.Store.out (program_of c.args.code.now) (machine_view c.args.self.now c.args.objects.now) c.requires.ready c.last.result c.last.ensures in
    let both = sym (c.in-Some-End.is ∙ ap Some c.in-Some-End.field-0-is) ∙ waits.2 in
    cc

pub unreachable-requires-in-Some-Clear : goal.unreachable-requires-in-Some-Clear
unreachable-requires-in-Some-Clear g c =
    let waits = give_waits g.S.Store.out (program_of c.args.code.now) (machine_view c.args.self.now c.args.objects.now) c.requires.ready c.last.result c.last.ensures in
    let both = sym (c.in-Some-Clear.is ∙ ap Some c.in-Some-Clear.field-0-is) ∙ waits.2 in
    cc

pub unreachable-requires-in-None : goal.unreachable-requires-in-None
unreachable-requires-in-None g c =
    let waits = give_waits g.S.Store.out (program_of c.args.code.now) (machine_view c.args.self.now c.args.objects.now) c.requires.ready c.last.result c.last.ensures in
    let both = sym c.in-None.is ∙ waits.2 in
    cc

pub returns-clause-went : goal.returns-clause-went
returns-clause-went g c =
    give_went g.S.Store.out (program_of c.args.code.now) (machine_view c.args.self.now c.args.objects.now) c.in-Some-Call.back c.in-Some-Call.waiter c.pop.result _ (c.last.ensures ∙ c.in-Some-Call.is ∙ ap Some c.in-Some-Call.field-0-is) refl (ap (λ x. x.items) c.pop.ensures.value) c.hand_over.ensures

pub hand_over-requires-clause-waits : goal.hand_over-requires-clause-waits
hand_over-requires-clause-waits c = grind (arith, common_steps)

pub hand_over-requires-clause-places : goal.hand_over-requires-clause-places
hand_over-requires-clause-places c = grind (arith, common_steps)

pub hand_over-requires-clause-some : goal.hand_over-requires-clause-some
hand_over-requires-clause-some c = grind (arith, common_steps)
