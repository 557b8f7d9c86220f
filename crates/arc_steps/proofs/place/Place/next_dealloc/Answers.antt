use Rattle.std.proofs.Common.{subst}
use Rattle.arc_steps.specs.Places.{machine_view}
use Rattle.arc_steps.specs.GlobalFieldStores.{ClassStep}
use Rattle.arc_steps.proofs.place.Place.next_dealloc.Goals as goal

pub returns-in-None-clause-step : goal.returns-in-None-clause-step
returns-in-None-clause-step g c =
    let done = c.begin_clearing in
    subst (λ found. ClassStep g.S.Store.out found c.args.back c.args.waiter c.args.object c.args.left done.result (machine_view c.args.self.now c.args.objects.now) (machine_view done.new.self done.new.objects)) c.in-None.ensures done.ensures.step
