use Rattle.std.proofs.Common.{ap, length, arith}
use Rattle.arc_cells.specs.Representation.{Memory}
use Rattle.arc_steps.proofs.place.Place.give_back.Goals as goal

pub raise-requires-clause-fits : goal.raise-requires-clause-fits
raise-requires-clause-fits g c = λ above cell is. c.requires.can.fits cell is

pub push-requires-clause-few : goal.push-requires-clause-few
push-requires-clause-few g c =
    let few = c.requires.can.few in
    let same = ap (λ (x : Memory). x.temporaries) c.raise.ensures.others in
    omega (arith, few, same)

pub push-requires-clause-room : goal.push-requires-clause-room
push-requires-clause-room g c =
    let few = c.requires.can.room in
    let same = ap (λ (x : Memory). length x.places) c.raise.ensures.others in
    let room = ap (λ (x : Memory). x.room) c.raise.ensures.others in
    omega (arith, few, same, room)

pub returns-clause-parts : goal.returns-clause-parts
returns-clause-parts g c = record { high = c.raise.new.self; counted = c.raise.ensures; taken = c.push.ensures }
