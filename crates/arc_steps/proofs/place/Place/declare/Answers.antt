use Rattle.std.proofs.Common.{refl, arith}
use Rattle.arc_code.specs.CodeSteps.{program_of}
use Rattle.arc_steps.specs.Places.{machine_view}
use Rattle.arc_steps.proofs.ReferenceSimulation.{declare_room, declare_went}
use Rattle.arc_steps.proofs.place.Place.declare.Goals as goal

pub declare-requires-clause-few : goal.declare-requires-clause-few
declare-requires-clause-few g c = let room = declare_room g.S.Store.out (program_of c.args.code.now) (machine_view c.args.self.now c.args.objects.now) c.requires.ready in omega (arith, room.0, room.1)

pub declare-requires-clause-room : goal.declare-requires-clause-room
declare-requires-clause-room g c = let room = declare_room g.S.Store.out (program_of c.args.code.now) (machine_view c.args.self.now c.args.objects.now) c.requires.ready in omega (arith, room.0, c.requires.places.places)

pub returns-clause-went : goal.returns-clause-went
returns-clause-went g c = declare_went g.S.Store.out (program_of c.args.code.now) (machine_view c.args.self.now c.args.objects.now) _ refl refl c.declare.ensures
