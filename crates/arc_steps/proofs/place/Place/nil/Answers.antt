use Rattle.std.proofs.Common.{refl, arith}
use Rattle.arc_code.specs.CodeSteps.{program_of}
use Rattle.arc_steps.specs.Places.{machine_view}
use Rattle.arc_steps.proofs.ReferenceSimulation.{nil_room, nil_named}
use Rattle.arc_steps.proofs.place.Place.nil.Goals as goal

pub name-requires : goal.name-requires
name-requires g c = let room = nil_room g.S.Store.out (program_of c.args._code.now) (machine_view c.args.self.now c.args.objects.now) c.requires.ready in omega (arith, room, c.requires.places.names)

pub returns-clause-went : goal.returns-clause-went
returns-clause-went g c = nil_named g.S.Store.out (program_of c.args._code.now) (machine_view c.args.self.now c.args.objects.now) _ refl refl c.name.ensures
