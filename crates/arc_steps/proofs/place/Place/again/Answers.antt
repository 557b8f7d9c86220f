use Rattle.std.proofs.Common.{refl, arith}
use Rattle.arc_code.specs.CodeSteps.{program_of}
use Rattle.arc_steps.specs.Places.{machine_view}
use Rattle.arc_steps.proofs.ReferenceSimulation.{again_needs, again_went}
use Rattle.arc_steps.proofs.place.Place.again.Goals as goal

pub reference-object-requires : goal.reference-object-requires
reference-object-requires g c = (again_needs g.S.Store.out (program_of c.args._code.now) (machine_view c.args.self.now c.args.objects.now) c.requires.ready).0

pub name-requires : goal.name-requires
name-requires g c = let needs = again_needs g.S.Store.out (program_of c.args._code.now) (machine_view c.args.self.now c.args.objects.now) c.requires.ready in omega (arith, needs, c.requires.places.names)

pub returns-clause-went : goal.returns-clause-went
returns-clause-went g c = again_went g.S.Store.out (program_of c.args._code.now) (machine_view c.args.self.now c.args.objects.now) _ c.reference-object.ensures _ refl refl c.name.ensures
