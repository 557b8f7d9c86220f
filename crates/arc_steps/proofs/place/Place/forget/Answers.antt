use Rattle.std.proofs.Common.{refl}
use Rattle.arc_code.specs.CodeSteps.{program_of}
use Rattle.arc_steps.specs.Places.{machine_view}
use Rattle.arc_steps.proofs.ReferenceSimulation.{forget_some, forget_went}
use Rattle.arc_steps.proofs.place.Place.forget.Goals as goal

pub take-requires : goal.take-requires
take-requires g c = forget_some g.S.Store.out (program_of c.args._code.now) (machine_view c.args.self.now c.args.objects.now) c.requires.ready

pub returns-clause-went : goal.returns-clause-went
returns-clause-went g c = forget_went g.S.Store.out (program_of c.args._code.now) (machine_view c.args.self.now c.args.objects.now) _ c.take.new.self c.take.ensures.named c.take.ensures.others _ refl refl refl
