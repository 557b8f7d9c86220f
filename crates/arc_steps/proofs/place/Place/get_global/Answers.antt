use Rattle.std.proofs.Common.{◌≡◌, ◌∙◌, ◌∷◌, ap, sym, refl, rules, arith, to_z, of_z, w64}
use Rattle.arc_code.specs.CodeSteps.{program_of}
use Rattle.arc_steps.specs.Places.{machine_view}
use Rattle.arc_steps.proofs.NumberGlobalSimulation.{get_room, get_went}
use Rattle.arc_steps.proofs.place.Place.get_global.Goals as goal

pub push-requires : goal.push-requires
push-requires g c = let room = get_room g.S.Store.out (program_of c.args._code.now) c.args.variable (machine_view c.args.self.now c.args.objects.now) c.requires.ready in omega (arith, room, c.requires.room)

pub returns-clause-went : goal.returns-clause-went
returns-clause-went g c =
    let same : c.global.result ≡ to_z w64 (of_z w64 c.global.result) = search rules in
    get_went g.S.Store.out (program_of c.args._code.now) c.args.variable (machine_view c.args.self.now c.args.objects.now) _ _ c.global.ensures refl
    (ap (λ x. x.items) c.push.ensures.value ∙ ap (λ n. n ∷ c.args.self.now.stack.items) (sym same)) refl
