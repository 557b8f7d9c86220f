use Rattle.std.proofs.Common.{◌≡◌, ◌∙◌, ap, sym, refl, rules, to_z, of_z, w64}
use Rattle.std.specs.Prelude.{slice_set}
use Rattle.arc_code.specs.CodeSteps.{program_of}
use Rattle.arc_steps.specs.Places.{machine_view}
use Rattle.arc_cells.specs.Representation.{with_globals}
use Rattle.arc_steps.proofs.NumberGlobalSimulation.{set_some, set_went}
use Rattle.arc_steps.proofs.place.Place.set_global.Goals as goal

pub pop-number-requires : goal.pop-number-requires
pop-number-requires g c = set_some g.S.Store.out (program_of c.args._code.now) c.args.variable (machine_view c.args.self.now c.args.objects.now) c.requires.ready

pub returns-clause-went : goal.returns-clause-went
returns-clause-went g c =
    let same : c.pop-number.result ≡ to_z w64 (of_z w64 c.pop-number.result) = search rules in
    let objects = c.args.objects.now in
    set_went g.S.Store.out (program_of c.args._code.now) c.args.variable (machine_view c.args.self.now objects) c.pop-number.result c.pop-number.new.self.items _ (ap (λ x. x.items) c.pop-number.ensures.value) refl refl
    (c.put_global.ensures ∙ ap (λ n. with_globals objects (slice_set objects.statics.numbers c.args.variable n)) (sym same))
