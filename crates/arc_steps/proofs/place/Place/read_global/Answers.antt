use Rattle.std.proofs.Common.{◌∷◌, ap, refl, ◌∙◌, length, arith, ◌<◌, ◌-◌, ◌^◌, subst}
use Rattle.std.specs.Prelude.{unwrap_or}
use Rattle.arc_code.specs.declared.instr.Op.TheVariants.{ReadGlobal}
use Rattle.arc_code.specs.declared.instr.Instr.TheVariants.{Plain}
use Rattle.arc_code.specs.CodeSteps.{program_of}
use Rattle.arc_heap.specs.Blocks.{Blocks}
use Rattle.arc_cells.specs.Cells.{Cell, IsCell}
use Rattle.arc_cells.specs.Representation.{NamesBlock, with_names}
use Rattle.arc_steps.specs.Places.{machine_view}
use Rattle.arc_steps.proofs.ReferenceSimulation.{global_taking, taking_needs, taking_went}
use Rattle.arc_steps.proofs.TakeCommutesWithCount.{same_blocks, without, counted, taken}
use Rattle.arc_steps.proofs.place.Place.read_global.Goals as goal

pub raise-requires-clause-object : goal.raise-requires-clause-object
raise-requires-clause-object g c = subst (λ (b : Blocks). NamesBlock b c.unwrap_or-object.result) (same_blocks g.S.Store.out c.args.objects.now c.unwrap_or-object.result (c.unwrap_or-object.result ∷ c.args.objects.now.names) c.name.new.self (c.name.ensures ∙ ap (λ x. with_names x (c.unwrap_or-object.result ∷ x.names)) c.push.ensures))
    (taking_needs g.S.Store.out (program_of c.args.code.now) (machine_view c.args.self.now c.args.objects.now) (Plain (ReadGlobal c.args.variable)) c.unwrap_or-object.result (c.unwrap_or-object.result ∷ c.args.objects.now.names) (global_taking g.S.Store.out (program_of c.args.code.now) (machine_view c.args.self.now c.args.objects.now) c.args.variable _ (c.unwrap_or-object.ensures ∙ ap (λ o. unwrap_or o 0) c.strong_global.ensures)) c.requires.few (omega arith)).0

pub raise-requires-clause-fits : goal.raise-requires-clause-fits
raise-requires-clause-fits g c = subst (λ (b : Blocks). 0 < c.unwrap_or-object.result → (cell : Cell) → IsCell b c.unwrap_or-object.result cell → cell.count < 2 ^ 64 - 1) (same_blocks g.S.Store.out c.args.objects.now c.unwrap_or-object.result (c.unwrap_or-object.result ∷ c.args.objects.now.names) c.name.new.self (c.name.ensures ∙ ap (λ x. with_names x (c.unwrap_or-object.result ∷ x.names)) c.push.ensures))
    (taking_needs g.S.Store.out (program_of c.args.code.now) (machine_view c.args.self.now c.args.objects.now) (Plain (ReadGlobal c.args.variable)) c.unwrap_or-object.result (c.unwrap_or-object.result ∷ c.args.objects.now.names) (global_taking g.S.Store.out (program_of c.args.code.now) (machine_view c.args.self.now c.args.objects.now) c.args.variable _ (c.unwrap_or-object.ensures ∙ ap (λ o. unwrap_or o 0) c.strong_global.ensures)) c.requires.few (omega arith)).1

pub push-requires-clause-few : goal.push-requires-clause-few
push-requires-clause-few g c = (taking_needs g.S.Store.out (program_of c.args.code.now) (machine_view c.args.self.now c.args.objects.now) (Plain (ReadGlobal c.args.variable)) c.unwrap_or-object.result (c.unwrap_or-object.result ∷ c.args.objects.now.names) (global_taking g.S.Store.out (program_of c.args.code.now) (machine_view c.args.self.now c.args.objects.now) c.args.variable _ (c.unwrap_or-object.ensures ∙ ap (λ o. unwrap_or o 0) c.strong_global.ensures)) c.requires.few (omega arith)).2

pub push-requires-clause-room : goal.push-requires-clause-room
push-requires-clause-room g c =
    let few = (taking_needs g.S.Store.out (program_of c.args.code.now) (machine_view c.args.self.now c.args.objects.now) (Plain (ReadGlobal c.args.variable)) c.unwrap_or-object.result (c.unwrap_or-object.result ∷ c.args.objects.now.names) (global_taking g.S.Store.out (program_of c.args.code.now) (machine_view c.args.self.now c.args.objects.now) c.args.variable _ (c.unwrap_or-object.ensures ∙ ap (λ o. unwrap_or o 0) c.strong_global.ensures)) c.requires.few (omega arith)).3 in
    omega (arith, few, c.requires.places.places)

pub name-requires : goal.name-requires
name-requires g c =
    let few = (taking_needs g.S.Store.out (program_of c.args.code.now) (machine_view c.args.self.now c.args.objects.now) (Plain (ReadGlobal c.args.variable)) c.unwrap_or-object.result (c.unwrap_or-object.result ∷ c.args.objects.now.names) (global_taking g.S.Store.out (program_of c.args.code.now) (machine_view c.args.self.now c.args.objects.now) c.args.variable _ (c.unwrap_or-object.ensures ∙ ap (λ o. unwrap_or o 0) c.strong_global.ensures)) c.requires.few (omega arith)).4 in
    let same = ap (λ x. length x.names) c.push.ensures in
    let room = ap (λ x. x.names_room) c.push.ensures in
    omega (arith, few, same, room, c.requires.places.names)

pub returns-clause-went : goal.returns-clause-went
returns-clause-went g c = taking_went g.S.Store.out (program_of c.args.code.now) (machine_view c.args.self.now c.args.objects.now) (Plain (ReadGlobal c.args.variable)) c.unwrap_or-object.result (c.unwrap_or-object.result ∷ c.args.objects.now.names) (global_taking g.S.Store.out (program_of c.args.code.now) (machine_view c.args.self.now c.args.objects.now) c.args.variable _ (c.unwrap_or-object.ensures ∙ ap (λ o. unwrap_or o 0) c.strong_global.ensures))
    (without g.S.Store.out c.args.objects.now c.unwrap_or-object.result (c.unwrap_or-object.result ∷ c.args.objects.now.names) c.name.new.self (c.name.ensures ∙ ap (λ x. with_names x (c.unwrap_or-object.result ∷ x.names)) c.push.ensures) c.raise.new.self c.raise.ensures) (counted g.S.Store.out c.args.objects.now c.unwrap_or-object.result (c.unwrap_or-object.result ∷ c.args.objects.now.names) c.name.new.self (c.name.ensures ∙ ap (λ x. with_names x (c.unwrap_or-object.result ∷ x.names)) c.push.ensures) c.raise.new.self c.raise.ensures)
    _ refl refl (taken g.S.Store.out c.args.objects.now c.unwrap_or-object.result (c.unwrap_or-object.result ∷ c.args.objects.now.names) c.name.new.self (c.name.ensures ∙ ap (λ x. with_names x (c.unwrap_or-object.result ∷ x.names)) c.push.ensures) c.raise.new.self c.raise.ensures)
