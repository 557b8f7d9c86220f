use Rattle.std.proofs.Common.{◌∷◌, ap, refl, ◌∙◌, length, arith, ◌<◌, ◌-◌, ◌^◌, subst}
use Rattle.arc_code.specs.declared.instr.Op.TheVariants.{ReadRef}
use Rattle.arc_code.specs.declared.instr.Instr.TheVariants.{Plain}
use Rattle.arc_code.specs.CodeSteps.{program_of}
use Rattle.arc_heap.specs.Blocks.{Blocks}
use Rattle.arc_cells.specs.Cells.{Cell, IsCell}
use Rattle.arc_cells.specs.Representation.{NamesBlock, with_names}
use Rattle.arc_steps.specs.Places.{machine_view}
use Rattle.arc_steps.proofs.ReferenceSimulation.{taking_needs, taking_went, variable_taking, variable_there}
use Rattle.arc_steps.proofs.TakeCommutesWithCount.{same_blocks, without, counted, taken}
use Rattle.arc_steps.proofs.place.Place.read_variable.Goals as goal

pub variable-object-requires : goal.variable-object-requires
variable-object-requires g c = variable_there g.S.Store.out (program_of c.args.code.now) (machine_view c.args.self.now c.args.objects.now) c.args.variable c.requires.ready

pub raise-requires-clause-object : goal.raise-requires-clause-object
raise-requires-clause-object g c = subst (λ (b : Blocks). NamesBlock b c.variable-object.result) (same_blocks g.S.Store.out c.args.objects.now c.variable-object.result (c.variable-object.result ∷ c.args.objects.now.names) c.name.new.self (c.name.ensures ∙ ap (λ x. with_names x (c.variable-object.result ∷ x.names)) c.push.ensures))
    (taking_needs g.S.Store.out (program_of c.args.code.now) (machine_view c.args.self.now c.args.objects.now) (Plain (ReadRef c.args.variable)) c.variable-object.result (c.variable-object.result ∷ c.args.objects.now.names) (variable_taking g.S.Store.out (program_of c.args.code.now) (machine_view c.args.self.now c.args.objects.now) c.args.variable _ c.variable-object.ensures) c.requires.few (omega arith)).0

pub raise-requires-clause-fits : goal.raise-requires-clause-fits
raise-requires-clause-fits g c = subst (λ (b : Blocks). 0 < c.variable-object.result → (cell : Cell) → IsCell b c.variable-object.result cell → cell.count < 2 ^ 64 - 1) (same_blocks g.S.Store.out c.args.objects.now c.variable-object.result (c.variable-object.result ∷ c.args.objects.now.names) c.name.new.self (c.name.ensures ∙ ap (λ x. with_names x (c.variable-object.result ∷ x.names)) c.push.ensures))
    (taking_needs g.S.Store.out (program_of c.args.code.now) (machine_view c.args.self.now c.args.objects.now) (Plain (ReadRef c.args.variable)) c.variable-object.result (c.variable-object.result ∷ c.args.objects.now.names) (variable_taking g.S.Store.out (program_of c.args.code.now) (machine_view c.args.self.now c.args.objects.now) c.args.variable _ c.variable-object.ensures) c.requires.few (omega arith)).1

pub push-requires-clause-few : goal.push-requires-clause-few
push-requires-clause-few g c = (taking_needs g.S.Store.out (program_of c.args.code.now) (machine_view c.args.self.now c.args.objects.now) (Plain (ReadRef c.args.variable)) c.variable-object.result (c.variable-object.result ∷ c.args.objects.now.names) (variable_taking g.S.Store.out (program_of c.args.code.now) (machine_view c.args.self.now c.args.objects.now) c.args.variable _ c.variable-object.ensures) c.requires.few (omega arith)).2

pub push-requires-clause-room : goal.push-requires-clause-room
push-requires-clause-room g c =
    let few = (taking_needs g.S.Store.out (program_of c.args.code.now) (machine_view c.args.self.now c.args.objects.now) (Plain (ReadRef c.args.variable)) c.variable-object.result (c.variable-object.result ∷ c.args.objects.now.names) (variable_taking g.S.Store.out (program_of c.args.code.now) (machine_view c.args.self.now c.args.objects.now) c.args.variable _ c.variable-object.ensures) c.requires.few (omega arith)).3 in
    omega (arith, few, c.requires.places.places)

pub name-requires : goal.name-requires
name-requires g c =
    let few = (taking_needs g.S.Store.out (program_of c.args.code.now) (machine_view c.args.self.now c.args.objects.now) (Plain (ReadRef c.args.variable)) c.variable-object.result (c.variable-object.result ∷ c.args.objects.now.names) (variable_taking g.S.Store.out (program_of c.args.code.now) (machine_view c.args.self.now c.args.objects.now) c.args.variable _ c.variable-object.ensures) c.requires.few (omega arith)).4 in
    let same = ap (λ x. length x.names) c.push.ensures in
    let room = ap (λ x. x.names_room) c.push.ensures in
    omega (arith, few, same, room, c.requires.places.names)

pub returns-clause-went : goal.returns-clause-went
returns-clause-went g c = taking_went g.S.Store.out (program_of c.args.code.now) (machine_view c.args.self.now c.args.objects.now) (Plain (ReadRef c.args.variable)) c.variable-object.result (c.variable-object.result ∷ c.args.objects.now.names) (variable_taking g.S.Store.out (program_of c.args.code.now) (machine_view c.args.self.now c.args.objects.now) c.args.variable _ c.variable-object.ensures)
    (without g.S.Store.out c.args.objects.now c.variable-object.result (c.variable-object.result ∷ c.args.objects.now.names) c.name.new.self (c.name.ensures ∙ ap (λ x. with_names x (c.variable-object.result ∷ x.names)) c.push.ensures) c.raise.new.self c.raise.ensures) (counted g.S.Store.out c.args.objects.now c.variable-object.result (c.variable-object.result ∷ c.args.objects.now.names) c.name.new.self (c.name.ensures ∙ ap (λ x. with_names x (c.variable-object.result ∷ x.names)) c.push.ensures) c.raise.new.self c.raise.ensures)
    _ refl refl (taken g.S.Store.out c.args.objects.now c.variable-object.result (c.variable-object.result ∷ c.args.objects.now.names) c.name.new.self (c.name.ensures ∙ ap (λ x. with_names x (c.variable-object.result ∷ x.names)) c.push.ensures) c.raise.new.self c.raise.ensures)
