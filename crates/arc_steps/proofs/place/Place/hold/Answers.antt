use Rattle.std.proofs.Common.{refl, arith, ◌<◌, ◌-◌, ◌^◌, subst}
use Rattle.arc_code.specs.declared.instr.Op.TheVariants.{Hold}
use Rattle.arc_code.specs.declared.instr.Instr.TheVariants.{Plain}
use Rattle.arc_code.specs.CodeSteps.{program_of}
use Rattle.arc_heap.specs.Blocks.{Blocks}
use Rattle.arc_cells.specs.Cells.{Cell, IsCell}
use Rattle.arc_cells.specs.Representation.{NamesBlock}
use Rattle.arc_steps.specs.Places.{machine_view}
use Rattle.arc_steps.proofs.ReferenceSimulation.{hold_reference, reference_taking, taking_needs, taking_went}
use Rattle.arc_steps.proofs.TakeCommutesWithCount.{same_blocks, without, counted, taken}
use Rattle.arc_steps.proofs.place.Place.hold.Goals as goal

pub reference-object-requires : goal.reference-object-requires
reference-object-requires g c = hold_reference g.S.Store.out (program_of c.args.code.now) (machine_view c.args.self.now c.args.objects.now) c.requires.ready

pub raise-requires-clause-object : goal.raise-requires-clause-object
raise-requires-clause-object g c = subst (λ (b : Blocks). NamesBlock b c.reference-object.result) (same_blocks g.S.Store.out c.args.objects.now c.reference-object.result c.args.objects.now.names c.push.new.self c.push.ensures)
    (taking_needs g.S.Store.out (program_of c.args.code.now) (machine_view c.args.self.now c.args.objects.now) (Plain Hold) c.reference-object.result c.args.objects.now.names (reference_taking g.S.Store.out (program_of c.args.code.now) (machine_view c.args.self.now c.args.objects.now) _ c.reference-object.ensures) c.requires.few (omega arith)).0

pub raise-requires-clause-fits : goal.raise-requires-clause-fits
raise-requires-clause-fits g c = subst (λ (b : Blocks). 0 < c.reference-object.result → (cell : Cell) → IsCell b c.reference-object.result cell → cell.count < 2 ^ 64 - 1) (same_blocks g.S.Store.out c.args.objects.now c.reference-object.result c.args.objects.now.names c.push.new.self c.push.ensures)
    (taking_needs g.S.Store.out (program_of c.args.code.now) (machine_view c.args.self.now c.args.objects.now) (Plain Hold) c.reference-object.result c.args.objects.now.names (reference_taking g.S.Store.out (program_of c.args.code.now) (machine_view c.args.self.now c.args.objects.now) _ c.reference-object.ensures) c.requires.few (omega arith)).1

pub push-requires-clause-few : goal.push-requires-clause-few
push-requires-clause-few g c = (taking_needs g.S.Store.out (program_of c.args.code.now) (machine_view c.args.self.now c.args.objects.now) (Plain Hold) c.reference-object.result c.args.objects.now.names (reference_taking g.S.Store.out (program_of c.args.code.now) (machine_view c.args.self.now c.args.objects.now) _ c.reference-object.ensures) c.requires.few (omega arith)).2

pub push-requires-clause-room : goal.push-requires-clause-room
push-requires-clause-room g c =
    let few = (taking_needs g.S.Store.out (program_of c.args.code.now) (machine_view c.args.self.now c.args.objects.now) (Plain Hold) c.reference-object.result c.args.objects.now.names (reference_taking g.S.Store.out (program_of c.args.code.now) (machine_view c.args.self.now c.args.objects.now) _ c.reference-object.ensures) c.requires.few (omega arith)).3 in
    omega (arith, few, c.requires.places.places)

pub returns-clause-went : goal.returns-clause-went
returns-clause-went g c = taking_went g.S.Store.out (program_of c.args.code.now) (machine_view c.args.self.now c.args.objects.now) (Plain Hold) c.reference-object.result c.args.objects.now.names (reference_taking g.S.Store.out (program_of c.args.code.now) (machine_view c.args.self.now c.args.objects.now) _ c.reference-object.ensures)
    (without g.S.Store.out c.args.objects.now c.reference-object.result c.args.objects.now.names c.push.new.self c.push.ensures c.raise.new.self c.raise.ensures) (counted g.S.Store.out c.args.objects.now c.reference-object.result c.args.objects.now.names c.push.new.self c.push.ensures c.raise.new.self c.raise.ensures)
    _ refl refl (taken g.S.Store.out c.args.objects.now c.reference-object.result c.args.objects.now.names c.push.new.self c.push.ensures c.raise.new.self c.raise.ensures)
