use Rattle.std.proofs.Common.{◌≡◌, ◌+◌, [], Ok, None, ◌++◌, take, drop, refl, ap, ◌∙◌, subst}
use Rattle.arc_code.specs.declared.instr.Instr.TheVariants.{StoreField}
use Rattle.arc_code.specs.CodeSteps.{program_of}
use Rattle.arc_steps.specs.declared.answer.Answer.TheVariants.{Going}
use Rattle.arc_cells.specs.Representation.{with_names}
use Rattle.arc_steps.specs.Places.{Executes, machine_view}
use Rattle.arc_steps.specs.GlobalFieldStores.{Replaces}
use Rattle.arc_steps.proofs.FieldStoreSimulation.{store_ready, store_fault, store_none, slot_ready, replace_ready, field_stays, soon_went, last_stored}
use Rattle.arc_steps.proofs.place.Place.store_field_soon.Goals as goal
use Rattle.arc_steps.proofs.place.Place.store_field_soon.Goals.{in-Ok-Some+else-not-replace, in-Ok-None}

pub find_field-requires : goal.find_field-requires
find_field-requires g c = record {
  end = c.requires.end;
  ready = store_ready g.S.Store.out (program_of c.args.code.now) (machine_view c.args.self.now c.args.objects.now) c.args.class c.args.index c.requires.ready;
}

pub returns-in-Err-clause-went : goal.returns-in-Err-clause-went
returns-in-Err-clause-went g c = store_fault g.S.Store.out (program_of c.args.code.now) (machine_view c.args.self.now c.args.objects.now) c.args.class c.args.index c.find_field.result c.in-Err.fault c.find_field.ensures c.in-Err.is

pub field_name-before-requires-clause-short : goal.field_name-before-requires-clause-short
field_name-before-requires-clause-short g c =
    (slot_ready g.S.Store.out (program_of c.args.code.now) (machine_view c.args.self.now c.args.objects.now) c.args.class c.args.index c.reference_below-holder.result c.reference-object.result c.in-Ok-Some.slot c.reference_below-holder.ensures c.reference-object.ensures c.find_field.result c.find_field.ensures (c.in-Ok-Some.is ∙ ap Ok c.in-Ok-Some.field-0-is) c.requires.ready).0

pub field_name-before-requires-clause-field : goal.field_name-before-requires-clause-field
field_name-before-requires-clause-field g c =
    (slot_ready g.S.Store.out (program_of c.args.code.now) (machine_view c.args.self.now c.args.objects.now) c.args.class c.args.index c.reference_below-holder.result c.reference-object.result c.in-Ok-Some.slot c.reference_below-holder.ensures c.reference-object.ensures c.find_field.result c.find_field.ensures (c.in-Ok-Some.is ∙ ap Ok c.in-Ok-Some.field-0-is) c.requires.ready).1

pub replace-requires : goal.replace-requires
replace-requires g c = record {
  can = replace_ready g.S.Store.out (program_of c.args.code.now) (machine_view c.args.self.now c.args.objects.now) c.args.class c.args.index c.reference_below-holder.result c.reference-object.result c.in-Ok-Some.slot c.reference_below-holder.ensures c.reference-object.ensures c.find_field.result c.find_field.ensures (c.in-Ok-Some.is ∙ ap Ok c.in-Ok-Some.field-0-is)
      c.field_name-before.result c.field_name-before.ensures c.requires.few;
}

pub returns-then-not-replace-clause-last : goal.returns-then-not-replace-clause-last
returns-then-not-replace-clause-last g c =
    let kept = subst (λ b. Replaces g.S.Store.out c.args.objects.now c.replace.new.objects c.field_name-before.result c.reference-object.result b) (c.if-not-replace.true) c.replace.ensures in
    last_stored g.S.Store.out (program_of c.args.code.now) (machine_view c.args.self.now c.args.objects.now) c.args.class c.args.index c.reference_below-holder.result c.reference-object.result c.in-Ok-Some.slot c.reference_below-holder.ensures c.reference-object.ensures c.find_field.result c.find_field.ensures (c.in-Ok-Some.is ∙ ap Ok c.in-Ok-Some.field-0-is)
    c.field_name-before.result c.field_name-before.ensures kept.1 kept.2

pub put_field_name-requires-clause-short : goal.put_field_name-requires-clause-short
put_field_name-requires-clause-short g c =
    (slot_ready g.S.Store.out (program_of c.args.code.now) (machine_view c.args.self.now c.args.objects.now) c.args.class c.args.index c.reference_below-holder.result c.reference-object.result c.in-Ok-Some.slot c.reference_below-holder.ensures c.reference-object.ensures c.find_field.result c.find_field.ensures (c.in-Ok-Some.is ∙ ap Ok c.in-Ok-Some.field-0-is) c.requires.ready).0

pub put_field_name-requires-clause-field : goal.put_field_name-requires-clause-field
put_field_name-requires-clause-field g c =
    field_stays g.S.Store.out (program_of c.args.code.now) (machine_view c.args.self.now c.args.objects.now) c.args.class c.args.index c.reference_below-holder.result c.reference-object.result c.in-Ok-Some.slot c.reference_below-holder.ensures c.reference-object.ensures c.find_field.result c.find_field.ensures (c.in-Ok-Some.is ∙ ap Ok c.in-Ok-Some.field-0-is)
    c.field_name-before.result c.field_name-before.ensures c.requires.few c.replace.new.objects (subst (λ b. Replaces g.S.Store.out c.args.objects.now c.replace.new.objects c.field_name-before.result c.reference-object.result b) (c.if-not-replace.false) c.replace.ensures)

pub returns-clause-went : goal.returns-clause-went
returns-clause-went g c =
    let out = g.S.Store.out in
    let p = program_of c.args.code.now in
    let m = machine_view c.args.self.now c.args.objects.now in
    let new = machine_view (record c.args.self.now { at = c.args.self.now.at + 1 }) c.take_below.new.self in
    elim c.match-this.branch as (λ _. Executes out p (StoreField c.args.class c.args.index) Going [] m new) [
      | in-Ok-Some+else-not-replace w ↦ (
          let kept = subst (λ b. Replaces out c.args.objects.now w.replace.new.objects w.field_name-before.result w.reference-object.result b) w.if-not-replace.false w.replace.ensures in
          soon_went out p m c.args.class c.args.index w.reference_below-holder.result w.reference-object.result _ w.reference_below-holder.ensures w.reference-object.ensures c.find_field.result c.find_field.ensures (cc)
          w.field_name-before.result w.field_name-before.ensures w.replace.new.objects w.put_field_name.new.self kept w.put_field_name.ensures new refl refl
          (c.take_below.ensures ∙ ap (λ x. with_names x (take 1 x.names ++ drop (1 + 1) x.names)) w.objects-is))
      | in-Ok-None w ↦ (
          let none_is : c.find_field.result ≡ Ok None = cc in
          store_none out p m c.args.class c.args.index c.find_field.result c.find_field.ensures none_is new refl refl
          (c.take_below.ensures ∙ ap (λ x. with_names x (take 1 x.names ++ drop (1 + 1) x.names)) w.objects-is))
    ]
