use Rattle.std.proofs.Common.{Ok, sym, ap, ◌∙◌, subst}
use Rattle.arc_spec.specs.declared.event.Fault.TheVariants.{Depth}
use Rattle.arc_code.specs.declared.instr.Instr.TheVariants.{StoreField}
use Rattle.arc_code.specs.CodeSteps.{program_of}
use Rattle.arc_steps.specs.declared.answer.Answer.TheVariants.{Faulted}
use Rattle.arc_steps.specs.Places.{Executes, machine_view, shown}
use Rattle.arc_steps.proofs.FieldStoreSimulation.{after_depth, after_ready, found_slot, after_slot, after_block, after_few, after_field, after_end, after_ended}
use Rattle.arc_steps.proofs.place.Place.store_field.Goals as goal
use Rattle.arc_steps.proofs.place.Place.store_field.Goals.{in_default-find_field-via-in-Ok+in_default, in_default-find_field-via-in_default}

pub returns-then-not-have_level-clause-went : goal.returns-then-not-have_level-clause-went
returns-then-not-have_level-clause-went g c =
    let out = g.S.Store.out in
    let p = program_of c.args.code.now in
    let old = machine_view c.args.self.now c.args.objects.now in
    let m = machine_view c.store_field_soon.new.self c.store_field_soon.new.objects in
    let depth = after_depth out p old m c.args.class c.args.index c.in_default.ensures.went.1 c.requires.few c.in_default.ensures.last (sym c.have_level.ensures ∙ c.if-not-have_level.true) in
    let said = c.silent-then-not-have_level.ensures in
    subst (λ a. Executes out p (StoreField c.args.class c.args.index) a (shown c.silent-then-not-have_level.result.event) old m) (sym said.answer)
    (subst (λ e. Executes out p (StoreField c.args.class c.args.index) (Faulted Depth) (shown e) old m) (sym said.event) depth)

pub find_field-requires : goal.find_field-requires
find_field-requires g c = record {
  end = c.requires.end;
  ready = after_ready g.S.Store.out (program_of c.args.code.now) (machine_view c.args.self.now c.args.objects.now) (machine_view c.store_field_soon.new.self c.store_field_soon.new.objects) c.args.class c.args.index c.in_default.ensures.went.1 c.requires.few c.in_default.ensures.last;
}

pub unreachable-requires : goal.unreachable-requires
unreachable-requires g c =
    let f = found_slot g.S.Store.out (program_of c.args.code.now) (machine_view c.args.self.now c.args.objects.now) (machine_view c.store_field_soon.new.self c.store_field_soon.new.objects) c.args.class c.args.index c.in_default.ensures.went.1 c.requires.few c.in_default.ensures.last c.find_field.result c.find_field.ensures in
    elim c.in_default-find_field.branch [
      | in_default-find_field-via-in-Ok+in_default w ↦ (let same = sym w.in_default-find_field.is ∙ f.1 in cc)
      | in_default-find_field-via-in_default w ↦ (let both = sym w.in_default-find_field.is ∙ f.1 in cc)
    ]

pub field_name-before-requires-clause-short : goal.field_name-before-requires-clause-short
field_name-before-requires-clause-short g c =
    (after_slot g.S.Store.out (program_of c.args.code.now) (machine_view c.args.self.now c.args.objects.now) (machine_view c.store_field_soon.new.self c.store_field_soon.new.objects) c.args.class c.args.index c.in_default.ensures.went.1 c.requires.few c.in_default.ensures.last
    c.reference_below-holder.result c.reference-object.result c.in-Ok-Some.slot c.reference_below-holder.ensures c.reference-object.ensures c.find_field.result c.find_field.ensures (c.in-Ok-Some.is ∙ ap Ok c.in-Ok-Some.field-0-is)).0

pub field_name-before-requires-clause-field : goal.field_name-before-requires-clause-field
field_name-before-requires-clause-field g c =
    (after_slot g.S.Store.out (program_of c.args.code.now) (machine_view c.args.self.now c.args.objects.now) (machine_view c.store_field_soon.new.self c.store_field_soon.new.objects) c.args.class c.args.index c.in_default.ensures.went.1 c.requires.few c.in_default.ensures.last
    c.reference_below-holder.result c.reference-object.result c.in-Ok-Some.slot c.reference_below-holder.ensures c.reference-object.ensures c.find_field.result c.find_field.ensures (c.in-Ok-Some.is ∙ ap Ok c.in-Ok-Some.field-0-is)).1

pub raise-requires-clause-object : goal.raise-requires-clause-object
raise-requires-clause-object g c =
    after_block g.S.Store.out (program_of c.args.code.now) (machine_view c.args.self.now c.args.objects.now) (machine_view c.store_field_soon.new.self c.store_field_soon.new.objects) c.args.class c.args.index c.in_default.ensures.went.1 c.requires.few c.in_default.ensures.last
    c.reference_below-holder.result c.reference-object.result c.in-Ok-Some.slot c.reference_below-holder.ensures c.reference-object.ensures c.find_field.result c.find_field.ensures (c.in-Ok-Some.is ∙ ap Ok c.in-Ok-Some.field-0-is) c.field_name-before.result c.field_name-before.ensures

pub raise-requires-clause-fits : goal.raise-requires-clause-fits
raise-requires-clause-fits g c =
    after_few g.S.Store.out (program_of c.args.code.now) (machine_view c.args.self.now c.args.objects.now) (machine_view c.store_field_soon.new.self c.store_field_soon.new.objects) c.args.class c.args.index c.in_default.ensures.went.1 c.requires.few c.in_default.ensures.last
    c.reference_below-holder.result c.reference-object.result c.in-Ok-Some.slot c.reference_below-holder.ensures c.reference-object.ensures c.find_field.result c.find_field.ensures (c.in-Ok-Some.is ∙ ap Ok c.in-Ok-Some.field-0-is) c.field_name-before.result c.field_name-before.ensures

pub put_field_name-requires-clause-short : goal.put_field_name-requires-clause-short
put_field_name-requires-clause-short g c =
    (after_slot g.S.Store.out (program_of c.args.code.now) (machine_view c.args.self.now c.args.objects.now) (machine_view c.store_field_soon.new.self c.store_field_soon.new.objects) c.args.class c.args.index c.in_default.ensures.went.1 c.requires.few c.in_default.ensures.last
    c.reference_below-holder.result c.reference-object.result c.in-Ok-Some.slot c.reference_below-holder.ensures c.reference-object.ensures c.find_field.result c.find_field.ensures (c.in-Ok-Some.is ∙ ap Ok c.in-Ok-Some.field-0-is)).0

pub put_field_name-requires-clause-field : goal.put_field_name-requires-clause-field
put_field_name-requires-clause-field g c =
    after_field g.S.Store.out (program_of c.args.code.now) (machine_view c.args.self.now c.args.objects.now) (machine_view c.store_field_soon.new.self c.store_field_soon.new.objects) c.args.class c.args.index c.in_default.ensures.went.1 c.requires.few c.in_default.ensures.last
    c.reference_below-holder.result c.reference-object.result c.in-Ok-Some.slot c.reference_below-holder.ensures c.reference-object.ensures c.find_field.result c.find_field.ensures (c.in-Ok-Some.is ∙ ap Ok c.in-Ok-Some.field-0-is) c.field_name-before.result c.field_name-before.ensures c.raise.new.self c.raise.ensures

pub begin_end-requires-clause-some : goal.begin_end-requires-clause-some
begin_end-requires-clause-some g c =
    (after_end g.S.Store.out (program_of c.args.code.now) (machine_view c.args.self.now c.args.objects.now) (machine_view c.store_field_soon.new.self c.store_field_soon.new.objects) c.args.class c.args.index c.in_default.ensures.went.1 c.requires.few c.in_default.ensures.last
    c.reference_below-holder.result c.reference-object.result c.in-Ok-Some.slot c.reference_below-holder.ensures c.reference-object.ensures c.find_field.result c.find_field.ensures (c.in-Ok-Some.is ∙ ap Ok c.in-Ok-Some.field-0-is) c.field_name-before.result c.field_name-before.ensures c.raise.new.self c.raise.ensures
    c.put_field_name.new.self c.put_field_name.ensures c.take_below.new.self c.take_below.ensures).0

pub begin_end-requires-clause-object : goal.begin_end-requires-clause-object
begin_end-requires-clause-object g c =
    (after_end g.S.Store.out (program_of c.args.code.now) (machine_view c.args.self.now c.args.objects.now) (machine_view c.store_field_soon.new.self c.store_field_soon.new.objects) c.args.class c.args.index c.in_default.ensures.went.1 c.requires.few c.in_default.ensures.last
    c.reference_below-holder.result c.reference-object.result c.in-Ok-Some.slot c.reference_below-holder.ensures c.reference-object.ensures c.find_field.result c.find_field.ensures (c.in-Ok-Some.is ∙ ap Ok c.in-Ok-Some.field-0-is) c.field_name-before.result c.field_name-before.ensures c.raise.new.self c.raise.ensures
    c.put_field_name.new.self c.put_field_name.ensures c.take_below.new.self c.take_below.ensures).1

pub returns-clause-went : goal.returns-clause-went
returns-clause-went g c =
    after_ended g.S.Store.out (program_of c.args.code.now) (machine_view c.args.self.now c.args.objects.now) (machine_view c.store_field_soon.new.self c.store_field_soon.new.objects) c.args.class c.args.index c.in_default.ensures.went.1 c.requires.few c.in_default.ensures.last
    c.reference_below-holder.result c.reference-object.result c.in-Ok-Some.slot c.reference_below-holder.ensures c.reference-object.ensures c.find_field.result c.find_field.ensures (c.in-Ok-Some.is ∙ ap Ok c.in-Ok-Some.field-0-is) c.field_name-before.result c.field_name-before.ensures c.raise.new.self c.raise.ensures
    c.put_field_name.new.self c.put_field_name.ensures c.take_below.new.self c.take_below.ensures (machine_view c.begin_end.new.self c.begin_end.new.objects) c.begin_end.result.answer c.begin_end.result.event (sym c.have_level.ensures ∙ c.if-not-have_level.false)
    c.begin_end.ensures.answer c.begin_end.ensures.at (ap (λ x. x.items) c.begin_end.ensures.stack) c.begin_end.ensures.begins
