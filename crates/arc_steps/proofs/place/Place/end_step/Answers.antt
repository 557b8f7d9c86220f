use Rattle.std.proofs.Common.{◌≡◌, ◌∙◌, ℤ, Some, None, true, slice_get, refl, sym, ap, subst}
use Rattle.arc_spec.specs.declared.event.Fault.TheVariants.{Depth}
use Rattle.arc_code.specs.declared.instr.Instr.TheVariants.{EndStep}
use Rattle.arc_code.specs.CodeSteps.{program_of}
use Rattle.arc_steps.specs.declared.answer.Answer.TheVariants.{Going, Faulted}
use Rattle.arc_cells.specs.declared.waiting.Waiting.TheVariants.{Clear}
use Rattle.arc_steps.specs.FieldClearing.{LastField}
use Rattle.arc_steps.specs.Places.{Ready, machine_view}
use Rattle.arc_steps.specs.GlobalFieldStores.{ClearsNext}
use Rattle.arc_cells.specs.Words.{Pile}
use Rattle.arc_steps.proofs.NextFieldLastHolder.{last_field, next_some, reported_again, last_short, last_left, last_block, last_level, executed}
use Rattle.arc_steps.proofs.NextFieldClearable.{ready_clearing}
use Rattle.arc_steps.proofs.ClearStepSimulation.{last_faults, last_begins}
use Rattle.arc_steps.proofs.place.Place.end_step.Goals as goal

pub returns-then-not-have_level-clause-went : goal.returns-then-not-have_level-clause-went
returns-then-not-have_level-clause-went g c =
    let out = g.S.Store.out in
    let p = program_of c.args.code.now in
    let now = machine_view c.end_step_soon.new.self c.end_step_soon.new.objects in
    let l = c.in_default.ensures.last in
    let turn = c.silent-then-not-have_level in
    executed out p (machine_view c.args.self.now c.args.objects.now) now now (Faulted Depth) turn.result.answer None turn.result.event c.in_default.ensures.went.1 turn.ensures.answer turn.ensures.event
    (last_faults out p now l.back l.waiter l.object l.left l.waits l.field (sym c.have_level.ensures ∙ c.if-not-have_level.true))

pub next_slot-requires : goal.next_slot-requires
next_slot-requires g c =
    let e = c.in-Some-Clear in
    let out = g.S.Store.out in
    let p = program_of c.args.code.now in
    let m = c.end_step_soon.new.objects in
    let now = machine_view c.end_step_soon.new.self m in
    let frame : slice_get m.frames 0 ≡ Some (Clear e.back e.waiter e.object e.left) = c.last.ensures ∙ e.is ∙ ap Some e.field-0-is in
    let ready : Ready out p EndStep now = subst (λ x. Ready out p EndStep x) (sym c.in_default.ensures.went.1) c.requires.ready in
    ready_clearing out p now e.back e.waiter e.object e.left frame ready

pub unreachable-requires-in_default-next_slot : goal.unreachable-requires-in_default-next_slot
unreachable-requires-in_default-next_slot g c =
    let e = c.in-Some-Clear in
    let out = g.S.Store.out in
    let p = program_of c.args.code.now in
    let m = c.end_step_soon.new.objects in
    let now = machine_view c.end_step_soon.new.self m in
    let frame : slice_get m.frames 0 ≡ Some (Clear e.back e.waiter e.object e.left) = c.last.ensures ∙ e.is ∙ ap Some e.field-0-is in
    let l = last_field out p.classes m c.in_default.ensures.last e.back e.waiter e.object e.left frame in
    c.in_default-next_slot.not-Some l.slot (next_some out p.classes m e.object e.left l c.next_slot.result c.next_slot.ensures)

pub field_name-before-requires-clause-some : goal.field_name-before-requires-clause-some
field_name-before-requires-clause-some g c =
    let e = c.in-Some-Clear in
    let out = g.S.Store.out in
    let p = program_of c.args.code.now in
    let m = c.end_step_soon.new.objects in
    let now = machine_view c.end_step_soon.new.self m in
    let frame : slice_get m.frames 0 ≡ Some (Clear e.back e.waiter e.object e.left) = c.last.ensures ∙ e.is ∙ ap Some e.field-0-is in
    let ready : Ready out p EndStep now = subst (λ x. Ready out p EndStep x) (sym c.in_default.ensures.went.1) c.requires.ready in
    (ready_clearing out p now e.back e.waiter e.object e.left frame ready).some

pub field_name-before-requires-clause-short : goal.field_name-before-requires-clause-short
field_name-before-requires-clause-short g c =
    let e = c.in-Some-Clear in
    let out = g.S.Store.out in
    let p = program_of c.args.code.now in
    let m = c.end_step_soon.new.objects in
    let now = machine_view c.end_step_soon.new.self m in
    let frame : slice_get m.frames 0 ≡ Some (Clear e.back e.waiter e.object e.left) = c.last.ensures ∙ e.is ∙ ap Some e.field-0-is in
    let l = last_field out p.classes m c.in_default.ensures.last e.back e.waiter e.object e.left frame in
    let slot = c.in-Some-next_slot.slot in
    let means : ClearsNext out p.classes m e.object e.left (Some slot) = λ x is. sym c.in-Some-next_slot.is ∙ c.next_slot.ensures x is in
    (last_short out p.classes m e.object e.left l slot means).0

pub field_name-before-requires-clause-field : goal.field_name-before-requires-clause-field
field_name-before-requires-clause-field g c =
    let e = c.in-Some-Clear in
    let out = g.S.Store.out in
    let p = program_of c.args.code.now in
    let m = c.end_step_soon.new.objects in
    let now = machine_view c.end_step_soon.new.self m in
    let frame : slice_get m.frames 0 ≡ Some (Clear e.back e.waiter e.object e.left) = c.last.ensures ∙ e.is ∙ ap Some e.field-0-is in
    let l = last_field out p.classes m c.in_default.ensures.last e.back e.waiter e.object e.left frame in
    let slot = c.in-Some-next_slot.slot in
    let means : ClearsNext out p.classes m e.object e.left (Some slot) = λ x is. sym c.in-Some-next_slot.is ∙ c.next_slot.ensures x is in
    (last_short out p.classes m e.object e.left l slot means).1

pub clear-requires-clause-object : goal.clear-requires-clause-object
clear-requires-clause-object g c =
    let e = c.in-Some-Clear in
    let out = g.S.Store.out in
    let p = program_of c.args.code.now in
    let m = c.end_step_soon.new.objects in
    let now = machine_view c.end_step_soon.new.self m in
    let frame : slice_get m.frames 0 ≡ Some (Clear e.back e.waiter e.object e.left) = c.last.ensures ∙ e.is ∙ ap Some e.field-0-is in
    let ready : Ready out p EndStep now = subst (λ x. Ready out p EndStep x) (sym c.in_default.ensures.went.1) c.requires.ready in
    ready_clearing out p now e.back e.waiter e.object e.left frame ready

pub clear-requires-clause-some : goal.clear-requires-clause-some
clear-requires-clause-some g c =
    let e = c.in-Some-Clear in
    let out = g.S.Store.out in
    let p = program_of c.args.code.now in
    let m = c.end_step_soon.new.objects in
    let now = machine_view c.end_step_soon.new.self m in
    let frame : slice_get m.frames 0 ≡ Some (Clear e.back e.waiter e.object e.left) = c.last.ensures ∙ e.is ∙ ap Some e.field-0-is in
    let l = last_field out p.classes m c.in_default.ensures.last e.back e.waiter e.object e.left frame in
    let ready : Ready out p EndStep now = subst (λ x. Ready out p EndStep x) (sym c.in_default.ensures.went.1) c.requires.ready in
    last_left out p now e.back e.waiter e.object e.left frame ready l

pub clear-requires-clause-slot : goal.clear-requires-clause-slot
clear-requires-clause-slot g c =
    let e = c.in-Some-Clear in
    let out = g.S.Store.out in
    let p = program_of c.args.code.now in
    let m = c.end_step_soon.new.objects in
    let now = machine_view c.end_step_soon.new.self m in
    let frame : slice_get m.frames 0 ≡ Some (Clear e.back e.waiter e.object e.left) = c.last.ensures ∙ e.is ∙ ap Some e.field-0-is in
    let l = last_field out p.classes m c.in_default.ensures.last e.back e.waiter e.object e.left frame in
    let slot = c.in-Some-next_slot.slot in
    let means : ClearsNext out p.classes m e.object e.left (Some slot) = λ x is. sym c.in-Some-next_slot.is ∙ c.next_slot.ensures x is in
    (last_short out p.classes m e.object e.left l slot means).0

pub clear-requires-clause-field : goal.clear-requires-clause-field
clear-requires-clause-field g c =
    let e = c.in-Some-Clear in
    let out = g.S.Store.out in
    let p = program_of c.args.code.now in
    let m = c.end_step_soon.new.objects in
    let now = machine_view c.end_step_soon.new.self m in
    let frame : slice_get m.frames 0 ≡ Some (Clear e.back e.waiter e.object e.left) = c.last.ensures ∙ e.is ∙ ap Some e.field-0-is in
    let l = last_field out p.classes m c.in_default.ensures.last e.back e.waiter e.object e.left frame in
    let slot = c.in-Some-next_slot.slot in
    let means : ClearsNext out p.classes m e.object e.left (Some slot) = λ x is. sym c.in-Some-next_slot.is ∙ c.next_slot.ensures x is in
    (last_short out p.classes m e.object e.left l slot means).1

pub begin_end-requires-clause-some : goal.begin_end-requires-clause-some
begin_end-requires-clause-some g c =
    let e = c.in-Some-Clear in
    let out = g.S.Store.out in
    let p = program_of c.args.code.now in
    let m = c.end_step_soon.new.objects in
    let now = machine_view c.end_step_soon.new.self m in
    let frame : slice_get m.frames 0 ≡ Some (Clear e.back e.waiter e.object e.left) = c.last.ensures ∙ e.is ∙ ap Some e.field-0-is in
    let l = last_field out p.classes m c.in_default.ensures.last e.back e.waiter e.object e.left frame in
    let slot = c.in-Some-next_slot.slot in
    let means : ClearsNext out p.classes m e.object e.left (Some slot) = λ x is. sym c.in-Some-next_slot.is ∙ c.next_slot.ensures x is in
    (reported_again out p.classes m e.object e.left l slot c.field_name-before.result means c.field_name-before.ensures).1.0

pub begin_end-requires-clause-object : goal.begin_end-requires-clause-object
begin_end-requires-clause-object g c =
    let e = c.in-Some-Clear in
    let out = g.S.Store.out in
    let p = program_of c.args.code.now in
    let m = c.end_step_soon.new.objects in
    let now = machine_view c.end_step_soon.new.self m in
    let frame : slice_get m.frames 0 ≡ Some (Clear e.back e.waiter e.object e.left) = c.last.ensures ∙ e.is ∙ ap Some e.field-0-is in
    let l = last_field out p.classes m c.in_default.ensures.last e.back e.waiter e.object e.left frame in
    let ready : Ready out p EndStep now = subst (λ x. Ready out p EndStep x) (sym c.in_default.ensures.went.1) c.requires.ready in
    let slot = c.in-Some-next_slot.slot in
    let means : ClearsNext out p.classes m e.object e.left (Some slot) = λ x is. sym c.in-Some-next_slot.is ∙ c.next_slot.ensures x is in
    let all_decoded = reported_again out p.classes m e.object e.left l slot c.field_name-before.result means c.field_name-before.ensures in
    let last : LastField out p.classes m e.object e.left = record { slot = slot; next = means; name = c.field_name-before.result; named = all_decoded.0; last = all_decoded.1 } in
    last_block out p now e.back e.waiter e.object e.left frame ready last c.clear.new.objects c.clear.ensures

pub returns-clause-went : goal.returns-clause-went
returns-clause-went g c =
    let e = c.in-Some-Clear in
    let out = g.S.Store.out in
    let p = program_of c.args.code.now in
    let m = c.end_step_soon.new.objects in
    let now = machine_view c.end_step_soon.new.self m in
    let frame : slice_get m.frames 0 ≡ Some (Clear e.back e.waiter e.object e.left) = c.last.ensures ∙ e.is ∙ ap Some e.field-0-is in
    let l = last_field out p.classes m c.in_default.ensures.last e.back e.waiter e.object e.left frame in
    let ready : Ready out p EndStep now = subst (λ x. Ready out p EndStep x) (sym c.in_default.ensures.went.1) c.requires.ready in
    let slot = c.in-Some-next_slot.slot in
    let means : ClearsNext out p.classes m e.object e.left (Some slot) = λ x is. sym c.in-Some-next_slot.is ∙ c.next_slot.ensures x is in
    let all_decoded = reported_again out p.classes m e.object e.left l slot c.field_name-before.result means c.field_name-before.ensures in
    let last : LastField out p.classes m e.object e.left = record { slot = slot; next = means; name = c.field_name-before.result; named = all_decoded.0; last = all_decoded.1 } in
    let mid = c.clear.new.objects in
    let new = machine_view c.begin_end.new.self c.begin_end.new.objects in
    let turn = c.begin_end in
    let level = last_level out p now e.back e.waiter e.object e.left frame ready last mid c.clear.ensures true (sym c.have_level.ensures ∙ c.if-not-have_level.false) in
    executed out p (machine_view c.args.self.now c.args.objects.now) now new Going turn.result.answer turn.result.event turn.result.event c.in_default.ensures.went.1 turn.ensures.answer refl
    (last_begins out p now e.back e.waiter e.object e.left frame last mid c.clear.ensures level new turn.result.event turn.ensures.at (ap (λ (x : Pile ℤ). x.items) turn.ensures.stack) turn.ensures.begins)
