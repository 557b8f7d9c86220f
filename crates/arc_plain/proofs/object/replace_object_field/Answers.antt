use Rattle.std.proofs.Common.{map, ap, sym, Some, ◌∙◌, rules}
use Rattle.std.proofs.lemmas.List.{with_items_is, places}
use Rattle.std.specs.Vec.{with_items}
use Rattle.std.specs.Prelude.{if◌then◌else◌}
use Rattle.arc_checked.specs.Checked.{program_of}
use Rattle.arc_spec.specs.Classes.{classes_of, descends}
use Rattle.arc_spec.specs.Meaning.{field_stores}
use Rattle.arc_spec.specs.Objects.{object_at}
use Rattle.arc_spec.specs.World.{Done, Faulted, name_at}
use Rattle.arc_spec.specs.declared.event.Fault.TheVariants.{Resurrected}
use Rattle.arc_plain.specs.Views.{world, deeper, object_of, field_replaced}
use Rattle.arc_plain.proofs.ObjectsReported.{in_other_class, in_own_class, replaced_reported}
use Rattle.arc_plain.proofs.LoopsAndFailures.{level_classes}
use Rattle.arc_plain.proofs.object.replace_object_field.Goals as goal

pub returns-then-not-descends_from : goal.returns-then-not-descends_from
returns-then-not-descends_from c =
    let context = c.args.context.now in
    let o = c.in-Some.object.now in
    let w = world c.args.progress.now in
    in_other_class (deeper context) (classes_of context.program.now.classes.items) c.args.number c.args.class (object_of o) w (field_replaced c.args.number c.args.index c.args.named w)
    (level_classes (program_of context.program.now) context.bound context.levels)
    (ap (λ l. object_at (map object_of l) c.args.number) (sym c.deref.ensures.value) ∙ c.in-Some.ensures)
    (ap (λ l. descends (classes_of l) (Some o.class) c.args.class) (sym c.deref-2.ensures.value) ∙ sym c.descends_from.ensures ∙ c.if-not-descends_from.true)

pub returns-then-is_emptying : goal.returns-then-is_emptying
returns-then-is_emptying c =
    let context = c.args.context.now in
    let o = c.in-Some.object.now in
    let w = world c.args.progress.now in
    let stored = Done (name_at (object_of o).strong c.args.index) (field_stores c.args.number (object_of o) c.args.index c.args.named w) in
    in_own_class (deeper context) (classes_of context.program.now.classes.items) c.args.number c.args.class (object_of o) w (field_replaced c.args.number c.args.index c.args.named w)
    (level_classes (program_of context.program.now) context.bound context.levels)
    (ap (λ l. object_at (map object_of l) c.args.number) (sym c.deref.ensures.value) ∙ c.in-Some.ensures)
    (ap (λ l. descends (classes_of l) (Some o.class) c.args.class) (sym c.deref-2.ensures.value) ∙ sym c.descends_from.ensures ∙ c.if-not-descends_from.false)
    ∙ ap (λ b. if b then Faulted Resurrected w else stored) (sym c.is_emptying.ensures ∙ c.if-is_emptying.true)

pub returns : goal.returns
returns c =
    let context = c.args.context.now in
    let o = c.in-Some.object.now in
    replaced_reported (deeper context) (classes_of context.program.now.classes.items) c.args.number c.args.class c.args.index c.args.named (object_of o) (world c.args.progress.now)
    (map object_of c.deref_mut.result.now) (map object_of (with_items c.args.progress.now.objects c.replace_field.new.objects).items) c.replace_field.result
    (level_classes (program_of context.program.now) context.bound context.levels)
    (ap (λ l. object_at (map object_of l) c.args.number) (sym c.deref.ensures.value) ∙ c.in-Some.ensures)
    (ap (λ l. descends (classes_of l) (Some o.class) c.args.class) (sym c.deref-2.ensures.value) ∙ sym c.descends_from.ensures ∙ c.if-not-descends_from.false)
    (sym c.is_emptying.ensures ∙ c.if-is_emptying.false)
    (ap (map object_of) c.deref_mut.ensures.value) c.replace_field.ensures.before
    (ap (map object_of) (with_items_is c.args.progress.now.objects c.replace_field.new.objects (search (rules, places))) ∙ c.replace_field.ensures.after)
