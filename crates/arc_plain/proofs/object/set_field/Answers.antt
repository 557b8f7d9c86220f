use Rattle.std.proofs.Common.{◌≡◌, to_z, of_z, w64, map, ap, sym, Some, ◌∙◌, arith, rules}
use Rattle.std.proofs.lemmas.Int.{to_z-of_z}
use Rattle.std.proofs.lemmas.List.{with_items_is, places}
use Rattle.std.specs.Vec.{with_items}
use Rattle.arc_checked.specs.Checked.{program_of}
use Rattle.arc_spec.specs.Classes.{classes_of, descends}
use Rattle.arc_spec.specs.Meaning.{class_in}
use Rattle.arc_spec.specs.Objects.{object_at}
use Rattle.arc_plain.specs.Views.{world, deeper, object_of}
use Rattle.arc_plain.proofs.ObjectsReported.{set_other, set_reported}
use Rattle.arc_plain.proofs.LoopsAndFailures.{level_classes}
use Rattle.arc_plain.proofs.object.set_field.Goals as goal

pub returns-then-not-descends_from : goal.returns-then-not-descends_from
returns-then-not-descends_from c =
    let context = c.args.context.now in
    set_other (deeper context) (classes_of context.program.now.classes.items) c.args.number c.args.class c.args.index c.in-Some.own c.args.value (world c.args.progress.now)
    (level_classes (program_of context.program.now) context.bound context.levels)
    (sym c.in-Some.is ∙ (c.class_of.ensures ∙ ap (λ l. class_in (object_at (map object_of l) c.args.number)) c.deref.ensures.value))
    (ap (λ l. descends (classes_of l) (Some c.in-Some.own) c.args.class) (sym c.deref-2.ensures.value) ∙ sym c.descends_from.ensures ∙ c.if-not-descends_from.true)

pub returns : goal.returns
returns c =
    let context = c.args.context.now in
    let same : to_z w64 (of_z w64 c.args.value) ≡ c.args.value = grind (arith, to_z-of_z) in
    set_reported (deeper context) (classes_of context.program.now.classes.items) c.args.number c.args.class c.args.index c.in-Some.own c.args.value (to_z w64 (of_z w64 c.args.value)) (world c.args.progress.now)
    (map object_of c.deref_mut.result.now) (map object_of (with_items c.args.progress.now.objects c.write_field.new.objects).items)
    (level_classes (program_of context.program.now) context.bound context.levels)
    (sym c.in-Some.is ∙ (c.class_of.ensures ∙ ap (λ l. class_in (object_at (map object_of l) c.args.number)) c.deref.ensures.value))
    (ap (λ l. descends (classes_of l) (Some c.in-Some.own) c.args.class) (sym c.deref-2.ensures.value) ∙ sym c.descends_from.ensures ∙ c.if-not-descends_from.false)
    same (ap (map object_of) c.deref_mut.ensures.value)
    (ap (map object_of) (with_items_is c.args.progress.now.objects c.write_field.new.objects (search (rules, places))) ∙ c.write_field.ensures)
