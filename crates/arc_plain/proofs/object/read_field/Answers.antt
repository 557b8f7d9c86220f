use Rattle.std.proofs.Common.{◌≡◌, to_z, of_z, w64, pos, map, length, slice_get, refl, ap, sym, Some, ◌∙◌, arith}
use Rattle.std.specs.Prelude.{slice_index_or}
use Rattle.std.proofs.lemmas.Bool.{ltb-true, ltb-false}
use Rattle.std.proofs.lemmas.Int.{to_z-of_z}
use Rattle.std.proofs.lemmas.List.{get_or_past}
use Rattle.std.proofs.lemmas.Option.{slice_get_read, get_or_from_slice_get}
use Rattle.arc_checked.specs.Checked.{program_of}
use Rattle.arc_spec.specs.Classes.{classes_of, descends}
use Rattle.arc_spec.specs.Objects.{object_at}
use Rattle.arc_plain.specs.Views.{world, deeper, object_of}
use Rattle.arc_plain.proofs.ObjectsReported.{read_other, read_reported}
use Rattle.arc_plain.proofs.LoopsAndFailures.{level_classes}
use Rattle.arc_plain.proofs.object.read_field.Goals as goal

pub returns-then-not-descends_from : goal.returns-then-not-descends_from
returns-then-not-descends_from c =
    let context = c.args.context.now in
    let o = c.in-Some.object.now in
    read_other (deeper context) (classes_of context.program.now.classes.items) c.args.number c.args.class c.args.index (object_of o) (world c.args.progress.now)
    (level_classes (program_of context.program.now) context.bound context.levels)
    (ap (λ l. object_at (map object_of l) c.args.number) (sym c.deref.ensures.value) ∙ c.in-Some.ensures)
    (ap (λ l. descends (classes_of l) (Some o.class) c.args.class) (sym c.deref-2.ensures.value) ∙ sym c.descends_from.ensures ∙ c.if-not-descends_from.true)

pub returns-in-Some-get : goal.returns-in-Some-get
returns-in-Some-get c =
    let context = c.args.context.now in
    let o = c.in-Some.object.now in
    let all = c.deref-3.result.now in
    let field = c.in-Some-get.field.now in
    let same : to_z w64 (of_z w64 field) ≡ field = grind (arith, to_z-of_z) in
    let there : slice_get all c.args.index ≡ Some field =
    slice_get_read all (length all) c.args.index field refl (ltb-true _ _ (sym c.in-Some-get.ensures.lookup.0)) c.in-Some-get.ensures.lookup.1 in
    read_reported (deeper context) (classes_of context.program.now.classes.items) c.args.number c.args.class c.args.index (to_z w64 (of_z w64 field)) (object_of o) (world c.args.progress.now)
    (level_classes (program_of context.program.now) context.bound context.levels)
    (ap (λ l. object_at (map object_of l) c.args.number) (sym c.deref.ensures.value) ∙ c.in-Some.ensures)
    (ap (λ l. descends (classes_of l) (Some o.class) c.args.class) (sym c.deref-2.ensures.value) ∙ sym c.descends_from.ensures ∙ c.if-not-descends_from.false)
    (ap (λ l. slice_index_or l c.args.index (pos 0)) (sym c.deref-3.ensures.value) ∙ get_or_from_slice_get all c.args.index field (pos 0) there ∙ sym same)

pub returns-in-None : goal.returns-in-None
returns-in-None c =
    let context = c.args.context.now in
    let o = c.in-Some.object.now in
    let all = c.deref-3.result.now in
    read_reported (deeper context) (classes_of context.program.now.classes.items) c.args.number c.args.class c.args.index (pos 0) (object_of o) (world c.args.progress.now)
    (level_classes (program_of context.program.now) context.bound context.levels)
    (ap (λ l. object_at (map object_of l) c.args.number) (sym c.deref.ensures.value) ∙ c.in-Some.ensures)
    (ap (λ l. descends (classes_of l) (Some o.class) c.args.class) (sym c.deref-2.ensures.value) ∙ sym c.descends_from.ensures ∙ c.if-not-descends_from.false)
    (ap (λ l. slice_index_or l c.args.index (pos 0)) (sym c.deref-3.ensures.value) ∙ get_or_past all c.args.index (pos 0) (ltb-false _ _ (sym c.in-None.ensures.lookup.0)))
