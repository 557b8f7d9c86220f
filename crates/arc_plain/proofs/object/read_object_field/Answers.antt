use Rattle.std.proofs.Common.{◌≡◌, map, ap, sym, subst, Some, ◌∙◌}
use Rattle.arc_checked.specs.Checked.{program_of}
use Rattle.arc_spec.specs.Classes.{classes_of, descends}
use Rattle.arc_spec.specs.Meaning.{object_field_read}
use Rattle.arc_spec.specs.Objects as objects
use Rattle.arc_spec.specs.Objects.{object_at}
use Rattle.arc_spec.specs.World.{Done, takes, name_at}
use Rattle.arc_plain.specs.Views.{world, deeper, object_of, Reports}
use Rattle.arc_plain.proofs.ObjectsReported.{in_other_class, in_own_class}
use Rattle.arc_plain.proofs.LoopsAndFailures.{level_classes}
use Rattle.arc_plain.proofs.object.read_object_field.Goals as goal

pub returns-then-not-descends_from : goal.returns-then-not-descends_from
returns-then-not-descends_from c =
    let context = c.args.context.now in
    let o = c.in-Some.object.now in
    let w = world c.args.progress.now in
    let go = λ (x : objects.Object). Done (name_at x.strong c.args.index) (takes (name_at x.strong c.args.index) w) in
    in_other_class (deeper context) (classes_of context.program.now.classes.items) c.args.number c.args.class (object_of o) w go
    (level_classes (program_of context.program.now) context.bound context.levels)
    (ap (λ l. object_at (map object_of l) c.args.number) (sym c.deref.ensures.value) ∙ c.in-Some.ensures)
    (ap (λ l. descends (classes_of l) (Some o.class) c.args.class) (sym c.deref-2.ensures.value) ∙ sym c.descends_from.ensures ∙ c.if-not-descends_from.true)

pub returns : goal.returns
returns c =
    let context = c.args.context.now in
    let o = c.in-Some.object.now in
    let w = world c.args.progress.now in
    let after = world c.take.new.progress in
    let go = λ (x : objects.Object). Done (name_at x.strong c.args.index) (takes (name_at x.strong c.args.index) w) in
    let named : c.name_at-named.result ≡ name_at (object_of o).strong c.args.index = c.name_at-named.ensures ∙ ap (λ l. name_at l c.args.index) c.deref-3.ensures.value in
    let meant : object_field_read (deeper context) c.args.number c.args.class c.args.index w ≡ Done c.name_at-named.result (takes c.name_at-named.result w) =
    in_own_class (deeper context) (classes_of context.program.now.classes.items) c.args.number c.args.class (object_of o) w go
    (level_classes (program_of context.program.now) context.bound context.levels)
    (ap (λ l. object_at (map object_of l) c.args.number) (sym c.deref.ensures.value) ∙ c.in-Some.ensures)
    (ap (λ l. descends (classes_of l) (Some o.class) c.args.class) (sym c.deref-2.ensures.value) ∙ sym c.descends_from.ensures ∙ c.if-not-descends_from.false)
    ∙ ap (λ n. Done n (takes n w)) (sym named) in
    subst (λ x. Reports (λ n. n) c.take.result x after) (sym meant) c.take.ensures
