use Rattle.std.proofs.Common.{refl, ap, ◌∙◌, slice_get}
use Rattle.arc_checked.specs.Checked.{program_of}
use Rattle.arc_spec.specs.Classes.{classes_of, field_counts}
use Rattle.arc_plain.specs.Views.{world, deeper}
use Rattle.arc_plain.proofs.ObjectsReported.{make_reported}
use Rattle.arc_plain.proofs.LoopsAndFailures.{level_classes}
use Rattle.arc_plain.proofs.object.make.Goals as goal

pub returns : goal.returns
returns c =
    let context = c.args.context.now in
    make_reported (deeper context) (classes_of context.program.now.classes.items) c.args.class c.in-Some.class c.field_counts-counts.result c.len-number.result (world c.args.progress.now)
    c.args.progress.now.objects.items c.push.new.self.items c.in_ok-object.object c.take.result (world c.take.new.progress)
    (level_classes (program_of context.program.now) context.bound context.levels) c.in-Some.is refl
    (c.field_counts-counts.ensures ∙ ap (λ l. field_counts (slice_get (classes_of l) c.in-Some.class)) c.deref.ensures.value)
    c.in_ok-object.ensures c.in_ok-push.ensures.items (c.len-number.ensures ∙ c.push.new.self.ok.0) c.take.ensures
