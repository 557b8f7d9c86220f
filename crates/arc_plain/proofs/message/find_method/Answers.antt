use Rattle.std.proofs.Common.{ap, sym, ◌∙◌, length}
use Rattle.arc_checked.specs.Checked.{program_of}
use Rattle.arc_spec.specs.Classes.{classes_of, lookup}
use Rattle.arc_plain.proofs.LoopsAndFailures.{level_classes}
use Rattle.arc_plain.proofs.message.find_method.Goals as goal

pub returns : goal.returns
returns c =
    let context = c.args.context.now in
    let given = c.args.given.now in
    let all = context.program.now.classes.items in
    let numbers = length given.numbers.items in
    let objects = length given.objects.items in
    c.look_up.ensures ∙ ap (λ l. lookup (classes_of l) c.args.from c.args.sign c.args.selector c.len.result c.len-2.result c.args.wanted) c.deref.ensures.value
    ∙ ap (λ n. lookup (classes_of all) c.args.from c.args.sign c.args.selector n c.len-2.result c.args.wanted) (c.len.ensures ∙ given.numbers.ok.0)
    ∙ ap (λ n. lookup (classes_of all) c.args.from c.args.sign c.args.selector numbers n c.args.wanted) (c.len-2.ensures ∙ given.objects.ok.0)
    ∙ ap (λ l. lookup l c.args.from c.args.sign c.args.selector numbers objects c.args.wanted) (sym (level_classes (program_of context.program.now) context.bound context.levels))
