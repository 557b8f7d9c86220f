use Rattle.std.proofs.Common.{◌≡◌, ◌+◌, take, sym, ap, ◌∙◌, arith}
use Rattle.arc_spec.specs.HolderCounts.{holders}
use Rattle.arc_steps.proofs.TemporaryDropSteps.{holders_here, holders_else, holders_few}
use Rattle.arc_steps.proofs.dropping.occurrences.Goals as goal
use Rattle.arc_steps.proofs.dropping.occurrences.Goals.{then-temporary-object, else-temporary-object}

pub overflow_add-count : goal.overflow_add-count
overflow_add-count g c =
    let few = holders_few c.args.object c.args.objects.now.places c.loop-depth.depth in
    let is = c.loop-depth.invariant in
    omega (arith, few, is)

pub loop-depth-preserved : goal.loop-depth-preserved
loop-depth-preserved g c =
    let places = c.args.objects.now.places in
    elim c.if-temporary-object.branch as (λ _. c.if-temporary-object.count ≡ holders c.args.object (take (c.loop-depth.depth + 1) places)) [
      | then-temporary-object w ↦ w.count-is ∙ ap (λ n. n + 1) c.loop-depth.invariant ∙ sym (holders_here c.args.object places c.loop-depth.depth c.temporary.result c.temporary.ensures w.if-temporary-object.true)
      | else-temporary-object w ↦ w.count-is ∙ c.loop-depth.invariant ∙ sym (holders_else c.args.object places c.loop-depth.depth c.temporary.result c.temporary.ensures w.if-temporary-object.false)
    ]
