use Rattle.std.proofs.Common.{◌∙◌, ◌-◌, ◌+◌, ap, length}
use Rattle.arc_spec.specs.Classes.{classes_of, superclasses, ancestry_within, strong_counts}
use Rattle.arc_spec.proofs.FieldOrder.{class_more, one_turn_more}
use Rattle.arc_spec.proofs.order.field_order.Goals as goal

pub loop-passed-preserved : goal.loop-passed-preserved
loop-passed-preserved c =
    let all = classes_of c.args.classes.now in
    let turns = length c.args.classes.now in
    let passed = c.loop-passed._passed in
    let layer = c.in-Some.layer in
    let first = ap (λ n. strong_counts all (ancestry_within n (superclasses all) c.loop-passed.next)) (one_turn_more passed turns c.loop-passed-test.true) ∙ c.in-Some.ensures (turns - (passed + 1)) in
    class_more c.loop-passed.order.items c.push_numbers-in-loop-passed.new.numbers.items c.loop-passed.count layer.0 c.lesser-kept.result _ _ first c.lesser-kept.ensures c.in_ok-push_numbers-2.ensures
    ∙ c.loop-passed.invariant
