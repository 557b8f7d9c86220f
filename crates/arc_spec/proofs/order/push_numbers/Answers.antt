use Rattle.std.proofs.Common.{refl, sym, ◌∙◌}
use Rattle.arc_spec.proofs.FieldOrder.{one_more, none_left}
use Rattle.arc_spec.proofs.order.push_numbers.Goals as goal

pub loop-number-init : goal.loop-number-init
loop-number-init c = refl

pub loop-number-preserved : goal.loop-number-preserved
loop-number-preserved c =
    one_more c.loop-number.numbers.items c.push.new.self.items c.loop-number.number c.args.last c.loop-number-test.true (c.in_ok-push.ensures.items) ∙ c.loop-number.invariant

pub returns : goal.returns
returns c = sym (none_left c.loop-number.numbers.items c.loop-number.number c.args.last c.loop-number-test.false) ∙ c.loop-number.invariant
