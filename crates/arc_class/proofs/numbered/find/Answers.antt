use Rattle.std.proofs.Common.{◌≡◌, ◌+◌, ◌-◌, ◌/◌, ◌∙◌, ap, sym}
use Rattle.arc_class.specs.NumberMaps.{node_at, side, at_number}
use Rattle.arc_class.proofs.NumberMapUpdates.{level_turn, level_end}
use Rattle.arc_class.proofs.numbered.find.Goals as goal

pub loop-level-preserved : goal.loop-level-preserved
loop-level-preserved c =
    let levels = c.args.levels in
    let nodes = c.args.nodes.now in
    let k = c.loop-level._level in
    let left = c.loop-level.left in
    let next : side (node_at nodes c.loop-level.at) left ≡ c.side-at.result = ap (λ node. side node left) (sym c.node_at.ensures) ∙ sym c.side-at.ensures in
    c.loop-level.invariant ∙ level_turn levels k nodes c.loop-level.at left c.loop-level-test.true ∙ ap (λ at. at_number (levels - (k + 1)) nodes at (left / 2)) next

pub returns : goal.returns
returns c = sym (c.loop-level.invariant ∙ level_end c.args.levels c.loop-level._level c.args.nodes.now c.loop-level.at c.loop-level.left c.loop-level-test.false)
