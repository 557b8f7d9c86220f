use Rattle.std.proofs.Common.{◌≡◌, drop, reverse}
use Rattle.arc_checked.specs.Checked.{program_of}
use Rattle.arc_lower.specs.PlainActions.{plain_actions}
use Rattle.arc_lower.specs.Heights.{walk, walk_heights, heights, greatest}
use Rattle.arc_lower.proofs.height.greatest.Given as goal

abbrev pub invariant-loop-action : goal.invariant-loop-action
invariant-loop-action l =
    greatest (walk_heights (program_of l.program) l.base (walk l.height (reverse l.pending.items)) (plain_actions (drop l.action-index l.actions))) l.most
    ≡ greatest (heights (program_of l.program) l.base l.fn.first (plain_actions l.actions)) l.fn.so_far
