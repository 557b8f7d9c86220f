use Rattle.std.proofs.Common.{◌≡◌, ◌≤◌, length, take}
use Rattle.arc_scope.specs.Views.{local_in}
use Rattle.arc_scope.proofs.scope.Visible.local.Given as goal

-- the last of those that are left is the last of all
abbrev pub invariant-loop-left : goal.invariant-loop-left
invariant-loop-left l = (l.left ≤ length l.self.bound.items) × (local_in (take l.left l.self.bound.items) l.name ≡ local_in l.self.bound.items l.name)

abbrev pub decreases-loop-left : goal.decreases-loop-left
decreases-loop-left l = l.left
