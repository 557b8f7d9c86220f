use Rattle.std.proofs.Common.{◌≡◌, drop}
use Rattle.arc_ast.specs.Tree.{head_trees}
use Rattle.arc_class.specs.Classes.{with_selectors}
use Rattle.arc_class.specs.Table.{names_of}
use Rattle.arc_class.proofs.building.add_heads.Given as goal

-- those so far with the rest are all
abbrev pub invariant-loop-head : goal.invariant-loop-head
invariant-loop-head l = with_selectors (names_of l.initial.names.keys) (head_trees l.heads) ≡ with_selectors (names_of l.names.keys) (head_trees (drop l.head-index l.heads))
