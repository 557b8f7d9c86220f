use Rattle.std.proofs.Common.{◌≡◌, ℕ, List, drop}
use Rattle.arc_ast.specs.declared.tree.Sign.{Sign}
use Rattle.arc_ast.specs.Tree.{head_trees}
use Rattle.arc_class.specs.Classes.{first_head}
use Rattle.arc_class.specs.KeptNames.{head_in}
use Rattle.arc_class.proofs.heads.Heads.keep_heads.Given as goal
use Rattle.std.specs.Option.{option_or}

-- what is kept and what is first of the rest is first of all
abbrev pub invariant-loop-head : goal.invariant-loop-head
invariant-loop-head l = (sign : Sign) (sought : List ℕ) → option_or (head_in l.initial.self sign sought) (first_head sign sought (head_trees l.heads)) ≡ option_or (head_in l.self sign sought) (first_head sign sought (head_trees (drop l.head-index l.heads)))
