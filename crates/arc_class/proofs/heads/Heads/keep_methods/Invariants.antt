use Rattle.std.proofs.Common.{◌≡◌, ℕ, List, drop}
use Rattle.arc_ast.specs.declared.tree.Sign.{Sign}
use Rattle.arc_ast.specs.Tree.{method_trees}
use Rattle.arc_class.specs.Classes.{heads, first_head}
use Rattle.arc_class.specs.KeptNames.{head_in}
use Rattle.arc_class.proofs.heads.Heads.keep_methods.Given as goal
use Rattle.std.specs.Option.{option_or}

-- what is kept and what is first of the rest is first of all
abbrev pub invariant-loop-method : goal.invariant-loop-method
invariant-loop-method l = (sign : Sign) (sought : List ℕ) → option_or (head_in l.initial.self sign sought) (first_head sign sought (heads (method_trees l.methods))) ≡ option_or (head_in l.self sign sought) (first_head sign sought (heads (method_trees (drop l.method-index l.methods))))
