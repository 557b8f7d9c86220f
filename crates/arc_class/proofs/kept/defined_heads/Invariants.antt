use Rattle.std.proofs.Common.{◌≡◌, ℕ, List, drop}
use Rattle.arc_ast.specs.declared.tree.Sign.{Sign}
use Rattle.arc_ast.specs.Tree.{implementation_trees}
use Rattle.arc_class.specs.Classes.{first_head, defined}
use Rattle.arc_class.specs.KeptNames.{head_in}
use Rattle.arc_class.proofs.kept.defined_heads.Given as goal
use Rattle.std.specs.Option.{option_or}

-- what is kept and what is first of the rest is first of all
abbrev pub invariant-loop-implementation : goal.invariant-loop-implementation
invariant-loop-implementation l = (sign : Sign) (sought : List ℕ)
    → first_head sign sought (defined (implementation_trees l.implementations)) ≡ option_or (head_in l.map sign sought) (first_head sign sought (defined (implementation_trees (drop l.implementation-index l.implementations))))
