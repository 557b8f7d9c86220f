use Rattle.std.proofs.Common.{◌≡◌, ℕ, List, drop}
use Rattle.arc_ast.specs.declared.tree.Sign.{Sign}
use Rattle.arc_ast.specs.Tree.{interface_trees}
use Rattle.arc_class.specs.Classes.{first_head, declared}
use Rattle.arc_class.specs.KeptNames.{head_in}
use Rattle.arc_class.proofs.kept.declared_heads.Given as goal
use Rattle.std.specs.Option.{option_or}

-- what is kept and what is first of the rest is first of all
abbrev pub invariant-loop-interface : goal.invariant-loop-interface
invariant-loop-interface l = (sign : Sign) (sought : List ℕ)
    → first_head sign sought (declared (interface_trees l.interfaces)) ≡ option_or (head_in l.map sign sought) (first_head sign sought (declared (interface_trees (drop l.interface-index l.interfaces))))
