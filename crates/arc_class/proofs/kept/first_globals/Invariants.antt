use Rattle.std.proofs.Common.{◌≡◌, ℕ, List, drop}
use Rattle.arc_ast.specs.Tree.{InterfaceTree, global_trees}
use Rattle.arc_class.specs.Classes.{class_number}
use Rattle.arc_class.specs.Globals.{known_global, variables}
use Rattle.arc_class.specs.Table.{at_name, class_number_in}
use Rattle.arc_class.proofs.kept.first_globals.Given as goal
use Rattle.std.specs.Option.{option_or}

-- what is kept and what is first of the rest is first of all
abbrev pub invariant-loop-global : goal.invariant-loop-global
invariant-loop-global l = (interfaces : List InterfaceTree) → ((sought : List ℕ) → class_number_in l.names sought ≡ class_number interfaces sought) → (sought : List ℕ)
    → known_global interfaces (global_trees l.globals) sought ≡ option_or (at_name l.map sought) (variables interfaces l.before (global_trees (drop l.global-index l.globals)) sought)
