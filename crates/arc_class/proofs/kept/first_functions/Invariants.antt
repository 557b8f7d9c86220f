use Rattle.std.proofs.Common.{◌≡◌, ℕ, List, drop}
use Rattle.arc_ast.specs.Tree.{function_trees}
use Rattle.arc_class.specs.FunctionNames.{first_named}
use Rattle.arc_class.specs.KeptNames.{function_kept}
use Rattle.std.specs.Option.{option_or}
use Rattle.arc_class.proofs.kept.first_functions.Given as goal

-- what is kept and what is first of the rest is first of all
abbrev pub invariant-loop-function : goal.invariant-loop-function
invariant-loop-function l = (sought : List ℕ) → first_named sought (function_trees l.functions) ≡ option_or (function_kept l.map sought) (first_named sought (function_trees (drop l.function-index l.functions)))
