use Rattle.std.proofs.Common.{◌≡◌, ℕ, List, drop}
use Rattle.arc_ast.specs.Tree.{implementation_trees}
use Rattle.arc_class.specs.KeptNames.{implemented_in}
use Rattle.std.specs.Option.{option_or}
use Rattle.arc_class.specs.RuntimeClasses.{implemented}
use Rattle.arc_class.proofs.kept.first_implementations.Given as goal

-- what is kept and what is first of the rest is first of all
abbrev pub invariant-loop-implementation : goal.invariant-loop-implementation
invariant-loop-implementation l = (sought : List ℕ) → implemented l.fn.first (implementation_trees l.implementations) sought ≡ option_or (implemented_in l.map sought) (implemented l.first (implementation_trees (drop l.implementation-index l.implementations)) sought)
