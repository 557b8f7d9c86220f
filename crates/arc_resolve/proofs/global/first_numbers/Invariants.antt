use Rattle.std.proofs.Common.{◌≡◌, ◌++◌, drop}
use Rattle.arc_ast.specs.Tree.{global_trees}
use Rattle.arc_resolve.specs.private.ResolvedNodes.{first_numbers}
use Rattle.arc_resolve.proofs.global.first_numbers.Given as goal

-- the numbers so far and those of the rest are all
abbrev pub invariant-loop-global : goal.invariant-loop-global
invariant-loop-global l = first_numbers (global_trees l.globals) ≡ l.all.items ++ first_numbers (global_trees (drop l.global-index l.globals))
