use Rattle.std.proofs.Common.{take}
use Rattle.arc_ast.specs.Tree.{function_trees}
use Rattle.arc_class.specs.private.FunctionSummary.{Sums}
use Rattle.arc_class.proofs.look.look.Given as goal

-- so much is known of the functions so far
abbrev pub invariant-loop-function : goal.invariant-loop-function
invariant-loop-function l = Sums (function_trees (take l.function-index l.functions)) l.seen
