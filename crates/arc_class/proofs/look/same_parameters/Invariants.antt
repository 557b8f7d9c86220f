use Rattle.std.proofs.Common.{◌≡◌, drop}
use Rattle.arc_ast.specs.Tree.{parameter_trees}
use Rattle.arc_class.specs.FunctionRules.{same_kinds}
use Rattle.arc_class.specs.FunctionNames.{parameter_kinds}
use Rattle.arc_class.proofs.look.same_parameters.Given as goal

-- those before this one are the same
abbrev pub invariant-loop-parameter : goal.invariant-loop-parameter
invariant-loop-parameter l =
    same_kinds (parameter_kinds (parameter_trees l.first)) (parameter_kinds (parameter_trees l.second))
    ≡ same_kinds (parameter_kinds (parameter_trees (drop l.parameter-index l.first))) (parameter_kinds (parameter_trees l.rest))
