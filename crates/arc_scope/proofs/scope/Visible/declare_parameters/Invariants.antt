use Rattle.std.proofs.Common.{◌≡◌, drop}
use Rattle.arc_ast.specs.Tree.{parameter_trees}
use Rattle.arc_scope.specs.Scopes.{with_parameters}
use Rattle.arc_scope.specs.Views.{seen}
use Rattle.arc_scope.proofs.scope.Visible.declare_parameters.Given as goal

-- the rest is declared after those so far
abbrev pub invariant-loop-parameter : goal.invariant-loop-parameter
invariant-loop-parameter l = with_parameters (seen l.table l.initial.self) (parameter_trees l.all) ≡ with_parameters (seen l.table l.self) (parameter_trees (drop l.parameter-index l.all))
