use Rattle.std.proofs.Common.{◌≡◌, drop}
use Rattle.std.specs.List.{flat_map}
use Rattle.arc_ast.specs.Tree.{implementation_trees}
use Rattle.arc_resolve.specs.private.ResolvedNodes.{functions_ahead, resolved_methods}
use Rattle.arc_scope.specs.Views.{known_in}
use Rattle.arc_resolve.proofs.program.add_implementations.Given as goal

-- the methods so far and those of the rest are all
abbrev pub invariant-loop-one : goal.invariant-loop-one
invariant-loop-one l =
    functions_ahead l.initial.all.items (flat_map (resolved_methods (known_in l.table)) (implementation_trees l.implementations)) ≡ functions_ahead l.all.items (flat_map (resolved_methods (known_in l.table)) (implementation_trees (drop l.one-index l.implementations)))
