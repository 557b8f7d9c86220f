use Rattle.std.proofs.Common.{◌≡◌, drop}
use Rattle.std.specs.List.{filter_map}
use Rattle.arc_ast.specs.Tree.{function_trees}
use Rattle.arc_resolve.specs.private.ResolvedNodes.{functions_ahead}
use Rattle.arc_resolve.specs.SourceResolution.{resolved_function}
use Rattle.arc_scope.specs.Views.{known_in}
use Rattle.arc_resolve.proofs.program.functions.Given as goal

-- the functions so far and those of the rest are all
abbrev pub invariant-loop-one : goal.invariant-loop-one
invariant-loop-one l = filter_map (resolved_function (known_in l.table)) (function_trees l.declared) ≡ functions_ahead l.all.items (filter_map (resolved_function (known_in l.table)) (function_trees (drop l.one-index l.declared)))
