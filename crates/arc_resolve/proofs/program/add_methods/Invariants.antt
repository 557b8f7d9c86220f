use Rattle.std.proofs.Common.{◌≡◌, List, option_map, drop, map, ◌++◌}
use Rattle.arc_ast.specs.Tree.{method_trees}
use Rattle.arc_class.specs.Table.{number_of_class}
use Rattle.arc_spec.specs.Resolved as spec
use Rattle.arc_resolve.specs.private.ResolvedNodes.{functions_ahead}
use Rattle.arc_resolve.specs.SourceResolution.{resolved_method}
use Rattle.arc_scope.specs.Views.{known_in}
use Rattle.arc_resolve.proofs.program.add_methods.Given as goal

-- the methods so far and those of the rest are all
abbrev pub invariant-loop-one : goal.invariant-loop-one
invariant-loop-one l = (others : List spec.Function)
    → functions_ahead l.initial.all.items (map (resolved_method (known_in l.table) (option_map number_of_class l.class)) (method_trees l.methods) ++ others) ≡ functions_ahead l.all.items (map (resolved_method (known_in l.table) (option_map number_of_class l.class)) (method_trees (drop l.one-index l.methods)) ++ others)
