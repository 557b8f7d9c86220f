use Rattle.std.proofs.Common.{◌≡◌, ◌++◌, drop, map}
use Rattle.arc_ast.specs.Tree.{interface_trees, unit_tree}
use Rattle.arc_tool.specs.CompiledCode.{class_names, bytes_of_name}
use Rattle.arc_tool.proofs.compile.class_names.Given as goal

abbrev pub invariant-loop-interface : goal.invariant-loop-interface
invariant-loop-interface l = map bytes_of_name l.names.items ++ map (λ i. i.name) (interface_trees (drop l.interface-index l.interface-items)) ≡ class_names (unit_tree l.unit)
