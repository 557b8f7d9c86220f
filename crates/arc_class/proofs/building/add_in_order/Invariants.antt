use Rattle.std.proofs.Common.{◌≡◌, drop}
use Rattle.arc_ast.specs.Tree.{interface_trees, implementation_trees}
use Rattle.arc_class.specs.Classes.{selectors_in_order}
use Rattle.arc_class.specs.Table.{names_of}
use Rattle.arc_class.proofs.building.add_in_order.Given as goal

-- those so far with the rest are all
abbrev pub invariant-loop-interface : goal.invariant-loop-interface
invariant-loop-interface l = selectors_in_order (names_of l.initial.names.keys) (interface_trees l.interfaces) (implementation_trees l.implementations)
    ≡ selectors_in_order (names_of l.names.keys) (interface_trees (drop l.interface-index l.interfaces)) (implementation_trees l.rest)
