use Rattle.std.proofs.Common.{◌≡◌, drop}
use Rattle.arc_ast.specs.Tree.{implementation_trees}
use Rattle.arc_class.specs.Classes.{defined_selectors}
use Rattle.arc_class.specs.Table.{names_of}
use Rattle.arc_class.proofs.building.add_defined.Given as goal

-- those so far with the rest are all
abbrev pub invariant-loop-implementation : goal.invariant-loop-implementation
invariant-loop-implementation l = defined_selectors (names_of l.initial.names.keys) (implementation_trees l.implementations) ≡ defined_selectors (names_of l.names.keys) (implementation_trees (drop l.implementation-index l.implementations))
