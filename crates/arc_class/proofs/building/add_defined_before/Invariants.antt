use Rattle.std.proofs.Common.{◌≡◌, drop}
use Rattle.arc_ast.specs.Tree.{implementation_trees}
use Rattle.arc_class.specs.Classes.{defined_selectors, standing_before, standing_after}
use Rattle.arc_class.specs.Table.{names_of}
use Rattle.arc_class.proofs.building.add_defined_before.Given as goal

-- those so far with the rest are all
abbrev pub invariant-loop-implementation : goal.invariant-loop-implementation
invariant-loop-implementation l = (l.count ≡ l.implementation-index)
    × (defined_selectors (names_of l.initial.names.keys) (standing_before l.at (implementation_trees l.implementations))
    ≡ defined_selectors (names_of l.names.keys) (standing_before l.at (implementation_trees (drop l.implementation-index l.implementations))))
    × (standing_after l.at (implementation_trees l.implementations) ≡ standing_after l.at (implementation_trees (drop l.implementation-index l.implementations)))
