use Rattle.std.proofs.Common.{◌≡◌, ◌++◌, ◌∷◌, map, drop}
use Rattle.arc_ast.specs.Tree.{unit_tree, interface_trees}
use Rattle.arc_class.specs.private.Entries.{entry_tree, root_entry, class_entry}
use Rattle.arc_class.proofs.kept.Source.entries.Given as goal

-- those so far with the rest are all
abbrev pub invariant-loop-interface : goal.invariant-loop-interface
invariant-loop-interface l = (root_entry ∷ map (class_entry (unit_tree l.self.unit.now)) (unit_tree l.self.unit.now).interfaces) ≡ map (entry_tree l.self.names) l.entries.items ++ map (class_entry (unit_tree l.self.unit.now)) (interface_trees (drop l.interface-index l.self.unit.now.interfaces.items))
