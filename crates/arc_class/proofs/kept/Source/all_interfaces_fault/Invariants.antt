use Rattle.std.proofs.Common.{◌≡◌, [], ℕ, List, is_some, option_map, take, drop}
use Rattle.arc_class.specs.BrokenRules.{first, earlier_of}
use Rattle.arc_class.specs.Fault.{reported}
use Rattle.arc_ast.specs.Tree.{unit_tree, interface_trees}
use Rattle.arc_class.specs.ClassRules.{broken_interface}
use Rattle.arc_class.specs.BrokenRules.{in_order}
use Rattle.arc_class.specs.Classes.{interface_number}
use Rattle.arc_class.specs.private.Scopes.{holds}
use Rattle.arc_class.proofs.kept.Source.all_interfaces_fault.Given as goal

-- what is reported so far and what is reported of the rest is reported of all
abbrev pub invariant-loop-interface : goal.invariant-loop-interface
invariant-loop-interface l = record {
  fault : first (in_order (broken_interface (unit_tree l.self.unit.now)) [] (unit_tree l.self.unit.now).interfaces)
      ≡ earlier_of (option_map reported l.fault) (first (in_order (broken_interface (unit_tree l.self.unit.now)) (interface_trees (take l.interface-index l.self.unit.now.interfaces.items)) (interface_trees (drop l.interface-index l.self.unit.now.interfaces.items))));
  held : (name : List ℕ) → holds l.before name ≡ is_some (interface_number (interface_trees (take l.interface-index l.self.unit.now.interfaces.items)) name);
  counted : l.class ≡ l.interface-index;
}
