use Rattle.std.proofs.Common.{◌≡◌, ◌+◌, ◌++◌, length, map, drop}
use Rattle.arc_ast.specs.Tree.{unit_tree, interface_trees}
use Rattle.arc_class.specs.private.Entries.{fields_tree, all_class_fields, class_fields_from}
use Rattle.arc_class.proofs.kept.Source.add_class_fields.Given as goal

-- those so far with the rest are all
abbrev pub invariant-loop-interface : goal.invariant-loop-interface
invariant-loop-interface l = record {
  made : all_class_fields (unit_tree l.self.unit.now) ≡ map fields_tree l.all.items ++ class_fields_from (unit_tree l.self.unit.now) (l.interface-index + 1) (interface_trees (drop l.interface-index l.self.unit.now.interfaces.items));
  numbered : l.class ≡ l.interface-index;
  counted : length l.all.items ≡ l.interface-index + 1;
}
