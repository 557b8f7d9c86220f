use Rattle.std.proofs.Common.{◌≡◌, ◌+◌, ◌++◌, length, drop}
use Rattle.arc_ast.specs.Tree.{unit_tree, interface_trees}
use Rattle.arc_spec.specs.Classes.{classes_of}
use Rattle.arc_class.specs.RuntimeClasses.{classes, classes_from}
use Rattle.arc_class.proofs.kept.Source.classes.Given as goal

-- those so far with the rest are all
abbrev pub invariant-loop-interface : goal.invariant-loop-interface
invariant-loop-interface l = record {
  made : classes (unit_tree l.self.unit.now) ≡ classes_of l.classes.items ++ classes_from (unit_tree l.self.unit.now) (l.interface-index + 1) (interface_trees (drop l.interface-index l.self.unit.now.interfaces.items));
  numbered : l.number ≡ l.interface-index;
  counted : length l.classes.items ≡ l.interface-index + 1;
}
