use Rattle.std.proofs.Common.{◌≡◌, ◌+◌, ◌-◌, ◌++◌, suc, length, map}
use Rattle.arc_ast.specs.Tree.{unit_tree}
use Rattle.arc_class.specs.Fields.{all_fields_from}
use Rattle.arc_class.specs.Table.{list_of}
use Rattle.arc_class.proofs.kept.Source.all_fields.Given as goal

-- those so far with the rest are all
abbrev pub invariant-loop-interface : goal.invariant-loop-interface
invariant-loop-interface l = record {
  made : all_fields_from (unit_tree l.self.unit.now) 0 (suc (length (unit_tree l.self.unit.now).interfaces))
      ≡ map list_of l.all.items ++ all_fields_from (unit_tree l.self.unit.now) (l.interface-index + 1) (length (unit_tree l.self.unit.now).interfaces - l.interface-index);
  numbered : l.class ≡ l.interface-index;
  counted : length l.all.items ≡ l.interface-index + 1;
}
