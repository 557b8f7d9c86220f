use Rattle.std.proofs.Common.{◌≡◌, ◌+◌, ℕ, List, drop}
use Rattle.arc_ast.specs.Tree.{interface_trees}
use Rattle.arc_class.specs.KeptNames.{places}
use Rattle.std.specs.Option.{option_or}
use Rattle.arc_class.specs.Table.{at_name}
use Rattle.arc_class.proofs.kept.class_places.Given as goal

-- what is kept and what is first of the rest is first of all
abbrev pub invariant-loop-interface : goal.invariant-loop-interface
invariant-loop-interface l = record {
  counted : l.number ≡ l.interface-index;
  kept : (sought : List ℕ) → places 1 (interface_trees l.interfaces) sought ≡ option_or (at_name l.map sought) (places (l.number + 1) (interface_trees (drop l.interface-index l.interfaces)) sought);
}
