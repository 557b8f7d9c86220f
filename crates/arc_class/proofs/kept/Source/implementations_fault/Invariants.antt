use Rattle.std.proofs.Common.{◌≡◌, [], ℕ, List, option_map, take, drop}
use Rattle.arc_class.specs.BrokenRules.{first, earlier_of}
use Rattle.arc_class.specs.Fault.{reported}
use Rattle.arc_ast.specs.Tree.{unit_tree, implementation_trees}
use Rattle.arc_class.specs.ClassRules.{broken_implementation, is_implemented}
use Rattle.arc_class.specs.BrokenRules.{in_order}
use Rattle.arc_class.specs.private.Scopes.{holds}
use Rattle.arc_class.proofs.kept.Source.implementations_fault.Given as goal

-- what is reported so far and what is reported of the rest is reported of all
abbrev pub invariant-loop-implementation : goal.invariant-loop-implementation
invariant-loop-implementation l = record {
  fault : first (in_order (broken_implementation (unit_tree l.self.unit.now)) [] (unit_tree l.self.unit.now).implementations)
      ≡ earlier_of (option_map reported l.fault) (first (in_order (broken_implementation (unit_tree l.self.unit.now)) (implementation_trees (take l.implementation-index l.self.unit.now.implementations.items)) (implementation_trees (drop l.implementation-index l.self.unit.now.implementations.items))));
  held : (name : List ℕ) → holds l.before name ≡ is_implemented (implementation_trees (take l.implementation-index l.self.unit.now.implementations.items)) name;
}
