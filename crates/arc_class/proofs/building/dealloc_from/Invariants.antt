use Rattle.std.proofs.Common.{◌≡◌, ◌+◌, drop}
use Rattle.arc_ast.specs.Tree.{method_trees}
use Rattle.arc_class.specs.RuntimeClasses.{dealloc_from}
use Rattle.arc_class.proofs.building.dealloc_from.Given as goal

-- none of those so far ends objects
abbrev pub invariant-loop-method : goal.invariant-loop-method
invariant-loop-method l = record {
  sought : dealloc_from l.fn.first (method_trees l.methods) ≡ dealloc_from l.runs (method_trees (drop l.method-index l.methods));
  counted : l.runs ≡ l.fn.first + l.method-index;
}
