use Rattle.std.proofs.Common.{◌≡◌, ◌++◌, drop}
use Rattle.arc_ast.specs.Tree.{UnitTree, method_trees}
use Rattle.arc_class.specs.Classes.{selectors}
use Rattle.arc_class.specs.RuntimeClasses.{methods_from}
use Rattle.arc_class.specs.Table.{names_of}
use Rattle.arc_class.proofs.building.methods_from.Given as goal

-- those so far with the rest are all
abbrev pub invariant-loop-method : goal.invariant-loop-method
invariant-loop-method l = (u : UnitTree) → names_of l.selectors.keys ≡ selectors u → methods_from u l.fn.first (method_trees l.methods) ≡ l.all.items ++ methods_from u l.runs (method_trees (drop l.method-index l.methods))
