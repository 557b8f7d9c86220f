use Rattle.std.proofs.Common.{◌≡◌, drop}
use Rattle.arc_ast.specs.Tree.{method_trees}
use Rattle.arc_class.specs.Classes.{heads, with_selectors}
use Rattle.arc_class.specs.Table.{names_of}
use Rattle.arc_class.proofs.building.add_methods.Given as goal

-- those so far with the rest are all
abbrev pub invariant-loop-method : goal.invariant-loop-method
invariant-loop-method l = with_selectors (names_of l.initial.names.keys) (heads (method_trees l.methods)) ≡ with_selectors (names_of l.names.keys) (heads (method_trees (drop l.method-index l.methods)))
