use Rattle.std.proofs.Common.{◌≡◌, [], ℕ, List, option_map, take, drop}
use Rattle.arc_ast.specs.declared.tree.Sign.{Sign}
use Rattle.arc_ast.specs.Tree.{method_trees}
use Rattle.arc_class.specs.BrokenRules.{first, earlier_of}
use Rattle.arc_class.specs.ClassRules.{broken_methods}
use Rattle.arc_class.specs.Classes.{heads, first_head}
use Rattle.arc_class.specs.Fault.{reported}
use Rattle.arc_class.specs.KeptNames.{head_in}
use Rattle.arc_class.proofs.methods.methods_fault.Given as goal

-- what is reported so far and what is reported of the rest is reported of all
abbrev pub invariant-loop-method : goal.invariant-loop-method
invariant-loop-method l = record {
  fault : first (broken_methods [] (method_trees l.methods))
      ≡ earlier_of (option_map reported l.fault) (first (broken_methods (heads (method_trees (take l.method-index l.methods))) (method_trees (drop l.method-index l.methods))));
  held : (sign : Sign) (selector : List ℕ) → head_in l.before sign selector ≡ first_head sign selector (heads (method_trees (take l.method-index l.methods)));
}
