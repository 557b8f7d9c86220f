-- The rule that global variables break.
use Rattle.std.proofs.Common.{◌≡◌, ℕ, ◌+◌, ◌<◌, List, length, get_or, drop, Option, ap, ◌∙◌}
use Rattle.std.specs.List.{flat_map}
use Rattle.arc_ast.specs.declared.tree.Global.{Global}
use Rattle.arc_ast.specs.Tree.{global_tree, global_trees}
use Rattle.arc_class.specs.BrokenRules.{Broken, first, earlier_of}
use Rattle.arc_class.proofs.FirstBrokenRule.{first_turn}
use Rattle.arc_judge.specs.Rules.{broken_global}
use Rattle.arc_scope.proofs.ListSuffixes.{drop_turn}

pub globals_turn : (xs : List Global) (i : ℕ) (x : Global) (so_far one now whole : Option Broken) → i < length xs → x ≡ get_or xs i x → one ≡ first (broken_global (global_tree x)) → now ≡ earlier_of so_far one
    → whole ≡ earlier_of so_far (first (flat_map broken_global (global_trees (drop i xs)))) → whole ≡ earlier_of now (first (flat_map broken_global (global_trees (drop (i + 1) xs))))
globals_turn xs i x so_far one now whole l e o n w =
    first_turn (broken_global (global_tree x)) (flat_map broken_global (global_trees (drop (i + 1) xs))) so_far one now whole o n
    (w ∙ ap (λ us. earlier_of so_far (first (flat_map broken_global (global_trees us)))) (drop_turn xs i x l e))
