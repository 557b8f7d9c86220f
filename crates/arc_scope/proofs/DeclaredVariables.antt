-- What is visible after a declaration, one variable more at a time.
use Rattle.std.proofs.Common.{◌≡◌, ℕ, ◌+◌, ◌<◌, List, length, get_or, drop, sym, ap, ◌∙◌}
use Rattle.arc_ast.specs.declared.tree.Variable.{Variable}
use Rattle.arc_ast.specs.Tree.{TypeTree, variable_trees}
use Rattle.arc_scope.specs.Scopes.{Scope, declare, with_variables}
use Rattle.arc_scope.proofs.ListSuffixes.{drop_turn}

pub with_turn : (type : TypeTree) (s after whole : Scope) (xs : List Variable) (i : ℕ) (x : Variable) → i < length xs → x ≡ get_or xs i x → after ≡ declare x.name.items type s → whole ≡ with_variables type s (variable_trees (drop i xs)) → whole ≡ with_variables type after (variable_trees (drop (i + 1) xs))
with_turn type s after whole xs i x l e a w =
    w ∙ ap (λ us. with_variables type s (variable_trees us)) (drop_turn xs i x l e) ∙ ap (λ p. with_variables type p (variable_trees (drop (i + 1) xs))) (sym a)
