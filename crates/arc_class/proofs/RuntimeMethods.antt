-- The methods of a class as a running program knows them, one more at a time.
use Rattle.std.proofs.Common.{◌≡◌, ℕ, suc, ◌+◌, ◌<◌, ◌≤◌, Bool, true, false, List, [], ◌∷◌, ◌++◌, length, Some, Option, if◌then◌else◌, append_assoc, drop, get_or, refl, sym, ap, ◌∙◌, arith}
use Rattle.arc_ast.specs.declared.tree.Method as ast
use Rattle.arc_ast.specs.Tree.{UnitTree, ImplementationTree, head_tree, method_trees}
use Rattle.arc_spec.specs.declared.class.Method.{Method}
use Rattle.arc_class.specs.Classes.{is_dealloc, selectors, numbers_after}
use Rattle.arc_class.specs.RuntimeClasses.{method_made, with_method, methods_from, dealloc_from}
use Rattle.arc_class.proofs.ListSuffixes.{drop_turn}

one_more : (n : ℕ) → suc n ≡ n + 1
one_more n = omega arith

-- the rest of methods, from one on
rest_of : (u : UnitTree) (xs : List ast.Method) (k : ℕ) (x : ast.Method) (runs : ℕ) → k < length xs → x ≡ get_or xs k x
    → methods_from u runs (method_trees (drop k xs)) ≡ (if is_dealloc (head_tree x.head) then methods_from u (suc runs) (method_trees (drop (k + 1) xs)) else method_made (selectors u) runs (head_tree x.head) ∷ methods_from u (suc runs) (method_trees (drop (k + 1) xs)))
rest_of u xs k x runs l e = ap (λ us. methods_from u runs (method_trees us)) (drop_turn xs k x l e)

pub kept_method : (u : UnitTree) (xs : List ast.Method) (k : ℕ) (x : ast.Method) (runs : ℕ) (old new : List Method) (one : Method) (whole : List Method) → k < length xs → x ≡ get_or xs k x → is_dealloc (head_tree x.head) ≡ false
    → new ≡ old ++ one ∷ [] → one ≡ method_made (selectors u) runs (head_tree x.head) → whole ≡ old ++ methods_from u runs (method_trees (drop k xs)) → whole ≡ new ++ methods_from u (runs + 1) (method_trees (drop (k + 1) xs))
kept_method u xs k x runs old new one whole l e d n o w =
    let rest = methods_from u (suc runs) (method_trees (drop (k + 1) xs)) in
    w ∙ ap (λ us. old ++ us) (rest_of u xs k x runs l e ∙ ap (λ b. if b then rest else method_made (selectors u) runs (head_tree x.head) ∷ rest) d ∙ ap (λ m. m ∷ rest) (sym o)) ∙ sym (append_assoc old (one ∷ []) rest)
    ∙ ap (λ us. us ++ rest) (sym n) ∙ ap (λ m. new ++ methods_from u m (method_trees (drop (k + 1) xs))) (one_more runs)

pub skipped_method : (u : UnitTree) (xs : List ast.Method) (k : ℕ) (x : ast.Method) (runs : ℕ) (old : List Method) (whole : List Method) → k < length xs → x ≡ get_or xs k x → is_dealloc (head_tree x.head) ≡ true
    → whole ≡ old ++ methods_from u runs (method_trees (drop k xs)) → whole ≡ old ++ methods_from u (runs + 1) (method_trees (drop (k + 1) xs))
skipped_method u xs k x runs old whole l e d w =
    let rest = methods_from u (suc runs) (method_trees (drop (k + 1) xs)) in
    w ∙ ap (λ us. old ++ us) (rest_of u xs k x runs l e ∙ ap (λ b. if b then rest else method_made (selectors u) runs (head_tree x.head) ∷ rest) d) ∙ ap (λ m. old ++ methods_from u m (method_trees (drop (k + 1) xs))) (one_more runs)

-- the same, where it is added unless it ends objects
pub method_turn : (u : UnitTree) (names : List (List ℕ)) (xs : List ast.Method) (k : ℕ) (x : ast.Method) (runs : ℕ) (old new : List Method) (whole : List Method) → names ≡ selectors u → k < length xs → x ≡ get_or xs k x
    → new ≡ with_method names runs (head_tree x.head) old → whole ≡ old ++ methods_from u runs (method_trees (drop k xs)) → whole ≡ new ++ methods_from u (runs + 1) (method_trees (drop (k + 1) xs))
method_turn u names xs k x runs old new whole s l e n w = go (is_dealloc (head_tree x.head)) refl
  where
    go : (b : Bool) → is_dealloc (head_tree x.head) ≡ b → whole ≡ new ++ methods_from u (runs + 1) (method_trees (drop (k + 1) xs))
    go true d =
        let same : new ≡ old = n ∙ ap (λ b. if b then old else old ++ method_made names runs (head_tree x.head) ∷ []) d in
        skipped_method u xs k x runs old whole l e d w ∙ ap (λ us. us ++ methods_from u (runs + 1) (method_trees (drop (k + 1) xs))) (sym same)
    go false d =
        let same : new ≡ old ++ method_made names runs (head_tree x.head) ∷ [] = n ∙ ap (λ b. if b then old else old ++ method_made names runs (head_tree x.head) ∷ []) d in
        kept_method u xs k x runs old new (method_made names runs (head_tree x.head)) whole l e d same (ap (λ ns. method_made ns runs (head_tree x.head)) s) w

next_dealloc : (xs : List ast.Method) (k : ℕ) (x : ast.Method) (runs : ℕ) → k < length xs → x ≡ get_or xs k x
    → dealloc_from runs (method_trees (drop k xs)) ≡ (if is_dealloc (head_tree x.head) then Some runs else dealloc_from (suc runs) (method_trees (drop (k + 1) xs)))
next_dealloc xs k x runs l e = ap (λ us. dealloc_from runs (method_trees us)) (drop_turn xs k x l e)

pub found_dealloc : (xs : List ast.Method) (k : ℕ) (x : ast.Method) (runs : ℕ) (whole : Option ℕ) → k < length xs → x ≡ get_or xs k x → is_dealloc (head_tree x.head) ≡ true
    → whole ≡ dealloc_from runs (method_trees (drop k xs)) → Some runs ≡ whole
found_dealloc xs k x runs whole l e d w = sym (w ∙ next_dealloc xs k x runs l e ∙ ap (λ b. if b then Some runs else dealloc_from (suc runs) (method_trees (drop (k + 1) xs))) d)

pub no_dealloc : (xs : List ast.Method) (k : ℕ) (x : ast.Method) (runs : ℕ) (whole : Option ℕ) → k < length xs → x ≡ get_or xs k x → is_dealloc (head_tree x.head) ≡ false
    → whole ≡ dealloc_from runs (method_trees (drop k xs)) → whole ≡ dealloc_from (runs + 1) (method_trees (drop (k + 1) xs))
no_dealloc xs k x runs whole l e d w =
    w ∙ next_dealloc xs k x runs l e ∙ ap (λ b. if b then Some runs else dealloc_from (suc runs) (method_trees (drop (k + 1) xs))) d ∙ ap (λ m. dealloc_from m (method_trees (drop (k + 1) xs))) (one_more runs)

-- there are no fewer functions with some implementations than before them
pub numbers_grow : (first : ℕ) (all : List ImplementationTree) → first ≤ numbers_after first all
numbers_grow first [] = omega arith
numbers_grow first (i ∷ others) = omega (arith, numbers_grow (first + length i.methods) others)
