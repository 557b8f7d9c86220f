-- What global variables hold first, and how many of them name objects.
use Rattle.std.proofs.Common.{◌≡◌, ℕ, ℤ, suc, ◌+◌, ◌<◌, ◌≤◌, Bool, true, false, not, cond, List, [], ◌∷◌, ◌++◌, length, get_or, drop, append-nil, append_assoc, sym, ap, ◌∙◌, map, arith}
use Rattle.std.specs.List.{filter}
use Rattle.arc_ast.specs.declared.tree.Global.{Global}
use Rattle.arc_ast.specs.Tree.{GlobalTree, global_tree, global_trees}
use Rattle.arc_resolve.specs.SourceResolution.{first_number, names_objects}
use Rattle.arc_resolve.specs.private.ResolvedNodes.{first_numbers}
use Rattle.arc_scope.proofs.ListSuffixes.{drop_turn, drop_end}

-- ---- what global variables hold first

-- one that holds a number is one number more
numbered : (g : GlobalTree) (gs : List GlobalTree) → names_objects g ≡ false → first_numbers (g ∷ gs) ≡ first_number g ∷ first_numbers gs
numbered g gs h = ap (λ b. map first_number (cond (not b) (g ∷ filter (λ x. not (names_objects x)) gs) (filter (λ x. not (names_objects x)) gs))) h

-- and one that names objects none
unnumbered : (g : GlobalTree) (gs : List GlobalTree) → names_objects g ≡ true → first_numbers (g ∷ gs) ≡ first_numbers gs
unnumbered g gs h = ap (λ b. map first_number (cond (not b) (g ∷ filter (λ x. not (names_objects x)) gs) (filter (λ x. not (names_objects x)) gs))) h

-- what one variable more holds, which holds a number
pub number_turn : (xs : List Global) (i : ℕ) (x : Global) (named : Bool) (n : ℤ) (old new whole : List ℤ) → i < length xs → x ≡ get_or xs i x → named ≡ names_objects (global_tree x) → named ≡ false → n ≡ first_number (global_tree x) → new ≡ old ++ n ∷ []
    → whole ≡ old ++ first_numbers (global_trees (drop i xs)) → whole ≡ new ++ first_numbers (global_trees (drop (i + 1) xs))
number_turn xs i x named n old new whole l e o f h g w =
    let others = first_numbers (global_trees (drop (i + 1) xs)) in
    w ∙ ap (λ us. old ++ first_numbers (global_trees us)) (drop_turn xs i x l e) ∙ ap (λ us. old ++ us) (numbered (global_tree x) (global_trees (drop (i + 1) xs)) (sym o ∙ f)) ∙ ap (λ m. old ++ m ∷ others) (sym h) ∙ sym (append_assoc old (n ∷ []) others) ∙ ap (λ us. us ++ others) (sym g)

-- the same of one that names objects
pub number_pass : (xs : List Global) (i : ℕ) (x : Global) (named : Bool) (old new whole : List ℤ) → i < length xs → x ≡ get_or xs i x → named ≡ names_objects (global_tree x) → named ≡ true → new ≡ old
    → whole ≡ old ++ first_numbers (global_trees (drop i xs)) → whole ≡ new ++ first_numbers (global_trees (drop (i + 1) xs))
number_pass xs i x named old new whole l e o f g w =
    let others = first_numbers (global_trees (drop (i + 1) xs)) in
    w ∙ ap (λ us. old ++ first_numbers (global_trees us)) (drop_turn xs i x l e) ∙ ap (λ us. old ++ us) (unnumbered (global_tree x) (global_trees (drop (i + 1) xs)) (sym o ∙ f)) ∙ ap (λ us. us ++ others) (sym g)

pub number_end : (xs : List Global) (i : ℕ) (all whole : List ℤ) → length xs ≤ i → whole ≡ all ++ first_numbers (global_trees (drop i xs)) → all ≡ whole
number_end xs i all whole l w = sym (w ∙ ap (λ us. all ++ first_numbers (global_trees us)) (drop_end xs i l) ∙ append-nil all)

-- ---- how many of them name objects

abbrev objects_among : List GlobalTree → ℕ
objects_among gs = length (filter names_objects gs)

one_object : (g : GlobalTree) (gs : List GlobalTree) → names_objects g ≡ true → objects_among (g ∷ gs) ≡ suc (objects_among gs)
one_object g gs h = ap (λ b. length (cond b (g ∷ filter names_objects gs) (filter names_objects gs))) h

no_object : (g : GlobalTree) (gs : List GlobalTree) → names_objects g ≡ false → objects_among (g ∷ gs) ≡ objects_among gs
no_object g gs h = ap (λ b. length (cond b (g ∷ filter names_objects gs) (filter names_objects gs))) h

one_later : (old rest : ℕ) → old + suc rest ≡ (old + 1) + rest
one_later old rest = omega arith

pub object_turn : (xs : List Global) (i : ℕ) (x : Global) (named : Bool) (old new whole : ℕ) → i < length xs → x ≡ get_or xs i x → named ≡ names_objects (global_tree x) → named ≡ true → new ≡ old + 1
    → whole ≡ old + length (filter names_objects (global_trees (drop i xs))) → whole ≡ new + length (filter names_objects (global_trees (drop (i + 1) xs)))
object_turn xs i x named old new whole l e o f g w =
    let others = length (filter names_objects (global_trees (drop (i + 1) xs))) in
    w ∙ ap (λ us. old + length (filter names_objects (global_trees us))) (drop_turn xs i x l e) ∙ ap (λ n. old + n) (one_object (global_tree x) (global_trees (drop (i + 1) xs)) (sym o ∙ f)) ∙ one_later old others ∙ ap (λ n. n + others) (sym g)

pub object_pass : (xs : List Global) (i : ℕ) (x : Global) (named : Bool) (old new whole : ℕ) → i < length xs → x ≡ get_or xs i x → named ≡ names_objects (global_tree x) → named ≡ false → new ≡ old
    → whole ≡ old + length (filter names_objects (global_trees (drop i xs))) → whole ≡ new + length (filter names_objects (global_trees (drop (i + 1) xs)))
object_pass xs i x named old new whole l e o f g w =
    let others = length (filter names_objects (global_trees (drop (i + 1) xs))) in
    w ∙ ap (λ us. old + length (filter names_objects (global_trees us))) (drop_turn xs i x l e) ∙ ap (λ n. old + n) (no_object (global_tree x) (global_trees (drop (i + 1) xs)) (sym o ∙ f)) ∙ ap (λ n. n + others) (sym g)

no_more : (n : ℕ) → n + 0 ≡ n
no_more n = omega arith

pub object_end : (xs : List Global) (i all whole : ℕ) → length xs ≤ i → whole ≡ all + length (filter names_objects (global_trees (drop i xs))) → all ≡ whole
object_end xs i all whole l w = sym (w ∙ ap (λ us. all + length (filter names_objects (global_trees us))) (drop_end xs i l) ∙ no_more all)
