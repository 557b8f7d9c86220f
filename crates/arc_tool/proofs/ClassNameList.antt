-- The names of classes, one after another.
use Rattle.std.proofs.Common.{◌≡◌, ℕ, ◌+◌, ◌<◌, List, [], ◌∷◌, ◌++◌, drop, get_or, length, map, Vec, sym, ap, ◌∙◌, append_assoc}
use Rattle.std.specs.Global.{Global}
use Rattle.std.proofs.lemmas.List.{drop_more, map-append}
use Rattle.arc_ast.specs.declared.tree.Interface.{Interface}
use Rattle.arc_ast.specs.Tree.{interface_trees}
use Rattle.arc_tool.specs.CompiledCode.{bytes_of_name}

-- one name more
pub names_turn : (xs : List Interface) (k : ℕ) (x : Interface) (old new : List (Vec ℕ Global)) (name : Vec ℕ Global) (whole : List (List ℕ)) → k < length xs → x ≡ get_or xs k x → name.items ≡ x.name.items → new ≡ old ++ name ∷ []
    → map bytes_of_name old ++ map (λ i. i.name) (interface_trees (drop k xs)) ≡ whole → map bytes_of_name new ++ map (λ i. i.name) (interface_trees (drop (k + 1) xs)) ≡ whole
names_turn xs k x old new name whole l e n h w =
    let rest = map (λ i. i.name) (interface_trees (drop (k + 1) xs)) in
    let there : drop k xs ≡ x ∷ drop (k + 1) xs = drop_more xs k x l ∙ ap (λ y. y ∷ drop (k + 1) xs) (sym e) in
    let split : map (λ i. i.name) (interface_trees (drop k xs)) ≡ x.name.items ∷ rest = ap (λ us. map (λ i. i.name) (interface_trees us)) there in
    ap (λ us. map bytes_of_name us ++ rest) h ∙ ap (λ us. us ++ rest) (map-append bytes_of_name old (name ∷ [])) ∙ append_assoc (map bytes_of_name old) (name.items ∷ []) rest
    ∙ ap (λ b. map bytes_of_name old ++ (b ∷ rest)) n ∙ ap (λ us. map bytes_of_name old ++ us) (sym split) ∙ w
