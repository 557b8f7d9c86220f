-- The temporary before the last one is removed from the places, the last of which lies at the end.
use Rattle.std.proofs.Common.{arith, ◌≡◌, ℕ, suc, ◌+◌, List, [], ◌∷◌, ◌++◌, length, take, drop, reverse, get_or, refl, sym, ap, ◌∙◌}
use Rattle.std.proofs.lemmas.List.{reverse-append, take-append-drop, length-drop, drop_more}
use Rattle.arc_plain.specs.Views.{FollowsLast}

none_left : (l : List ℕ) → length l ≡ 0 → l ≡ []
none_left [] h = refl
none_left (x ∷ l) h = absurd (omega (arith, h))

-- the places without the one before the last, where the last one lies at the end
pub second_follows : (all others : List ℕ) (i second : ℕ) → length all ≡ i + 2 → second ≡ get_or all i second → others ≡ take i all ++ drop (suc i) all → FollowsLast (reverse all) second (reverse others)
second_follows all others i second count is removed =
    let last = get_or all (i + 1) 0 in
    let front = take i all in
    let one : suc i ≡ i + 1 = omega arith in
    let none : drop (i + 1 + 1) all ≡ [] = none_left (drop (i + 1 + 1) all) (omega (arith, count, length-drop (i + 1 + 1) all)) in
    let end : drop (i + 1) all ≡ last ∷ [] = drop_more all (i + 1) 0 (omega (arith, count)) ∙ ap (λ l. last ∷ l) none in
    let both : drop i all ≡ second ∷ last ∷ [] = drop_more all i second (omega (arith, count)) ∙ ap (λ x. x ∷ drop (i + 1) all) (sym is) ∙ ap (λ l. second ∷ l) end in
    let whole : reverse all ≡ last ∷ second ∷ reverse front =
    ap reverse (sym (take-append-drop i all) ∙ ap (λ l. front ++ l) both) ∙ reverse-append front (second ∷ last ∷ []) in
    let rest : reverse others ≡ last ∷ reverse front = ap reverse (removed ∙ ap (λ n. front ++ drop n all) one ∙ ap (λ l. front ++ l) end) ∙ reverse-append front (last ∷ []) in
    (last, (reverse front, (whole, rest)))
