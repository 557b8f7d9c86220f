-- The first component of a selector, by positions in the selector.
use Rattle.std.proofs.Common.{◌≡◌, ℕ, ◌+◌, ◌-◌, Bool, true, false, not, ◌==◌, ◌&&◌, nat_eq, cond, List, [], ◌∷◌, length, take, drop, refl, sym, ap, ◌∙◌, add_comm, add-one}
use Rattle.std.specs.List.{prefix_len, starts_with}
use Rattle.std.proofs.lemmas.List.{take_rest}
use Rattle.arc_spec.specs.Families.{without_underscores, first_component, ends_before, begins_with_word}

-- what is left after the underscores
pub rest_is : (xs : List ℕ) → drop (prefix_len (λ c. c == 95) xs) xs ≡ without_underscores xs
unfolding without_underscores
rest_is [] = refl
rest_is (x ∷ xs) = elim (x == 95) as (λ b. drop (cond b (1 + prefix_len (λ c. c == 95) xs) 0) (x ∷ xs) ≡ cond b (without_underscores xs) (x ∷ xs)) [ true ↦ rw (add_comm 1, add-one) (rest_is xs) | false ↦ refl ]

-- what stands before the colon
pub component_is : (xs : List ℕ) → take (prefix_len (λ c. not (c == 58)) xs) xs ≡ first_component xs
unfolding first_component
component_is [] = refl
component_is (x ∷ xs) = elim (x == 58) as (λ b. take (cond (not b) (1 + prefix_len (λ c. not (c == 58)) xs) 0) (x ∷ xs) ≡ cond b [] (x ∷ first_component xs)) [ true ↦ refl | false ↦ rw (add_comm 1, add-one) (ap (λ ys. x ∷ ys) (component_is xs)) ]

-- a word begins a component where it leads it and ends before what is left
pub begins_is : (component word : List ℕ) → begins_with_word component word ≡ starts_with nat_eq component word && ends_before (drop (length word) component)
unfolding begins_with_word
begins_is component [] = refl
begins_is [] (w ∷ ws) = refl
begins_is (c ∷ others) (w ∷ ws) = elim (w == c) as (λ b. b && begins_with_word others ws ≡ b && starts_with nat_eq others ws && ends_before (drop (length ws) others)) [ true ↦ begins_is others ws | false ↦ refl ]

-- where a word leads, it ends before what is left
pub begins_then : (component word : List ℕ) (ends : Bool) → starts_with nat_eq component word ≡ true → ends ≡ ends_before (take (length component - length word) (drop (length word) component)) → ends ≡ begins_with_word component word
begins_then component word ends s e = e ∙ ap ends_before (take_rest component (length word)) ∙ sym (begins_is component word ∙ ap (λ b. b && ends_before (drop (length word) component)) s)

-- where it doesn't, it isn't found
pub begins_not : (component word : List ℕ) → starts_with nat_eq component word ≡ false → false ≡ begins_with_word component word
begins_not component word s = sym (begins_is component word ∙ ap (λ b. b && ends_before (drop (length word) component)) s)
