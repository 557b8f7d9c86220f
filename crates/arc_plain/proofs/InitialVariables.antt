-- The variables of a function that begins, one at a time: its arguments first, and 0 or nil for each other variable.
use Rattle.std.proofs.Common.{arith, ◌≡◌, ℕ, suc, ◌+◌, ◌-◌, ◌<◌, List, [], ◌∷◌, ◌++◌, append_assoc, sym, ap, ◌∙◌}
use Rattle.arc_spec.specs.World.{padded}

-- one variable more
pub padded_step : {A : Type 0} (none : A) (count i : ℕ) (whole held more : List A) (rest others : List A) (a : A) → i < count → whole ≡ held ++ padded none (count - i) rest
    → ((k : ℕ) → padded none (suc k) rest ≡ a ∷ padded none k others) → more ≡ held ++ a ∷ [] → whole ≡ more ++ padded none (count - (i + 1)) others
padded_step none count i whole held more rest others a below old next grown =
    let left = count - (i + 1) in
    let one : count - i ≡ suc left = omega (arith, below) in
    old ∙ ap (λ k. held ++ padded none k rest) one ∙ ap (λ l. held ++ l) (next left)
    ∙ sym (append_assoc held (a ∷ []) (padded none left others)) ∙ ap (λ l. l ++ padded none left others) (sym grown)
