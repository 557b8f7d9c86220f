-- Counts of objects that are taken, of two lists of places, and the first place past the most.
use Rattle.std.proofs.Common.{◌≡◌, ℕ, zero, suc, List, [], ◌∷◌, ◌++◌, Option, Some, None, slice_get, refl, sym, ap, ◌∙◌}
use Rattle.arc_judge.specs.declared.taken.Taken.{Taken}
use Rattle.arc_judge.specs.private.ExpressionJudgements.{one_counted, counted}

pub counted-append : (t : Taken) (xs ys : List ℕ) → counted t (xs ++ ys) ≡ counted (counted t xs) ys
counted-append t [] ys = refl
counted-append t (x ∷ xs) ys = counted-append (one_counted t x) xs ys

-- places are counted in two parts
pub counted_both : (before mid after : Taken) (xs ys : List ℕ) → mid ≡ counted before xs → after ≡ counted mid ys → after ≡ counted before (xs ++ ys)
counted_both before mid after xs ys m a = a ∙ ap (λ t. counted t ys) m ∙ sym (counted-append before xs ys)

abbrev at_least : ℕ → Option ℕ → Taken
at_least n past = record { left = n; past = past }

past_first : (p : ℕ) (all : List ℕ) → counted (at_least 0 (Some p)) all ≡ at_least 0 (Some p)
past_first p [] = refl
past_first p (x ∷ all) = past_first p all

-- the first place past so many
pub past_is : (n : ℕ) (all : List ℕ) → (counted (at_least n None) all).past ≡ slice_get all n
past_is n [] = refl
past_is zero (x ∷ all) = ap (λ t. t.past) (past_first x all)
past_is (suc n) (x ∷ all) = past_is n all
