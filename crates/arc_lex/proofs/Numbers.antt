-- A number only grows with its digits.
use Rattle.std.proofs.Common.{◌≡◌, ◌≤◌, ◌<◌, ℕ, ◌+◌, ◌*◌, List, [], ◌∷◌, length, drop, get_or, Bool, true, false, cond, nat_le, Some, None, refl, ap, arith}
use Rattle.std.proofs.lemmas.Bool.{leb-false}
use Rattle.std.proofs.lemmas.List.{drop_more}
use Rattle.arc_lex.specs.declared.number.Base.{Base}
use Rattle.arc_lex.specs.declared.number.Base.TheVariants as bases
use Rattle.arc_lex.specs.Texts.{number_after, digit_value}
use Rattle.arc_lex.specs.private.Bases.{factor}
use Rattle.arc_lex.specs.declared.number.TheConstants.{LARGEST}

one_digit : (base : Base) (n d : ℕ) → n ≤ n * factor base + d
one_digit bases.Ten n d = omega arith
one_digit bases.Sixteen n d = omega arith

pub number_grows : (base : Base) (n : ℕ) (ds : List ℕ) → n ≤ number_after (factor base) n ds
number_grows base n [] = omega arith
number_grows base n (d ∷ ds) = let h = number_grows base (n * factor base + digit_value d) ds in let k = one_digit base n (digit_value d) in omega (arith, h, k)

too_large : (n : ℕ) → cond (nat_le n LARGEST) (Some n) None ≡ None → LARGEST < n
too_large n e = go (nat_le n LARGEST) refl e
  where
    go : (t : Bool) → nat_le n LARGEST ≡ t → cond t (Some n) None ≡ None → LARGEST < n
    go true h e = cc
    go false h e = leb-false n LARGEST h

-- what is too large with a digit 0 more is too large with any digits
pub number_over : (base : Base) (n : ℕ) (ds : List ℕ) (i : ℕ) → i < length ds → number_after (factor base) n (drop i ds) ≡ number_after (factor base) 0 ds
    → cond (nat_le (n * factor base) LARGEST) (Some (n * factor base)) None ≡ None → LARGEST < number_after (factor base) 0 ds
number_over base n ds i within e none =
    let d = digit_value (get_or ds i 0) in
    let step : number_after (factor base) n (drop i ds) ≡ number_after (factor base) (n * factor base + d) (drop (i + 1) ds) = ap (number_after (factor base) n) (drop_more ds i 0 within) in
    let above = number_grows base (n * factor base + d) (drop (i + 1) ds) in
    let over = too_large (n * factor base) none in
    omega (arith, e, step, above, over)
