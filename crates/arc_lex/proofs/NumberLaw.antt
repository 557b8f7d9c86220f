-- The piece where a digit stands.
use Rattle.std.proofs.Common.{◌≡◌, ◌≤◌, inl, inr, ℕ, ℤ, List, [], ◌∷◌, ◌++◌, length, take, drop, Bool, true, add-one, Option, Some, None, refl, sym, ap, subst, ◌∙◌, arith}
use Rattle.std.proofs.lemmas.Bool.{and_from, or_right}
use Rattle.arc_lex.specs.declared.bytes.Class.TheVariants as c
use Rattle.arc_lex.specs.Bytes.{has, all_in, run, is_letter, is_digit}
use Rattle.arc_lex.specs.private.Pieces.{Law, integer_found, number_piece}
use Rattle.arc_lex.specs.Source.{IsToken, IsNumberLike, IsWrongInteger, Faultless}
use Rattle.arc_lex.specs.Texts.{integer}
use Rattle.arc_lex.specs.Tokens.{Sort, Integer}
use Rattle.arc_lex.proofs.Faultless.{faultless, comment_first}
use Rattle.arc_lex.proofs.Firsts.{head_is, first_opens, opens, by_digit, digit_not}
use Rattle.arc_lex.proofs.Runs.{run_longest, all_run, run_ends, run_cut, length_run, front_is_run}

module _ (starts : Bool) (b : ℕ) (bs : List ℕ) (digit : is_digit b ≡ true) where
  abbrev name : List ℕ
  name = b ∷ take (run c.InName bs) bs

  abbrev rest : List ℕ
  rest = drop (run c.InName bs) bs

  in_name : has c.InName b ≡ true
  in_name = or_right (is_letter b) (is_digit b) digit

  run_name : take (run c.InName (b ∷ bs)) (b ∷ bs) ≡ name
  run_name = let first = in_name in rw (first, add-one) refl

  number_like : IsNumberLike name
  number_like = (digit, and_from (has c.InName b) (all_in c.InName (take (run c.InName bs) bs)) in_name (all_run c.InName bs))

  cut : b ∷ bs ≡ name ++ rest
  cut = ap (λ us. b ∷ us) (run_cut c.InName bs)

  no_longer : (ys r : List ℕ) (o : Sort) → name ++ rest ≡ ys ++ r → IsToken ys o → length ys ≤ length name
  no_longer [] r o e h = omega arith
  no_longer (d ∷ ys) r o e h =
      let same : b ≡ d = head_is b d (take (run c.InName bs) bs ++ rest) (ys ++ r) e in
      let (value, suffixed, f) = by_digit o b digit (subst (opens o) (sym same) (first_opens o d ys h)) in
      let all = (subst (IsToken (d ∷ ys)) f h).0.1 in
      let whole : b ∷ bs ≡ (d ∷ ys) ++ r = cut ∙ e in
      let short : length (d ∷ ys) ≤ run c.InName (b ∷ bs) = subst (λ us. length (d ∷ ys) ≤ run c.InName us) (sym whole) (run_longest c.InName (d ∷ ys) r all) in
      let full : length name ≡ run c.InName (b ∷ bs) = ap length (sym run_name) ∙ length_run c.InName (b ∷ bs) in
      omega (arith, short, full)

  -- a wrong integer is these bytes
  wrong_is : IsWrongInteger (name ++ rest) → integer name ≡ None
  wrong_is (xs, r, e, like, ends, none) =
      let one = front_is_run c.InName (name ++ rest) xs r e like.1 ends in
      let two = front_is_run c.InName (name ++ rest) name rest refl number_like.1 (run_ends c.InName bs) in
      ap integer (two ∙ sym one) ∙ none

  clean : (i : ℤ × Bool) → integer name ≡ Some i → Faultless starts (name ++ rest)
  clean i e = faultless starts b (take (run c.InName bs) bs ++ rest) (inr (inl (take (run c.InName bs) bs, Integer i.0 i.1, (number_like, e))))
      (λ k. absurd (digit_not b 47 digit refl k)) (λ _ h. let none = wrong_is h in cc) (λ k. absurd (digit_not b 34 digit refl k))
      (λ k. absurd (digit_not b 39 digit refl k)) (λ k h. digit_not b 64 digit refl k) (λ k h. digit_not b 35 digit refl k)

  found : (i : Option (ℤ × Bool)) → integer name ≡ i → Law starts (b ∷ bs) (integer_found i (length name))
  found None e = inr (inr (name, rest, cut, number_like, run_ends c.InName bs, e))
  found (Some i) e = (
    name,
    rest,
    cut,
    refl,
    omega arith,
    record { token = (number_like, e); longest = no_longer },
    λ h. digit_not b 47 digit refl (comment_first b _ h),
    clean i e,
  )

  pub number_law : Law starts (b ∷ bs) (number_piece (b ∷ bs))
  unfolding number_piece
  number_law = rw run_name (found (integer name) refl)
