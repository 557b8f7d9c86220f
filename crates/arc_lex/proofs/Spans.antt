-- The bytes of a token's span are the token.
use Rattle.std.proofs.Common.{◌≡◌, ℕ, ◌+◌, ◌-◌, List, [], ◌∷◌, ◌++◌, length, length-append, append_assoc, take, drop, Bool, true, false, ◌||◌, nat_eq, Option, None, slice_range, refl, sym, ap, subst, ◌∙◌, arith}
use Rattle.std.proofs.lemmas.List.{take_at, drop_at}
use Rattle.arc_lex.specs.declared.piece.Rule.{Rule}
use Rattle.arc_lex.specs.Source.{IsToken, Cuts, done, breaks, blank, skipped, token, Tokens, SpansSpell}
use Rattle.arc_lex.specs.Tokens.{Tok}

-- the part in the middle
middle : (source before xs rest : List ℕ) (at n : ℕ) → source ≡ before ++ (xs ++ rest) → length before ≡ at → length xs ≡ n → xs ≡ slice_range source at (at + n)
middle source before xs rest at n c l m =
    let after_run : drop at source ≡ xs ++ rest = ap (drop at) c ∙ drop_at before (xs ++ rest) at l in
    let size : at + n - at ≡ n = omega arith in
    sym (ap (λ k. take k (drop at source)) size ∙ (ap (take n) after_run ∙ take_at xs rest n m))

spans_after : (source : List ℕ) (at : ℕ) (starts : Bool) (bytes : List ℕ) (ts : List Tok) (broken : Option (ℕ × Rule)) → Cuts at starts bytes ts broken → (before : List ℕ) → source ≡ before ++ bytes → length before ≡ at → SpansSpell source ts
spans_after source at starts _ _ _ (done _ _) before c l = tt
spans_after source at starts _ _ _ (breaks _ _ _ rule h) before c l = tt
spans_after source at starts _ _ _ (blank _ _ b rest ts broken is clean more) before c l =
    spans_after source (at + 1) (nat_eq b 10 || starts) rest ts broken more (before ++ b ∷ []) (c ∙ sym (append_assoc before (b ∷ []) rest)) (omega (arith, l, length-append before (b ∷ [])))
spans_after source at starts _ _ _ (skipped _ _ xs rest ts broken is clean more) before c l =
    spans_after source (at + length xs) false rest ts broken more (before ++ xs) (c ∙ sym (append_assoc before xs rest)) (omega (arith, l, length-append before xs))
spans_after source at starts _ _ _ (token _ _ xs s rest ts broken g free clean more) before c l = (
  subst (λ us. IsToken us s) (middle source before xs rest at (length xs) c l refl) g.token,
  spans_after source (at + length xs) false rest ts broken more (before ++ xs) (c ∙ sym (append_assoc before xs rest)) (omega (arith, l, length-append before xs)),
)

pub spans_spell : (source : List ℕ) (ts : List Tok) → Tokens source ts → SpansSpell source ts
spans_spell source ts (short, cut) = spans_after source 0 true source ts None cut [] refl refl
