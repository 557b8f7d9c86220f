-- A full-expression of so many tokens at most, read of the tokens up to the limit and one more.
use Rattle.std.proofs.lemmas.Bool.{lt-ltb, le-ltb}
use Rattle.std.proofs.Common.{◌≡◌, ◌<◌, ◌≤◌, ◌+◌, ◌-◌, ◌⊎◌, inl, inr, ◌&&◌, true, false, suc, nat_lt, arith, List, length, take, drop, Ok, Err, Some, refl, sym, subst, ◌∙◌}
use Rattle.arc_lex.specs.declared.token.Token.{Token}
use Rattle.arc_lex.specs.Tokens.{Tok, toks}
use Rattle.arc_form.specs.Form.{unlimited}
use Rattle.arc_form.specs.Reader.{Read, Fault, misfit, too_deep, goes_over, up_to}
use Rattle.arc_form.proofs.Sets.{and_of, and_no}
use Rattle.arc_form.proofs.Front.{Stops, form_stops, never_deep, length_toks}
use Rattle.arc_form.proofs.Front as front
use Rattle.arc_ast.specs.Tree.{ExprTree}
use Rattle.arc_grammar.specs.Grammar.{reads, reads_free, rules, full, expression, expr, body}
use Rattle.arc_grammar.proofs.Fits.{facts, sure, sure_full, read_rule}

whole_stops : (ts : List Tok) → Stops (reads_free expression) ts
whole_stops = form_stops facts body sure expression sure_full.0

full_is : (ts : List Tok) → reads full ts ≡ up_to (Some 1000) (reads_free expression) ts
unfolding full
full_is ts = refl

whole_is : (ts : List Tok) (x : Read ExprTree) → rules unlimited expr ts ≡ x → reads_free expression ts ≡ x
unfolding body
whole_is ts x e = sym (read_rule unlimited expr ts) ∙ e

-- nothing is too deep in it
plain_fault : (ts r : List Tok) (y : Fault) → rules unlimited expr ts ≡ Err (y, r) → rules unlimited expr ts ≡ Err (misfit, r)
plain_fault ts r y e = subst (λ z. rules unlimited expr ts ≡ Err (z, r)) (never_deep facts body sure expression sure_full.0 ts r y (whole_is ts _ e)) e

module _ (tokens ahead rest r : List Token) (first : ahead ≡ take 1001 tokens) where
  pub rest_short : (y : Fault) → rules unlimited expr (toks ahead) ≡ Err (y, toks rest) → length rest ≤ length ahead
  rest_short y e = front.rest_short 1000 (reads_free expression) whole_stops tokens ahead rest r first y (whole_is (toks ahead) _ e)

  over : (x : Read ExprTree) → rules unlimited expr (toks ahead) ≡ x → goes_over 1000 (toks ahead) x ≡ true → r ≡ drop 1000 tokens → reads full (toks tokens) ≡ Err (too_deep, toks r)
  over x e o d = full_is (toks tokens) ∙ front.over_so 1000 (reads_free expression) whole_stops tokens ahead rest r first x (whole_is (toks ahead) _ e) o d

  pub then_over : (t : ExprTree) → rules unlimited expr (toks ahead) ≡ Ok (t, toks rest) → 1000 < length ahead - length rest → r ≡ drop 1000 tokens → reads full (toks tokens) ≡ Err (too_deep, toks r)
  then_over t e p d = over (Ok (t, toks rest)) e (lt-ltb (length (toks rest) + 1000) (length (toks ahead)) (omega (arith, p, length_toks ahead, length_toks rest))) d

  pub then_fits : (t : ExprTree) → rules unlimited expr (toks ahead) ≡ Ok (t, toks rest) → length ahead - length rest ≤ 1000 → r ≡ drop (length ahead - length rest) tokens → reads full (toks tokens) ≡ Ok (t, toks r)
  then_fits t e p d =
      full_is (toks tokens) ∙ front.fits_so 1000 (reads_free expression) whole_stops tokens ahead rest r first (Ok (t, toks rest)) (whole_is (toks ahead) _ e) refl
      (le-ltb (length (toks rest) + 1000) (length (toks ahead)) (omega (arith, p, length_toks ahead, length_toks rest))) d

  pub fails_over : (y : Fault) → rules unlimited expr (toks ahead) ≡ Err (y, toks rest) → 1000 < length ahead → 1000 ≤ length ahead - length rest → r ≡ drop 1000 tokens → reads full (toks tokens) ≡ Err (too_deep, toks r)
  fails_over y e q p d =
      over (Err (y, toks rest)) e (and_of _ _ (lt-ltb 1000 (length (toks ahead)) (omega (arith, q, length_toks ahead)))
      (lt-ltb (length (toks rest) + 1000) (suc (length (toks ahead))) (omega (arith, p, rest_short y e, length_toks ahead, length_toks rest)))) d

  pub fails_fits : (y : Fault) → rules unlimited expr (toks ahead) ≡ Err (y, toks rest) → ((1000 < length ahead) × (length ahead - length rest < 1000)) ⊎ (length ahead ≤ 1000) → r ≡ drop (length ahead - length rest) tokens → reads full (toks tokens) ≡ Err (misfit, toks r)
  fails_fits y e p d =
      full_is (toks tokens) ∙ front.fits_so 1000 (reads_free expression) whole_stops tokens ahead rest r first (Err (misfit, toks rest)) (whole_is (toks ahead) _ (plain_fault (toks ahead) (toks rest) y e)) refl (few p) d
    where
      few : ((1000 < length ahead) × (length ahead - length rest < 1000)) ⊎ (length ahead ≤ 1000) → (nat_lt 1000 (length (toks ahead)) && nat_lt (length (toks rest) + 1000) (suc (length (toks ahead)))) ≡ false
      few (inr p) = rw (le-ltb 1000 (length (toks ahead)) (omega (arith, length_toks ahead))) refl
      few (inl p) = and_no _ _ (le-ltb (length (toks rest) + 1000) (suc (length (toks ahead))) (omega (arith, p.1, rest_short y e, length_toks ahead, length_toks rest)))
