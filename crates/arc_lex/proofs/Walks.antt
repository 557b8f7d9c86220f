-- One piece further.
use Rattle.std.proofs.Common.{◌≡◌, ℕ, ◌+◌, List, [], ◌∷◌, ◌++◌, length, length-append, drop, Bool, false, ◌||◌, Option, refl, sym, ap, subst, ◌∙◌, arith}
use Rattle.std.proofs.lemmas.List.{drop_at}
use Rattle.arc_lex.specs.declared.piece.Rule.{Rule}
use Rattle.arc_lex.specs.declared.token.Token.{Token}
use Rattle.arc_lex.specs.private.Pieces.{Piece, Blank, Skip, Whole, Broken, Law, Fits}
use Rattle.arc_lex.specs.Source.{Cuts, blank, skipped, token}
use Rattle.arc_lex.specs.Tokens.{Sort, Tok, tok, toks}

pub law_fits : (starts : Bool) (bytes : List ℕ) (p : Piece) → Law starts bytes p → Fits p (length bytes)
law_fits starts bytes (Blank newline) (b, rest, c, is, newline_is, clean) = let e = ap length c in omega (arith, e)
law_fits starts bytes (Skip n) (xs, rest, c, l, some, is, clean) = let e = ap length c in (some, omega (arith, e, l, length-append xs rest))
law_fits starts bytes (Whole s n) (xs, rest, c, l, some, g, free, clean) = let e = ap length c in (some, omega (arith, e, l, length-append xs rest))
law_fits starts bytes (Broken rule) h = tt

-- one piece further, the rest is cut in the same way
module _ (at : ℕ) (starts : Bool) (bytes rest : List ℕ) (ts : List Tok) (broken : Option (ℕ × Rule)) where
  pub blank_cuts : (newline : Bool) → Law starts bytes (Blank newline) → rest ≡ drop 1 bytes → Cuts (at + 1) (newline || starts) rest ts broken → Cuts at starts bytes ts broken
  blank_cuts newline (b, r, c, is, newline_is, clean) back h =
      subst (λ us. Cuts at starts us ts broken) (sym c)
      (blank at starts b r ts broken is clean (subst (λ u. Cuts (at + 1) (u || starts) r ts broken) newline_is (subst (λ us. Cuts (at + 1) (newline || starts) us ts broken) (back ∙ ap (drop 1) c) h)))

  module _ (n : ℕ) (back : rest ≡ drop n bytes) (h : Cuts (at + n) false rest ts broken) where
    after_front : (xs r : List ℕ) → bytes ≡ xs ++ r → length xs ≡ n → Cuts (at + length xs) false r ts broken
    after_front xs r c l = subst (λ j. Cuts (at + j) false r ts broken) (sym l) (subst (λ us. Cuts (at + n) false us ts broken) (back ∙ (ap (drop n) c ∙ drop_at xs r n l)) h)

    pub skip_cuts : Law starts bytes (Skip n) → Cuts at starts bytes ts broken
    skip_cuts (xs, r, c, l, some, is, clean) = subst (λ us. Cuts at starts us ts broken) (sym c) (skipped at starts xs r ts broken is clean (after_front xs r c l))

    pub token_cuts : (s : Sort) → Law starts bytes (Whole s n) → Cuts at starts bytes (record { sort = s; from = at; to = at + n } ∷ ts) broken
    token_cuts s (xs, r, c, l, some, g, free, clean) =
        subst (λ us. Cuts at starts us (record { sort = s; from = at; to = at + n } ∷ ts) broken) (sym c)
        (subst (λ j. Cuts at starts (xs ++ r) (record { sort = s; from = at; to = at + j } ∷ ts) broken) l (token at starts xs s r ts broken g free clean (after_front xs r c l)))

pub toks_push : (ts : List Token) (t : Token) (more : List Tok) → toks (ts ++ t ∷ []) ++ more ≡ toks ts ++ (tok t ∷ more)
toks_push [] t more = refl
toks_push (u ∷ ts) t more = ap (λ us. tok u ∷ us) (toks_push ts t more)
