-- The piece where a `#`, a comment or a mark stands.
use Rattle.std.proofs.Common.{◌≡◌, inl, inr, ℕ, ◌+◌, List, [], ◌∷◌, ◌++◌, length, take, drop, Bool, true, false, ◌&&◌, nat_eq, cond, Option, Some, None, refl, sym, ap, subst, ◌∙◌, arith}
use Rattle.std.proofs.lemmas.Bool.{and_parts, eqb-true, cond_both, true≢false}
use Rattle.std.proofs.lemmas.List.{take-append-drop, length-take}
use Rattle.arc_lex.specs.declared.bytes.Class.TheVariants as c
use Rattle.arc_lex.specs.declared.piece.Rule.TheVariants as rules
use Rattle.arc_lex.specs.declared.mark.Mark.TheVariants as m
use Rattle.arc_lex.specs.Bytes.{run, is_letter, is_digit, is_blank}
use Rattle.arc_lex.specs.private.Pieces.{Skip, Broken, Law, line_piece, closed_piece, slash_piece, mark_piece}
use Rattle.arc_lex.specs.Source.{IsComment, IsOpenComment, IsOtherLine, Faultless, is_skipped, to_close}
use Rattle.arc_lex.specs.Tokens.{Sign}
use Rattle.arc_lex.proofs.Closes.{close_within}
use Rattle.arc_lex.proofs.Faultless.{faultless}
use Rattle.arc_lex.proofs.Firsts.{head_is, tail_is, digit_not}
use Rattle.arc_lex.proofs.MarkLaw.{mark_law}
use Rattle.arc_lex.proofs.Runs.{all_run, run_ends, run_cut, length_run}

-- ---- a `#`

module _ (starts : Bool) (bs : List ℕ) where
  line_clean : (rest : List ℕ) → (IsOtherLine starts (35 ∷ rest) → ⊥) → Faultless starts (35 ∷ rest)
  line_clean rest free = faultless starts 35 rest (inr (inr refl)) (λ k. absurd (omega (arith, k))) (λ digit. absurd (digit_not 35 35 digit refl refl))
      (λ k. absurd (omega (arith, k))) (λ k. absurd (omega (arith, k))) (λ k h. omega (arith, k)) (λ k. free)

  right_line : (starts && is_skipped bs) ≡ true → Law starts (35 ∷ bs) (Skip (run c.InLine bs + 1))
  right_line e =
      let cut = run_cut c.InLine bs in
      let same : (starts && is_skipped (take (run c.InLine bs) bs ++ drop (run c.InLine bs) bs)) ≡ true = subst (λ us. (starts && is_skipped us) ≡ true) cut e in (
        35 ∷ take (run c.InLine bs) bs,
        drop (run c.InLine bs) bs,
        ap (λ us. 35 ∷ us) cut,
        (let k = length_run c.InLine bs in omega (arith, k)),
        omega arith,
        inr (inr (take (run c.InLine bs) bs, refl, same, all_run c.InLine bs, run_ends c.InLine bs)),
        line_clean (take (run c.InLine bs) bs ++ drop (run c.InLine bs) bs) (other same),
      )
    where
      other : {us : List ℕ} → (starts && is_skipped us) ≡ true → IsOtherLine starts (35 ∷ us) → ⊥
      other {us} h (rest, f, wrong) =
          let k : us ≡ rest = cc in
          true≢false (sym h ∙ (ap (λ vs. starts && is_skipped vs) k ∙ wrong))

  line_law_at : Law starts (35 ∷ bs) (line_piece starts bs)
  unfolding line_piece
  line_law_at = cond_both (starts && is_skipped bs) (Skip (run c.InLine bs + 1)) (Broken rules.Directive) (Law starts (35 ∷ bs)) right_line (λ e. inr (bs, refl, e))

pub line_law : (starts : Bool) (b : ℕ) (bs : List ℕ) → b ≡ 35 → Law starts (b ∷ bs) (line_piece starts bs)
line_law starts b bs e = subst (λ u. Law starts (u ∷ bs) (line_piece starts bs)) (sym e) (line_law_at starts bs)

-- ---- a comment

module _ (starts : Bool) (bs : List ℕ) where
  slash_clean : (rest : List ℕ) → (IsOpenComment (47 ∷ rest) → ⊥) → Faultless starts (47 ∷ rest)
  slash_clean rest free = faultless starts 47 rest (inr (inl ([], Sign m.Slash, refl))) (λ k. free) (λ digit. absurd (digit_not 47 47 digit refl refl))
      (λ k. absurd (omega (arith, k))) (λ k. absurd (omega (arith, k))) (λ k h. omega (arith, k)) (λ k h. omega (arith, k))

  line_comment : Law starts (47 ∷ 47 ∷ bs) (Skip (run c.InLine bs + 2))
  line_comment = (
    47 ∷ 47 ∷ take (run c.InLine bs) bs,
    drop (run c.InLine bs) bs,
    ap (λ us. 47 ∷ 47 ∷ us) (run_cut c.InLine bs),
    (let k = length_run c.InLine bs in omega (arith, k)),
    omega arith,
    inl (take (run c.InLine bs) bs, refl, all_run c.InLine bs, run_ends c.InLine bs),
    slash_clean (47 ∷ take (run c.InLine bs) bs ++ drop (run c.InLine bs) bs) (λ (rest, f, unclosed). let k = head_is 47 42 _ rest (tail_is 47 47 _ (42 ∷ rest) f) in omega (arith, k)),
  )

  block_comment : (found : Option ℕ) → to_close false bs ≡ found → Law starts (47 ∷ 42 ∷ bs) (closed_piece found)
  block_comment None e = (bs, refl, e)
  block_comment (Some n) e =
      let cut : bs ≡ take n bs ++ drop n bs = sym (take-append-drop n bs) in
      let within = close_within false bs n e in
      let size : length (take n bs) ≡ n = omega (arith, length-take n bs, within) in
      let closed : to_close false (take n bs ++ drop n bs) ≡ Some (length (take n bs)) = sym (ap (to_close false) cut) ∙ (e ∙ ap Some (sym size)) in (
        47 ∷ 42 ∷ take n bs,
        drop n bs,
        ap (λ us. 47 ∷ 42 ∷ us) cut,
        omega (arith, size),
        omega arith,
        inr (inl (take n bs, refl, closed)),
        slash_clean (42 ∷ take n bs ++ drop n bs) (not_open closed),
      )
    where
      not_open : {us : List ℕ} {k : ℕ} → to_close false us ≡ Some k → IsOpenComment (47 ∷ 42 ∷ us) → ⊥
      not_open {us} {k} h (rest, f, unclosed) =
          let j : us ≡ rest = cc in
          let none : to_close false us ≡ None = ap (to_close false) j ∙ unclosed in
          cc

-- ---- a comment or a mark

module _ (starts : Bool) (b : ℕ) (letter : is_letter b ≡ true → ⊥) (digit : is_digit b ≡ true → ⊥) (quote : b ≡ 34 → ⊥) (apostrophe : b ≡ 39 → ⊥) (at : b ≡ 64 → ⊥) (line : b ≡ 35 → ⊥)
    (blank : is_blank b ≡ false) where
  alone : (bs : List ℕ) → (IsComment (b ∷ bs) → ⊥) → Law starts (b ∷ bs) (mark_piece (b ∷ bs))
  alone bs free = mark_law starts b bs letter digit quote apostrophe at line blank free

  no_comment : (d : ℕ) (bs : List ℕ) → (nat_eq b 47 && nat_eq d 47) ≡ false → (nat_eq b 47 && nat_eq d 42) ≡ false → IsComment (b ∷ d ∷ bs) → ⊥
  no_comment d bs e f (x, rest, g, inl h) =
      let first : b ≡ 47 = cc in
      let second : d ≡ 47 = cc in
      let k : (nat_eq 47 47 && nat_eq 47 47) ≡ false = subst (λ u. (nat_eq u 47 && nat_eq 47 47) ≡ false) first (subst (λ u. (nat_eq b 47 && nat_eq u 47) ≡ false) second e) in
      cc
  no_comment d bs e f (x, rest, g, inr h) =
      let first : b ≡ 47 = cc in
      let second : d ≡ 42 = cc in
      let k : (nat_eq 47 47 && nat_eq 42 42) ≡ false = subst (λ u. (nat_eq u 47 && nat_eq 42 42) ≡ false) first (subst (λ u. (nat_eq b 47 && nat_eq u 42) ≡ false) second f) in
      cc

  block_or_mark : (d : ℕ) (bs : List ℕ) → (nat_eq b 47 && nat_eq d 47) ≡ false
      → Law starts (b ∷ d ∷ bs) (cond (nat_eq b 47 && nat_eq d 42) (closed_piece (to_close false bs)) (mark_piece (b ∷ d ∷ bs)))
  block_or_mark d bs e = cond_both (nat_eq b 47 && nat_eq d 42) (closed_piece (to_close false bs)) (mark_piece (b ∷ d ∷ bs)) (Law starts (b ∷ d ∷ bs))
      (λ f.
      let both = and_parts (nat_eq b 47) (nat_eq d 42) f in
      subst (λ u. Law starts (u ∷ d ∷ bs) (closed_piece (to_close false bs))) (sym (eqb-true b 47 both.0))
      (subst (λ u. Law starts (47 ∷ u ∷ bs) (closed_piece (to_close false bs))) (sym (eqb-true d 42 both.1)) (block_comment starts bs (to_close false bs) refl)))
      (λ f. alone (d ∷ bs) (no_comment d bs e f))

  pub slash_law : (bs : List ℕ) → Law starts (b ∷ bs) (slash_piece (b ∷ bs))
  unfolding slash_piece
  slash_law [] = alone [] (λ (x, rest, g, h). cc)
  slash_law (d ∷ bs) = cond_both (nat_eq b 47 && nat_eq d 47) (Skip (run c.InLine bs + 2)) (cond (nat_eq b 47 && nat_eq d 42) (closed_piece (to_close false bs)) (mark_piece (b ∷ d ∷ bs)))
      (Law starts (b ∷ d ∷ bs))
      (λ f.
      let both = and_parts (nat_eq b 47) (nat_eq d 47) f in
      subst (λ u. Law starts (u ∷ d ∷ bs) (Skip (run c.InLine bs + 2))) (sym (eqb-true b 47 both.0))
      (subst (λ u. Law starts (47 ∷ u ∷ bs) (Skip (run c.InLine bs + 2))) (sym (eqb-true d 47 both.1)) (line_comment starts bs)))
      (block_or_mark d bs)
