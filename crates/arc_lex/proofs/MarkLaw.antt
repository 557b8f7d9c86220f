-- The piece where a mark, a word after `@` or a blank stands.
use Rattle.std.proofs.Common.{◌≡◌, ◌≤◌, ◌<◌, ◌⊎◌, inl, inr, ℕ, List, [], ◌∷◌, ◌++◌, length, true, false, Bool, nat_eq, Option, Some, None, refl, sym, subst, ◌∙◌, arith}
use Rattle.std.specs.List.{Contains}
use Rattle.arc_lex.specs.declared.mark.TheConstants.{MARKS}
use Rattle.arc_lex.specs.declared.word.TheConstants.{AT_WORDS}
use Rattle.arc_lex.specs.declared.mark.Mark.{Mark}
use Rattle.arc_lex.specs.declared.word.AtWord.{AtWord}
use Rattle.arc_lex.specs.Bytes.{is_letter, is_digit, is_blank}
use Rattle.arc_lex.specs.private.Pieces.{Blank, Whole, Law, first_front, itself, at_found, at_piece, mark_found, mark_piece}
use Rattle.arc_lex.specs.Source.{IsToken, IsComment, NothingBegins, Faultless}
use Rattle.arc_lex.specs.Spellings.{mark_bytes, at_bytes, unused}
use Rattle.arc_lex.specs.Tokens.{Sort, At, Sign, Unused}
use Rattle.arc_lex.proofs.Faultless.{faultless, comment_first}
use Rattle.arc_lex.proofs.Firsts.{head_is, first_opens, not_empty, opens, by_at, by_mark, digit_not, blank_not, blank_not_digit}
use Rattle.arc_lex.proofs.Marks.{mark_stands, at_stands, marks_longest_first, at_words_longest_first, first_alone}
use Rattle.arc_lex.proofs.Tables.{front_sound, front_stands}
use Rattle.arc_lex.proofs.Fronts.{entry_longest, unused_longest, no_token}
use Rattle.arc_lex.proofs.Unused.{at_place, unused_alone}

-- a token has a byte
some_bytes : (xs : List ℕ) (o : Sort) → IsToken xs o → 0 < length xs
some_bytes [] o t = absurd (not_empty o t)
some_bytes (x ∷ xs) o t = omega arith

-- what stands at the front is a whole token
whole : (starts : Bool) (xs us r : List ℕ) (o : Sort) → xs ≡ us ++ r → IsToken us o → ((ys s : List ℕ) (p : Sort) → xs ≡ ys ++ s → IsToken ys p → length ys ≤ length us) → (IsComment xs → ⊥)
    → Faultless starts xs → Law starts xs (Whole o (length us))
whole starts xs us r o c t longest free clean = (
  us,
  r,
  c,
  refl,
  some_bytes us o t,
  record { token = t; longest = λ ys s p cut h. longest ys s p (c ∙ cut) h },
  λ h. free (subst IsComment (sym c) h),
  subst (Faultless starts) c clean,
)

unused_stands : (xs u : List ℕ) → first_front itself unused xs ≡ Some u → Contains unused u
unused_stands xs u e = let (n, h) = front_stands itself unused xs u e in at_place unused n u h

-- ---- a word after `@`

module _ (starts : Bool) (bs : List ℕ) where
  at_which : (ys r : List ℕ) (o : Sort) → 64 ∷ bs ≡ ys ++ r → IsToken ys o → ((word : AtWord) × (ys ≡ at_bytes word)) ⊎ Contains unused ys
  at_which [] r o c t = absurd (not_empty o t)
  at_which (d ∷ ys) r o c t = go (by_at o 64 refl (subst (opens o) (sym (head_is 64 d bs (ys ++ r) c)) (first_opens o d ys t)))
    where
      go : ((word : AtWord) × (o ≡ At word)) ⊎ (o ≡ Unused) → ((word : AtWord) × (d ∷ ys ≡ at_bytes word)) ⊎ Contains unused (d ∷ ys)
      go (inl (word, e)) = inl (word, subst (IsToken (d ∷ ys)) e t)
      go (inr e) = inr (subst (IsToken (d ∷ ys)) e t)

  at_clean : (us r : List ℕ) (o : Sort) → 64 ∷ bs ≡ us ++ r → IsToken us o → Faultless starts (64 ∷ bs)
  at_clean [] r o c t = absurd (not_empty o t)
  at_clean (u ∷ us) r o c t = faultless starts 64 bs (inr (inl (us, o, subst (λ v. IsToken (v ∷ us) o) (sym (head_is 64 u bs (us ++ r) c)) t))) (λ k. absurd (omega (arith, k)))
      (λ digit. absurd (digit_not 64 64 digit refl refl)) (λ k. absurd (omega (arith, k))) (λ k. absurd (omega (arith, k))) (λ k (rest, f, none). none (u ∷ us) r o c t) (λ k. absurd (omega (arith, k)))

  no_comment : IsComment (64 ∷ bs) → ⊥
  no_comment h = let k = comment_first 64 bs h in omega (arith, k)

  at_law_of : (found : Option AtWord) (other : Option (List ℕ)) → first_front at_bytes AT_WORDS (64 ∷ bs) ≡ found → first_front itself unused (64 ∷ bs) ≡ other
      → Law starts (64 ∷ bs) (at_found found other)
  at_law_of None None e f = inl (bs, refl, no_token at_bytes AT_WORDS at_stands at_words_longest_first refl (64 ∷ bs) at_which e f)
  at_law_of None (Some u) e f =
      let (r, c) = front_sound itself unused (64 ∷ bs) u f in
      let t = unused_stands (64 ∷ bs) u f in
      whole starts (64 ∷ bs) u r Unused c t (unused_longest at_bytes AT_WORDS at_stands at_words_longest_first refl (64 ∷ bs) at_which e u f) no_comment (at_clean u r Unused c t)
  at_law_of (Some word) other e f =
      let (r, c) = front_sound at_bytes AT_WORDS (64 ∷ bs) word e in
      whole starts (64 ∷ bs) (at_bytes word) r (At word) c refl (entry_longest at_bytes AT_WORDS at_stands at_words_longest_first refl (64 ∷ bs) at_which word e) no_comment
      (at_clean (at_bytes word) r (At word) c refl)

pub at_law : (starts : Bool) (b : ℕ) (bs : List ℕ) → b ≡ 64 → Law starts (b ∷ bs) (at_piece (b ∷ bs))
unfolding at_piece
at_law starts b bs e = subst (λ d. Law starts (d ∷ bs) (at_found (first_front at_bytes AT_WORDS (d ∷ bs)) (first_front itself unused (d ∷ bs)))) (sym e)
    (at_law_of starts bs (first_front at_bytes AT_WORDS (64 ∷ bs)) (first_front itself unused (64 ∷ bs)) refl refl)

-- ---- a blank

pub blank_law : (starts : Bool) (b : ℕ) (bs : List ℕ) → is_blank b ≡ true → Law starts (b ∷ bs) (Blank (nat_eq b 10))
blank_law starts b bs e = (
  b,
  bs,
  refl,
  e,
  refl,
  faultless starts b bs (inl e) (λ k. absurd (blank_not b 47 e refl k)) (λ digit. absurd (blank_not_digit b e digit)) (λ k. absurd (blank_not b 34 e refl k))
      (λ k. absurd (blank_not b 39 e refl k)) (λ k h. blank_not b 64 e refl k) (λ k h. blank_not b 35 e refl k),
)

-- ---- a mark

module _ (starts : Bool) (b : ℕ) (bs : List ℕ) (letter : is_letter b ≡ true → ⊥) (digit : is_digit b ≡ true → ⊥) (quote : b ≡ 34 → ⊥) (apostrophe : b ≡ 39 → ⊥) (at : b ≡ 64 → ⊥)
    (line : b ≡ 35 → ⊥) (blank : is_blank b ≡ false) (comment : IsComment (b ∷ bs) → ⊥) where
  mark_which : (ys r : List ℕ) (o : Sort) → b ∷ bs ≡ ys ++ r → IsToken ys o → ((mark : Mark) × (ys ≡ mark_bytes mark)) ⊎ Contains unused ys
  mark_which [] r o c t = absurd (not_empty o t)
  mark_which (d ∷ ys) r o c t = go (by_mark o b letter digit quote apostrophe at (subst (opens o) (sym (head_is b d bs (ys ++ r) c)) (first_opens o d ys t)))
    where
      go : ((mark : Mark) × (o ≡ Sign mark)) ⊎ (o ≡ Unused) → ((mark : Mark) × (d ∷ ys ≡ mark_bytes mark)) ⊎ Contains unused (d ∷ ys)
      go (inl (mark, e)) = inl (mark, subst (IsToken (d ∷ ys)) e t)
      go (inr e) = inr (subst (IsToken (d ∷ ys)) e t)

  mark_clean : (us r : List ℕ) (o : Sort) → b ∷ bs ≡ us ++ r → IsToken us o → Faultless starts (b ∷ bs)
  mark_clean [] r o c t = absurd (not_empty o t)
  mark_clean (u ∷ us) r o c t = faultless starts b bs (inr (inl (us, o, subst (λ v. IsToken (v ∷ us) o) (sym (head_is b u bs (us ++ r) c)) t)))
      (λ k (rest, f, unclosed). comment (42, rest, f, inr refl)) (λ h. absurd (digit h)) (λ k. absurd (quote k)) (λ k. absurd (apostrophe k)) (λ k h. at k) (λ k h. line k)

  nothing : first_front mark_bytes MARKS (b ∷ bs) ≡ None → first_front itself unused (b ∷ bs) ≡ None → NothingBegins (b ∷ bs)
  nothing e f = record { first = b; others = bs; splits = refl; no_blank = blank; no_line = line; no_token = λ ys o h. none ys h (by_mark o b letter digit quote apostrophe at (first_opens o b ys h)) }
    where
      no_front : (us r : List ℕ) (o : Sort) → b ∷ bs ≡ us ++ r → IsToken us o → ⊥
      no_front = no_token mark_bytes MARKS mark_stands marks_longest_first refl (b ∷ bs) mark_which e f

      none : (ys : List ℕ) {o : Sort} → IsToken (b ∷ ys) o → ((mark : Mark) × (o ≡ Sign mark)) ⊎ (o ≡ Unused) → ⊥
      none ys h (inl (mark, g)) =
          let (one, alone) = first_alone mark b ys (subst (IsToken (b ∷ ys)) g h) in
          no_front (b ∷ []) bs (Sign one) refl (sym alone)
      none ys h (inr g) =
          let t : Contains unused (b ∷ ys) = subst (IsToken (b ∷ ys)) g h in
          no_front (b ∷ []) bs Unused refl (subst (λ us. Contains unused (b ∷ us)) (unused_alone b ys letter at t) t)

  mark_law_of : (found : Option Mark) (other : Option (List ℕ)) → first_front mark_bytes MARKS (b ∷ bs) ≡ found → first_front itself unused (b ∷ bs) ≡ other
      → Law starts (b ∷ bs) (mark_found found other)
  mark_law_of None None e f = nothing e f
  mark_law_of None (Some u) e f =
      let (r, c) = front_sound itself unused (b ∷ bs) u f in
      let t = unused_stands (b ∷ bs) u f in
      whole starts (b ∷ bs) u r Unused c t (unused_longest mark_bytes MARKS mark_stands marks_longest_first refl (b ∷ bs) mark_which e u f) comment (mark_clean u r Unused c t)
  mark_law_of (Some mark) other e f =
      let (r, c) = front_sound mark_bytes MARKS (b ∷ bs) mark e in
      whole starts (b ∷ bs) (mark_bytes mark) r (Sign mark) c refl (entry_longest mark_bytes MARKS mark_stands marks_longest_first refl (b ∷ bs) mark_which mark e) comment
      (mark_clean (mark_bytes mark) r (Sign mark) c refl)

  pub mark_law : Law starts (b ∷ bs) (mark_piece (b ∷ bs))
  unfolding mark_piece
  mark_law = mark_law_of (first_front mark_bytes MARKS (b ∷ bs)) (first_front itself unused (b ∷ bs)) refl refl
