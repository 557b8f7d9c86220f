-- The piece at the front is what the definition says.
use Rattle.std.proofs.Common.{◌≡◌, ◌<◌, ℕ, List, [], ◌∷◌, length, Bool, false, nat_eq, arith}
use Rattle.std.proofs.lemmas.Bool.{cond_both, eqb-true, eqb-false, both_ways}
use Rattle.arc_lex.specs.Bytes.{is_letter, is_digit, is_blank}
use Rattle.arc_lex.specs.private.Pieces.{Blank, Law, name_piece, number_piece, text_piece, character_piece, at_piece, line_piece, slash_piece, not_line, not_at, not_character, not_text, not_number, not_name, piece}
use Rattle.arc_lex.proofs.MarkLaw.{at_law, blank_law}
use Rattle.arc_lex.proofs.NameLaw.{name_law}
use Rattle.arc_lex.proofs.NumberLaw.{number_law}
use Rattle.arc_lex.proofs.SkipLaw.{line_law, slash_law}
use Rattle.arc_lex.proofs.TextLaw.{text_law, character_law}

module _ (starts : Bool) (b : ℕ) (bs : List ℕ) where
  not_line_law : is_letter b ≡ false → is_digit b ≡ false → nat_eq b 34 ≡ false → nat_eq b 39 ≡ false → nat_eq b 64 ≡ false → nat_eq b 35 ≡ false → Law starts (b ∷ bs) (not_line starts b bs)
  not_line_law l d q c a n = cond_both (is_blank b) (Blank (nat_eq b 10)) (slash_piece (b ∷ bs)) (Law starts (b ∷ bs)) (blank_law starts b bs)
      (λ e. slash_law starts b (both_ways (is_letter b) l) (both_ways (is_digit b) d) (eqb-false b 34 q) (eqb-false b 39 c) (eqb-false b 64 a) (eqb-false b 35 n) e bs)

  not_at_law : is_letter b ≡ false → is_digit b ≡ false → nat_eq b 34 ≡ false → nat_eq b 39 ≡ false → nat_eq b 64 ≡ false → Law starts (b ∷ bs) (not_at starts b bs)
  not_at_law l d q c a = cond_both (nat_eq b 35) (line_piece starts bs) (not_line starts b bs) (Law starts (b ∷ bs)) (λ e. line_law starts b bs (eqb-true b 35 e)) (not_line_law l d q c a)

  not_character_law : is_letter b ≡ false → is_digit b ≡ false → nat_eq b 34 ≡ false → nat_eq b 39 ≡ false → Law starts (b ∷ bs) (not_character starts b bs)
  not_character_law l d q c = cond_both (nat_eq b 64) (at_piece (b ∷ bs)) (not_at starts b bs) (Law starts (b ∷ bs)) (λ e. at_law starts b bs (eqb-true b 64 e)) (not_at_law l d q c)

  not_text_law : is_letter b ≡ false → is_digit b ≡ false → nat_eq b 34 ≡ false → Law starts (b ∷ bs) (not_text starts b bs)
  not_text_law l d q = cond_both (nat_eq b 39) (character_piece (b ∷ bs)) (not_character starts b bs) (Law starts (b ∷ bs)) (λ e. character_law starts b bs (eqb-true b 39 e)) (not_character_law l d q)

  not_number_law : is_letter b ≡ false → is_digit b ≡ false → Law starts (b ∷ bs) (not_number starts b bs)
  not_number_law l d = cond_both (nat_eq b 34) (text_piece (b ∷ bs)) (not_text starts b bs) (Law starts (b ∷ bs)) (λ e. text_law starts b bs (eqb-true b 34 e)) (not_text_law l d)

  not_name_law : is_letter b ≡ false → Law starts (b ∷ bs) (not_name starts b bs)
  not_name_law l = cond_both (is_digit b) (number_piece (b ∷ bs)) (not_number starts b bs) (Law starts (b ∷ bs)) (number_law starts b bs) (not_number_law l)

pub piece_law : (starts : Bool) (bytes : List ℕ) → 0 < length bytes → Law starts bytes (piece starts bytes)
unfolding piece
piece_law starts [] some = absurd (omega arith)
piece_law starts (b ∷ bs) some = cond_both (is_letter b) (name_piece (b ∷ bs)) (not_name starts b bs) (Law starts (b ∷ bs)) (name_law starts b bs) (not_name_law starts b bs)
