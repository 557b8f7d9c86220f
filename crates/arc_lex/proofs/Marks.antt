-- Each mark and each reserved word stands in its table.
use Rattle.std.specs.Prelude.{position, unwrap_or}
use Rattle.std.specs.Str.{bytes_eq}
use Rattle.std.proofs.Common.{◌≡◌, ℕ, Bool, true, false, Option, Some, not, ◌&&◌, nat_eq, List, [], ◌∷◌, take, None, is_some, sym, ap, ◌∙◌, refl}
use Rattle.arc_lex.specs.declared.mark.Mark.{Mark}
use Rattle.arc_lex.specs.declared.mark.Mark.TheVariants as m
use Rattle.arc_lex.specs.declared.word.Word.{Word}
use Rattle.arc_lex.specs.declared.word.Word.TheVariants as w
use Rattle.arc_lex.specs.declared.word.AtWord.{AtWord}
use Rattle.arc_lex.specs.declared.word.AtWord.TheVariants as ats
use Rattle.arc_lex.specs.declared.bytes.Class.TheVariants as c
use Rattle.arc_lex.specs.declared.mark.TheConstants.{MARKS}
use Rattle.arc_lex.specs.declared.word.TheConstants.{WORDS, AT_WORDS}
use Rattle.arc_lex.specs.Bytes.{all_in, begins, is_letter, is_digit, is_blank}
use Rattle.arc_lex.specs.Spellings.{mark_bytes, word_bytes, at_bytes}
use Rattle.arc_lex.specs.private.Pieces.{first_equal}
use Rattle.arc_lex.proofs.Tables.{nth, passes, longest_first, equal_sound, one_entry}

-- the number of the first entry of a table that is written so, or 0 where none is
abbrev place_of : {A : Type 0} → (written : A → List ℕ) → (table : List A) → List ℕ → ℕ
place_of written table bytes = unwrap_or (position (λ it. bytes_eq bytes (written it)) table) 0

-- The first line names a variant, so that the second one is checked for each of the others apart.
pub mark_stands : (it : Mark) → (n : ℕ) × (nth n MARKS ≡ Some it)
mark_stands m.OpenBrace = (place_of mark_bytes MARKS (mark_bytes m.OpenBrace), refl)
mark_stands it = (place_of mark_bytes MARKS (mark_bytes it), refl)

pub word_stands : (it : Word) → (n : ℕ) × (nth n WORDS ≡ Some it)
word_stands w.Bool = (place_of word_bytes WORDS (word_bytes w.Bool), refl)
word_stands it = (place_of word_bytes WORDS (word_bytes it), refl)

pub at_stands : (it : AtWord) → (n : ℕ) × (nth n AT_WORDS ≡ Some it)
at_stands ats.Class = (place_of at_bytes AT_WORDS (at_bytes ats.Class), refl)
at_stands it = (place_of at_bytes AT_WORDS (at_bytes it), refl)

pub marks_longest_first : longest_first mark_bytes MARKS ≡ true
marks_longest_first = refl

pub at_words_longest_first : longest_first at_bytes AT_WORDS ≡ true
at_words_longest_first = refl

-- a byte with which no other token and no blank begins
abbrev pub opens_mark : ℕ → Bool
opens_mark b = (not (is_letter b) && not (is_digit b)) && (((not (nat_eq b 34) && not (nat_eq b 64)) && (not (nat_eq b 39) && not (nat_eq b 35))) && not (is_blank b))

-- whether the first byte opens a mark
abbrev pub opens_with_mark : List ℕ → Bool
opens_with_mark [] = false
opens_with_mark (b ∷ bs) = opens_mark b

abbrev pub opens_with : ℕ → List ℕ → Bool
opens_with a [] = false
opens_with a (b ∷ bs) = nat_eq b a

pub mark_opens : (mark : Mark) → opens_with_mark (mark_bytes mark) ≡ true
mark_opens mark = let at = mark_stands mark in passes (λ k. opens_with_mark (mark_bytes k)) MARKS at.0 mark refl at.1

pub word_opens : (word : Word) → (begins c.Letter (word_bytes word) && all_in c.InName (word_bytes word)) ≡ true
word_opens word = let at = word_stands word in passes (λ k. begins c.Letter (word_bytes k) && all_in c.InName (word_bytes k)) WORDS at.0 word refl at.1

pub at_opens : (word : AtWord) → opens_with 64 (at_bytes word) ≡ true
at_opens word = let at = at_stands word in passes (λ k. opens_with 64 (at_bytes k)) AT_WORDS at.0 word refl at.1

one_of : (found : Option Mark) → is_some found ≡ true → (one : Mark) × (found ≡ Some one)
one_of None e = cc
one_of (Some one) e = (one, refl)

-- the first byte of a mark is a mark
pub first_alone : (mark : Mark) (b : ℕ) (ys : List ℕ) → b ∷ ys ≡ mark_bytes mark → (one : Mark) × (mark_bytes one ≡ b ∷ [])
first_alone mark b ys e =
    let at = mark_stands mark in
    let some = passes (λ k. is_some (first_equal mark_bytes MARKS (take 1 (mark_bytes k)))) MARKS at.0 mark refl at.1 in
    let one = one_of (first_equal mark_bytes MARKS (take 1 (mark_bytes mark))) some in
    (one.0, equal_sound mark_bytes MARKS (take 1 (mark_bytes mark)) one.0 one.1 ∙ sym (ap (take 1) e))

pub one_mark : (a b : Mark) → mark_bytes a ≡ mark_bytes b → a ≡ b
one_mark a b e = one_entry mark_bytes MARKS (mark_stands a).0 (mark_stands b).0 a b refl (mark_stands a).1 (mark_stands b).1 e

pub one_word : (a b : Word) → word_bytes a ≡ word_bytes b → a ≡ b
one_word a b e = one_entry word_bytes WORDS (word_stands a).0 (word_stands b).0 a b refl (word_stands a).1 (word_stands b).1 e

pub one_at_word : (a b : AtWord) → at_bytes a ≡ at_bytes b → a ≡ b
one_at_word a b e = one_entry at_bytes AT_WORDS (at_stands a).0 (at_stands b).0 a b refl (at_stands a).1 (at_stands b).1 e
