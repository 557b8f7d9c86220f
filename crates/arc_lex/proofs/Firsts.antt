-- The first byte of a token shows its sort.
use Rattle.std.proofs.Common.{◌≡◌, ◌⊎◌, inl, inr, ℕ, ℤ, List, [], ◌∷◌, Bool, true, false, ◌&&◌, refl, sym, subst, arith}
use Rattle.std.proofs.lemmas.Bool.{and_parts, eqb-true}
use Rattle.std.proofs.lemmas.Bool.Decides.{nat_tests}
use Rattle.arc_lex.specs.declared.bytes.Class.TheVariants as c
use Rattle.arc_lex.specs.declared.mark.Mark.{Mark}
use Rattle.arc_lex.specs.declared.word.Word.{Word}
use Rattle.arc_lex.specs.declared.word.AtWord.{AtWord}
use Rattle.arc_lex.specs.Bytes.{all_in, begins, is_letter, is_digit, is_blank}
use Rattle.arc_lex.specs.Source.{IsToken}
use Rattle.arc_lex.specs.Tokens.{Sort, Name, Integer, Character, Text, Key, At, Sign, Unused}
use Rattle.arc_lex.proofs.Marks.{mark_opens, word_opens, at_opens, opens_mark, opens_with_mark, opens_with}
use Rattle.arc_lex.proofs.Unused.{opens_unused, unused_opens}

pub head_is : (b d : ℕ) (xs ys : List ℕ) → b ∷ xs ≡ d ∷ ys → b ≡ d
head_is b d xs ys e = cc

pub tail_is : (b d : ℕ) (xs ys : List ℕ) → b ∷ xs ≡ d ∷ ys → xs ≡ ys
tail_is b d xs ys e = cc

-- with what a token of a sort begins
abbrev pub opens : Sort → ℕ → Type 0
opens (Name bytes) b = is_letter b ≡ true
opens (Key word) b = is_letter b ≡ true
opens (Integer value suffixed) b = is_digit b ≡ true
opens (Character byte) b = b ≡ 39
opens (Text bytes) b = b ≡ 34
opens (At word) b = b ≡ 64
opens (Sign mark) b = opens_mark b ≡ true
opens Unused b = opens_unused b ≡ true

pub first_opens : (o : Sort) (b : ℕ) (ys : List ℕ) → IsToken (b ∷ ys) o → opens o b
first_opens (Name bytes) b ys (e, (d, ds, f, letter, others), h, k) = subst (λ u. is_letter u ≡ true) (sym (head_is b d ys ds f)) letter
first_opens (Key word) b ys h =
    (and_parts (begins c.Letter (b ∷ ys)) (all_in c.InName (b ∷ ys)) (subst (λ us. (begins c.Letter us && all_in c.InName us) ≡ true) (sym h) (word_opens word))).0
first_opens (Integer value suffixed) b ys ((digit, all), e) = digit
first_opens (Character byte) b ys (parts, e, v) = head_is b 39 ys _ e
first_opens (Text bytes) b ys (parts, e, v) = head_is b 34 ys _ e
first_opens (At word) b ys h = eqb-true b 64 (subst (λ us. opens_with 64 us ≡ true) (sym h) (at_opens word))
first_opens (Sign mark) b ys h = subst (λ us. opens_with_mark us ≡ true) (sym h) (mark_opens mark)
first_opens Unused b ys h = unused_opens (b ∷ ys) h

-- no token is empty
pub not_empty : (o : Sort) → IsToken [] o → ⊥
not_empty (Name bytes) (e, (d, ds, f, letter, others), h, k) = cc
not_empty (Key word) h = let k : (begins c.Letter [] && all_in c.InName []) ≡ true = subst (λ us. (begins c.Letter us && all_in c.InName us) ≡ true) (sym h) (word_opens word) in cc
not_empty (Integer value suffixed) ((digit, all), e) = cc
not_empty (Character byte) (parts, e, v) = cc
not_empty (Text bytes) (parts, e, v) = cc
not_empty (At word) h = let k : opens_with 64 [] ≡ true = subst (λ us. opens_with 64 us ≡ true) (sym h) (at_opens word) in cc
not_empty (Sign mark) h = let k : opens_with_mark [] ≡ true = subst (λ us. opens_with_mark us ≡ true) (sym h) (mark_opens mark) in cc
not_empty Unused h = let k = unused_opens [] h in cc

-- which tests of a byte exclude one another
pub letter_not_digit : (b : ℕ) → is_letter b ≡ true → is_digit b ≡ true → ⊥
letter_not_digit b h k = grind (arith, nat_tests)

pub letter_not : (b n : ℕ) → is_letter b ≡ true → is_letter n ≡ false → b ≡ n → ⊥
letter_not b n h k e = cc

pub digit_not : (b n : ℕ) → is_digit b ≡ true → is_digit n ≡ false → b ≡ n → ⊥
digit_not b n h k e = cc

pub blank_not : (b n : ℕ) → is_blank b ≡ true → is_blank n ≡ false → b ≡ n → ⊥
blank_not b n h k e = cc

pub blank_not_letter : (b : ℕ) → is_blank b ≡ true → is_letter b ≡ true → ⊥
blank_not_letter b h k = grind (arith, nat_tests)

pub blank_not_digit : (b : ℕ) → is_blank b ≡ true → is_digit b ≡ true → ⊥
blank_not_digit b h k = grind (arith, nat_tests)

pub mark_not_letter : (b : ℕ) → opens_mark b ≡ true → is_letter b ≡ true → ⊥
mark_not_letter b h k = grind (arith, nat_tests)

pub mark_not_digit : (b : ℕ) → opens_mark b ≡ true → is_digit b ≡ true → ⊥
mark_not_digit b h k = grind (arith, nat_tests)

pub mark_not_blank : (b : ℕ) → opens_mark b ≡ true → is_blank b ≡ true → ⊥
mark_not_blank b h k = grind (arith, nat_tests)

pub mark_not : (b n : ℕ) → opens_mark b ≡ true → opens_mark n ≡ false → b ≡ n → ⊥
mark_not b n h k e = cc

pub unused_not : (b n : ℕ) → opens_unused b ≡ true → opens_unused n ≡ false → b ≡ n → ⊥
unused_not b n h k e = cc

pub unused_not_digit : (b : ℕ) → opens_unused b ≡ true → is_digit b ≡ true → ⊥
unused_not_digit b h k = grind (arith, nat_tests)

pub unused_not_blank : (b : ℕ) → opens_unused b ≡ true → is_blank b ≡ true → ⊥
unused_not_blank b h k = grind (arith, nat_tests)

-- a token that begins with a letter is a name, a reserved word that is used, or an unused one, and so on
pub by_letter : (o : Sort) (b : ℕ) → is_letter b ≡ true → opens o b → ((bytes : List ℕ) × (o ≡ Name bytes)) ⊎ (((word : Word) × (o ≡ Key word)) ⊎ (o ≡ Unused))
by_letter (Name bytes) b e h = inl (bytes, refl)
by_letter (Key word) b e h = inr (inl (word, refl))
by_letter Unused b e h = inr (inr refl)
by_letter (Integer value suffixed) b e h = absurd (letter_not_digit b e h)
by_letter (Character byte) b e h = absurd (letter_not b 39 e refl h)
by_letter (Text bytes) b e h = absurd (letter_not b 34 e refl h)
by_letter (At word) b e h = absurd (letter_not b 64 e refl h)
by_letter (Sign mark) b e h = absurd (mark_not_letter b h e)

pub by_digit : (o : Sort) (b : ℕ) → is_digit b ≡ true → opens o b → (value : ℤ) × (suffixed : Bool) × (o ≡ Integer value suffixed)
by_digit (Name bytes) b e h = absurd (letter_not_digit b h e)
by_digit (Key word) b e h = absurd (letter_not_digit b h e)
by_digit (Integer value suffixed) b e h = (value, suffixed, refl)
by_digit (Character byte) b e h = absurd (digit_not b 39 e refl h)
by_digit (Text bytes) b e h = absurd (digit_not b 34 e refl h)
by_digit (At word) b e h = absurd (digit_not b 64 e refl h)
by_digit (Sign mark) b e h = absurd (mark_not_digit b h e)
by_digit Unused b e h = absurd (unused_not_digit b h e)

pub by_quote : (o : Sort) (b : ℕ) → b ≡ 34 → opens o b → (bytes : List ℕ) × (o ≡ Text bytes)
by_quote (Name bytes) b e h = absurd (letter_not b 34 h refl e)
by_quote (Key word) b e h = absurd (letter_not b 34 h refl e)
by_quote (Integer value suffixed) b e h = absurd (digit_not b 34 h refl e)
by_quote (Character byte) b e h = absurd (omega (arith, e, h))
by_quote (Text bytes) b e h = (bytes, refl)
by_quote (At word) b e h = absurd (omega (arith, e, h))
by_quote (Sign mark) b e h = absurd (mark_not b 34 h refl e)
by_quote Unused b e h = absurd (unused_not b 34 h refl e)

pub by_apostrophe : (o : Sort) (b : ℕ) → b ≡ 39 → opens o b → (byte : ℕ) × (o ≡ Character byte)
by_apostrophe (Name bytes) b e h = absurd (letter_not b 39 h refl e)
by_apostrophe (Key word) b e h = absurd (letter_not b 39 h refl e)
by_apostrophe (Integer value suffixed) b e h = absurd (digit_not b 39 h refl e)
by_apostrophe (Character byte) b e h = (byte, refl)
by_apostrophe (Text bytes) b e h = absurd (omega (arith, e, h))
by_apostrophe (At word) b e h = absurd (omega (arith, e, h))
by_apostrophe (Sign mark) b e h = absurd (mark_not b 39 h refl e)
by_apostrophe Unused b e h = absurd (unused_not b 39 h refl e)

pub by_at : (o : Sort) (b : ℕ) → b ≡ 64 → opens o b → ((word : AtWord) × (o ≡ At word)) ⊎ (o ≡ Unused)
by_at (Name bytes) b e h = absurd (letter_not b 64 h refl e)
by_at (Key word) b e h = absurd (letter_not b 64 h refl e)
by_at (Integer value suffixed) b e h = absurd (digit_not b 64 h refl e)
by_at (Character byte) b e h = absurd (omega (arith, e, h))
by_at (Text bytes) b e h = absurd (omega (arith, e, h))
by_at (At word) b e h = inl (word, refl)
by_at Unused b e h = inr refl
by_at (Sign mark) b e h = absurd (mark_not b 64 h refl e)

-- what begins with none of those is a mark, also an unused one
pub by_mark : (o : Sort) (b : ℕ) → (is_letter b ≡ true → ⊥) → (is_digit b ≡ true → ⊥) → (b ≡ 34 → ⊥) → (b ≡ 39 → ⊥) → (b ≡ 64 → ⊥) → opens o b
    → ((mark : Mark) × (o ≡ Sign mark)) ⊎ (o ≡ Unused)
by_mark (Name bytes) b l d q c a h = absurd (l h)
by_mark (Key word) b l d q c a h = absurd (l h)
by_mark (Integer value suffixed) b l d q c a h = absurd (d h)
by_mark (Character byte) b l d q c a h = absurd (c h)
by_mark (Text bytes) b l d q c a h = absurd (q h)
by_mark (At word) b l d q c a h = absurd (a h)
by_mark (Sign mark) b l d q c a h = inl (mark, refl)
by_mark Unused b l d q c a h = inr refl

-- no token begins with a blank
pub blank_opens_none : (o : Sort) (b : ℕ) → is_blank b ≡ true → opens o b → ⊥
blank_opens_none (Name bytes) b e h = blank_not_letter b e h
blank_opens_none (Key word) b e h = blank_not_letter b e h
blank_opens_none (Integer value suffixed) b e h = blank_not_digit b e h
blank_opens_none (Character byte) b e h = blank_not b 39 e refl h
blank_opens_none (Text bytes) b e h = blank_not b 34 e refl h
blank_opens_none (At word) b e h = blank_not b 64 e refl h
blank_opens_none (Sign mark) b e h = mark_not_blank b h e
blank_opens_none Unused b e h = unused_not_blank b h e

-- no token begins with a `#`
pub line_opens_none : (o : Sort) (b : ℕ) → b ≡ 35 → opens o b → ⊥
line_opens_none (Name bytes) b e h = letter_not b 35 h refl e
line_opens_none (Key word) b e h = letter_not b 35 h refl e
line_opens_none (Integer value suffixed) b e h = digit_not b 35 h refl e
line_opens_none (Character byte) b e h = omega (arith, e, h)
line_opens_none (Text bytes) b e h = omega (arith, e, h)
line_opens_none (At word) b e h = omega (arith, e, h)
line_opens_none (Sign mark) b e h = mark_not b 35 h refl e
line_opens_none Unused b e h = unused_not b 35 h refl e
