-- Unused words and marks.
use Rattle.std.proofs.Common.{◌≡◌, ◌<◌, ℕ, zero, suc, List, [], ◌∷◌, length, get_or, Bool, true, false, ◌||◌, ◌&&◌, not, nat_eq, Some, refl, sym, ap, ◌∙◌, arith}
use Rattle.std.specs.Cmp.Lexicographic.{pointwise}
use Rattle.std.specs.List.{Contains, starts_with}
use Rattle.std.proofs.lemmas.Bool.{true≢false, not-true, eqb-true}
use Rattle.std.proofs.lemmas.Slice.Eq.{bytes_eq-Decides}
use Rattle.arc_lex.specs.declared.mark.TheConstants.{MARKS}
use Rattle.arc_lex.specs.declared.word.TheConstants.{WORDS, AT_WORDS}
use Rattle.arc_lex.specs.declared.mark.Mark.{Mark}
use Rattle.arc_lex.specs.declared.word.Word.{Word}
use Rattle.arc_lex.specs.declared.word.AtWord.{AtWord}
use Rattle.arc_lex.specs.declared.bytes.Class.TheVariants as c
use Rattle.arc_lex.specs.Bytes.{all_in, begins, is_letter}
use Rattle.arc_lex.specs.Spellings.{mark_bytes, word_bytes, at_bytes, unused}
use Rattle.arc_lex.specs.private.Pieces.{is_one, itself}
use Rattle.arc_lex.proofs.Marks.{opens_mark, mark_stands, word_stands, at_stands}
use Rattle.arc_lex.proofs.Tables.{nth, all_pass, passes, longest_first}

-- ---- elements of a list

pub place_of : (those : List (List ℕ)) (xs : List ℕ) → Contains those xs → (n : ℕ) × (nth n those ≡ Some xs)
place_of [] xs (k, l, e) = absurd (omega (arith, l))
place_of (y ∷ those) xs (zero, l, e) = (0, ap Some e)
place_of (y ∷ those) xs (suc k, l, e) = let (n, h) = place_of those xs (k, omega (arith, l), e) in (suc n, h)

pub at_place : (those : List (List ℕ)) (n : ℕ) (xs : List ℕ) → nth n those ≡ Some xs → Contains those xs
at_place [] n xs e = cc
at_place (y ∷ those) zero xs e = let same : y ≡ xs = cc in (0, omega arith, same)
at_place (y ∷ those) (suc n) xs e = let (k, l, h) = at_place those n xs e in (suc k, omega (arith, l), h)

pub one_found : (those : List (List ℕ)) (xs : List ℕ) → is_one those xs ≡ true → Contains those xs
one_found [] xs e = cc
one_found (y ∷ those) xs e = go (pointwise nat_eq y xs) refl (one_found those xs) e
  where
    go : (t : Bool) → pointwise nat_eq y xs ≡ t → (is_one those xs ≡ true → Contains those xs) → (t || is_one those xs) ≡ true → Contains (y ∷ those) xs
    go true h later e = (0, omega arith, (bytes_eq-Decides y xs).0 h)
    go false h later e = let (k, l, same) = later e in (suc k, omega (arith, l), same)

pub none_found : (those : List (List ℕ)) (xs : List ℕ) → is_one those xs ≡ false → Contains those xs → ⊥
none_found [] xs e (k, l, h) = omega (arith, l)
none_found (y ∷ those) xs e (k, l, h) = go (pointwise nat_eq y xs) refl k l h (none_found those xs) e
  where
    go : (t : Bool) → pointwise nat_eq y xs ≡ t → (k : ℕ) → k < length (y ∷ those) → get_or (y ∷ those) k xs ≡ xs → (is_one those xs ≡ false → Contains those xs → ⊥)
        → (t || is_one those xs) ≡ false → ⊥
    go true q k l h later e = cc
    go false q zero l h later e = true≢false (sym ((bytes_eq-Decides y xs).1 h) ∙ q)
    go false q (suc k) l h later e = later e (k, omega (arith, l), h)

-- a test that all of them pass
pub each_passes : (test : List ℕ → Bool) (xs : List ℕ) → all_pass test unused ≡ true → Contains unused xs → test xs ≡ true
each_passes test xs h h' = let (n, e) = place_of unused xs h' in passes test unused n xs h e

-- ---- what they begin with

-- a byte with which neither a number, a text, a character nor a blank begins
abbrev pub opens_unused : ℕ → Bool
opens_unused b = (is_letter b || nat_eq b 64) || opens_mark b

abbrev pub opens_with_unused : List ℕ → Bool
opens_with_unused [] = false
opens_with_unused (b ∷ bs) = opens_unused b

pub unused_opens : (xs : List ℕ) → Contains unused xs → opens_with_unused xs ≡ true
unused_opens xs h = each_passes opens_with_unused xs refl h

abbrev in_name : List ℕ → Bool
in_name xs = not (begins c.Letter xs) || all_in c.InName xs

-- one that begins with a letter has nothing but letters, `_` and digits
pub unused_in_name : (xs : List ℕ) → begins c.Letter xs ≡ true → Contains unused xs → all_in c.InName xs ≡ true
unused_in_name xs letter h = or_false (begins c.Letter xs) (all_in c.InName xs) letter (each_passes in_name xs refl h)
  where
    or_false : (t u : Bool) → t ≡ true → (not t || u) ≡ true → u ≡ true
    or_false true u e k = k
    or_false false u e k = cc

-- one that begins with neither a letter nor an `@` is one byte
abbrev alone : List ℕ → Bool
alone xs = (begins c.Letter xs || starts_with nat_eq xs (64 ∷ [])) || nat_eq (length xs) 1

one_byte : (b : ℕ) (bs : List ℕ) → nat_eq (length (b ∷ bs)) 1 ≡ true → bs ≡ []
one_byte b [] e = refl
one_byte b (d ∷ bs) e = absurd (omega (arith, eqb-true (length (b ∷ d ∷ bs)) 1 e))

pub unused_alone : (b : ℕ) (bs : List ℕ) → (is_letter b ≡ true → ⊥) → (b ≡ 64 → ⊥) → Contains unused (b ∷ bs) → bs ≡ []
unused_alone b bs letter at h = go (is_letter b) refl (nat_eq 64 b) refl (each_passes alone (b ∷ bs) refl h)
  where
    go : (t : Bool) → is_letter b ≡ t → (u : Bool) → nat_eq 64 b ≡ u → ((t || (u && true)) || nat_eq (length (b ∷ bs)) 1) ≡ true → bs ≡ []
    go true e u f k = absurd (letter e)
    go false e true f k = absurd (at (sym (eqb-true 64 b f)))
    go false e false f k = one_byte b bs k

-- ---- they are no others

module _ {A : Type 0} (bytes_of : A → List ℕ) (those : List A) where
  abbrev apart : A → Bool
  apart a = not (is_one unused (bytes_of a))

  no_other : all_pass apart those ≡ true → (n : ℕ) (a : A) → nth n those ≡ Some a → Contains unused (bytes_of a) → ⊥
  no_other h n a e k = none_found unused (bytes_of a) (not-true (is_one unused (bytes_of a)) (passes apart those n a h e)) k

pub no_word : (word : Word) → Contains unused (word_bytes word) → ⊥
no_word word = let (n, e) = word_stands word in no_other word_bytes WORDS refl n word e

pub no_at_word : (word : AtWord) → Contains unused (at_bytes word) → ⊥
no_at_word word = let (n, e) = at_stands word in no_other at_bytes AT_WORDS refl n word e

pub no_mark : (mark : Mark) → Contains unused (mark_bytes mark) → ⊥
no_mark mark = let (n, e) = mark_stands mark in no_other mark_bytes MARKS refl n mark e

pub unused_longest_first : longest_first itself unused ≡ true
unused_longest_first = refl
