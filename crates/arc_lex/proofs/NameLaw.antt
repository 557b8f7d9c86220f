-- The piece where a letter stands.
use Rattle.std.proofs.Common.{◌≡◌, ◌≤◌, ◌⊎◌, inl, inr, ℕ, List, [], ◌∷◌, ◌++◌, length, take, drop, Bool, true, add-one, false, Option, Some, None, refl, sym, ap, subst, ◌∙◌, arith}
use Rattle.std.proofs.lemmas.Bool.{and_parts, and_from, or_left}
use Rattle.arc_lex.specs.declared.bytes.Class.TheVariants as c
use Rattle.arc_lex.specs.declared.word.TheConstants.{WORDS}
use Rattle.arc_lex.specs.declared.word.Word.{Word}
use Rattle.arc_lex.specs.Bytes.{has, all_in, begins, run, is_letter, is_digit}
use Rattle.arc_lex.specs.private.Pieces.{Whole, Law, first_equal, is_one, word_or_name, name_piece}
use Rattle.arc_lex.specs.Source.{IsToken, IsWordLike, Faultless}
use Rattle.arc_lex.specs.Spellings.{word_bytes, unused}
use Rattle.arc_lex.specs.Tokens.{Sort, Name, Key, Unused}
use Rattle.arc_lex.proofs.Faultless.{faultless, comment_first}
use Rattle.arc_lex.proofs.Firsts.{head_is, first_opens, opens, by_letter, letter_not, letter_not_digit}
use Rattle.arc_lex.proofs.Marks.{word_stands, word_opens}
use Rattle.arc_lex.proofs.Runs.{run_longest, all_run, run_cut, length_run}
use Rattle.arc_lex.proofs.Tables.{equal_sound, equal_found}
use Rattle.arc_lex.proofs.Unused.{unused_in_name, one_found, none_found}

-- a name and a reserved word have nothing but letters, `_` and digits
all_of : (o : Sort) (ys : List ℕ) → begins c.Letter ys ≡ true → ((bytes : List ℕ) × (o ≡ Name bytes)) ⊎ (((word : Word) × (o ≡ Key word)) ⊎ (o ≡ Unused)) → IsToken ys o → all_in c.InName ys ≡ true
all_of o ys first (inl (bytes, e)) h =
    let (same, (d, ds, f, letter, others), free, also) = subst (IsToken ys) e h in
    subst (λ us. all_in c.InName us ≡ true) (sym f) (and_from (has c.InName d) (all_in c.InName ds) (or_left (is_letter d) (is_digit d) letter) others)
all_of o ys first (inr (inr e)) h = unused_in_name ys first (subst (IsToken ys) e h)
all_of o ys first (inr (inl (word, e))) h =
    let same = subst (IsToken ys) e h in
    subst (λ us. all_in c.InName us ≡ true) (sym same) (and_parts (begins c.Letter (word_bytes word)) (all_in c.InName (word_bytes word)) (word_opens word)).1

module _ (starts : Bool) (b : ℕ) (bs : List ℕ) (letter : is_letter b ≡ true) where
  abbrev name : List ℕ
  name = b ∷ take (run c.InName bs) bs

  abbrev rest : List ℕ
  rest = drop (run c.InName bs) bs

  in_name : has c.InName b ≡ true
  in_name = or_left (is_letter b) (is_digit b) letter

  run_name : take (run c.InName (b ∷ bs)) (b ∷ bs) ≡ name
  run_name = let first = in_name in rw (first, add-one) refl

  word_like : IsWordLike name
  word_like = (b, take (run c.InName bs) bs, refl, letter, all_run c.InName bs)

  no_longer : (ys r : List ℕ) (o : Sort) → name ++ rest ≡ ys ++ r → IsToken ys o → length ys ≤ length name
  no_longer [] r o cut h = omega arith
  no_longer (d ∷ ys) r o cut h =
      let same : b ≡ d = head_is b d (take (run c.InName bs) bs ++ rest) (ys ++ r) cut in
      let first : opens o b = subst (opens o) (sym same) (first_opens o d ys h) in
      let all = all_of o (d ∷ ys) (subst (λ u. is_letter u ≡ true) same letter) (by_letter o b letter first) h in
      let whole : b ∷ bs ≡ (d ∷ ys) ++ r = ap (λ us. b ∷ us) (run_cut c.InName bs) ∙ cut in
      let short : length (d ∷ ys) ≤ run c.InName (b ∷ bs) = subst (λ us. length (d ∷ ys) ≤ run c.InName us) (sym whole) (run_longest c.InName (d ∷ ys) r all) in
      let full : length name ≡ run c.InName (b ∷ bs) = ap length (sym run_name) ∙ length_run c.InName (b ∷ bs) in
      omega (arith, short, full)

  clean : (o : Sort) → IsToken name o → Faultless starts (name ++ rest)
  clean o t = faultless starts b (take (run c.InName bs) bs ++ rest) (inr (inl (take (run c.InName bs) bs, o, t))) (λ e. absurd (letter_not b 47 letter refl e))
      (λ digit. absurd (letter_not_digit b letter digit)) (λ e. absurd (letter_not b 34 letter refl e)) (λ e. absurd (letter_not b 39 letter refl e))
      (λ e h. letter_not b 64 letter refl e) (λ e h. letter_not b 35 letter refl e)

  law_of : (o : Sort) → IsToken name o → Law starts (b ∷ bs) (Whole o (length name))
  law_of o t = (name, rest, ap (λ us. b ∷ us) (run_cut c.InName bs), refl, omega arith, record { token = t; longest = no_longer }, λ h. letter_not b 47 letter refl (comment_first b _ h), clean o t)

  found : (w : Option Word) (other : Bool) → first_equal word_bytes WORDS name ≡ w → is_one unused name ≡ other → Law starts (b ∷ bs) (word_or_name w other name)
  found (Some word) other e f = law_of (Key word) (sym (equal_sound word_bytes WORDS name word e))
  found None true e f = law_of Unused (one_found unused name f)
  found None false e f =
      law_of (Name name) (refl, word_like, λ word same. equal_found word_bytes WORDS (word_stands word).0 name word (word_stands word).1 same e, none_found unused name f)

  pub name_law : Law starts (b ∷ bs) (name_piece (b ∷ bs))
  unfolding name_piece
  name_law = rw run_name (found (first_equal word_bytes WORDS name) (is_one unused name) refl refl)
