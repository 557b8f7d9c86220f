-- One rule is broken at a place.
use Rattle.std.proofs.Common.{◌≡◌, inl, inr, ℕ, pos, List, [], ◌∷◌, Bool, true, false, nat_le, refl, sym, subst, ◌∙◌, arith, ◌||◌, nat_eq, if◌then◌else◌}
use Rattle.std.proofs.lemmas.Bool.{and_from, or_right}
use Rattle.std.proofs.lemmas.Bool.Decides.{nat_tests}
use Rattle.arc_lex.specs.declared.bytes.Class.TheVariants as c
use Rattle.arc_lex.specs.declared.piece.Rule.{Rule}
use Rattle.arc_lex.specs.declared.piece.Rule.TheVariants as rules
use Rattle.arc_lex.specs.declared.word.AtWord.TheVariants as ats
use Rattle.arc_lex.specs.declared.mark.Mark.TheVariants as m
use Rattle.arc_lex.specs.Bytes.{has, is_letter, is_digit}
use Rattle.arc_lex.specs.Source.{IsToken, IsClosed, IsOpenQuoted, IsWrongInteger, Breaks}
use Rattle.arc_lex.specs.Texts.{Part, Plain, number_after}
use Rattle.arc_lex.specs.declared.number.TheConstants.{LARGEST}
use Rattle.arc_lex.specs.Tokens.{Sort, Integer, Character, Text, At, Sign}
use Rattle.arc_lex.proofs.Faultless.{Begun, begun_first, wrong_first}
use Rattle.arc_lex.proofs.Firsts.{head_is, tail_is, digit_not}

-- a digit alone is an integer
digit_token : (b : ℕ) → is_digit b ≡ true → IsToken (b ∷ []) (Integer (pos (number_after 10 0 (b ∷ []))) false)
digit_token b e =
    let small : nat_le (number_after 10 0 (b ∷ [])) LARGEST ≡ true = grind (arith, nat_tests) in
    ((e, and_from (has c.InName b) true (or_right (is_letter b) (is_digit b) e) refl), rw (e, small) refl)

-- the bytes with which a rule but BadByte can be broken, by rule
abbrev opener : ℕ → ℕ
opener b = if nat_eq b 47 then 1 else if (nat_eq b 34 || nat_eq b 39) || is_digit b then 2 else if nat_eq b 64 || nat_eq b 35 then 3 else 0

digit_opener : (b : ℕ) → is_digit b ≡ true → opener b ≡ 2
digit_opener b e = grind (arith, nat_tests)

module _ (starts : Bool) (b : ℕ) (bs : List ℕ) where
  is_opener : (n r : ℕ) → opener n ≡ r → b ≡ n → opener b ≡ r
  is_opener n r h e = subst (λ u. opener u ≡ r) (sym e) h

  comment_opens : Breaks starts rules.OpenComment (b ∷ bs) → opener b ≡ 1
  comment_opens (rest, e, unclosed) = is_opener 47 1 refl (head_is b 47 bs (42 ∷ rest) e)

  open_opens : Breaks starts rules.OpenLiteral (b ∷ bs) → opener b ≡ 2
  open_opens (inl (rest, e, closed)) = is_opener 34 2 refl (head_is b 34 bs rest e)
  open_opens (inr (rest, e, closed)) = is_opener 39 2 refl (head_is b 39 bs rest e)

  literal_opens : Breaks starts rules.Literal (b ∷ bs) → opener b ≡ 2
  literal_opens (inl (parts, (after, e, on), wrong)) = is_opener 34 2 refl (head_is b 34 bs _ e)
  literal_opens (inr (inl (parts, (after, e, on), wrong))) = is_opener 39 2 refl (head_is b 39 bs _ e)
  literal_opens (inr (inr h)) = digit_opener b (wrong_first b bs h)

  directive_opens : Breaks starts rules.Directive (b ∷ bs) → opener b ≡ 3
  directive_opens (inl (rest, e, other)) = is_opener 64 3 refl (head_is b 64 bs rest e)
  directive_opens (inr (rest, e, other)) = is_opener 35 3 refl (head_is b 35 bs rest e)

  -- what begins so is no bad byte
  begun_token : (n : ℕ) (ys : List ℕ) (o : Sort) → IsToken (n ∷ ys) o → b ≡ n → Begun b
  begun_token n ys o t e = inr (inl (ys, o, subst (λ u. IsToken (u ∷ ys) o) (sym e) t))

  begun_quote : b ≡ 34 → Begun b
  begun_quote e = begun_token 34 (34 ∷ []) (Text []) ([], refl, refl) e

  begun_apostrophe : b ≡ 39 → Begun b
  begun_apostrophe e = begun_token 39 (97 ∷ 39 ∷ []) (Character 97) (Plain 97 ∷ [], refl, refl) e

  begun_at : b ≡ 64 → Begun b
  begun_at e = begun_token 64 (99 ∷ 108 ∷ 97 ∷ 115 ∷ 115 ∷ []) (At ats.Class) refl e

  not_bad : (q : Rule) → Breaks starts rules.BadByte (b ∷ bs) → Breaks starts q (b ∷ bs) → rules.BadByte ≡ q
  not_bad rules.BadByte h k = refl
  not_bad rules.OpenComment h (rest, e, unclosed) = absurd (begun_first b bs (begun_token 47 [] (Sign m.Slash) refl (head_is b 47 bs (42 ∷ rest) e)) h)
  not_bad rules.OpenLiteral h (inl (rest, e, closed)) = absurd (begun_first b bs (begun_quote (head_is b 34 bs rest e)) h)
  not_bad rules.OpenLiteral h (inr (rest, e, closed)) = absurd (begun_first b bs (begun_apostrophe (head_is b 39 bs rest e)) h)
  not_bad rules.Literal h (inl (parts, (after, e, on), wrong)) = absurd (begun_first b bs (begun_quote (head_is b 34 bs _ e)) h)
  not_bad rules.Literal h (inr (inl (parts, (after, e, on), wrong))) = absurd (begun_first b bs (begun_apostrophe (head_is b 39 bs _ e)) h)
  not_bad rules.Literal h (inr (inr k)) = absurd (begun_first b bs (inr (inl ([], Integer (pos (number_after 10 0 (b ∷ []))) false, digit_token b (wrong_first b bs k)))) h)
  not_bad rules.Directive h (inl (rest, e, other)) = absurd (begun_first b bs (begun_at (head_is b 64 bs rest e)) h)
  not_bad rules.Directive h (inr (rest, e, other)) = absurd (begun_first b bs (inr (inr (head_is b 35 bs rest e))) h)

  -- an unclosed literal is not closed
  open_closed : (q : ℕ) (parts : List Part) → IsOpenQuoted q (b ∷ bs) → IsClosed q (b ∷ bs) parts → ⊥
  open_closed q parts (rest, e, h) (after, f, on) = h parts after (tail_is q q rest _ (sym e ∙ f)) on

  open_not_literal : Breaks starts rules.OpenLiteral (b ∷ bs) → Breaks starts rules.Literal (b ∷ bs) → ⊥
  open_not_literal (inl h) (inl (parts, closed, wrong)) = open_closed 34 parts h closed
  open_not_literal (inr h) (inr (inl (parts, closed, wrong))) = open_closed 39 parts h closed
  open_not_literal (inl (rest, e, h)) (inr (inl (parts, (after, f, on), wrong))) = let k = sym (head_is b 34 bs rest e) ∙ head_is b 39 bs _ f in omega (arith, k)
  open_not_literal (inr (rest, e, h)) (inl (parts, (after, f, on), wrong)) = let k = sym (head_is b 39 bs rest e) ∙ head_is b 34 bs _ f in omega (arith, k)
  open_not_literal (inl (rest, e, h)) (inr (inr k)) = digit_not b 34 (wrong_first b bs k) refl (head_is b 34 bs rest e)
  open_not_literal (inr (rest, e, h)) (inr (inr k)) = digit_not b 39 (wrong_first b bs k) refl (head_is b 39 bs rest e)

  unlike : (n k : ℕ) → opener b ≡ n → opener b ≡ k → (n ≡ k → ⊥) → ⊥
  unlike n k e f apart = apart (sym e ∙ f)

  one_of_two : (r q : Rule) → Breaks starts r (b ∷ bs) → Breaks starts q (b ∷ bs) → r ≡ q
  one_of_two rules.BadByte q h k = not_bad q h k
  one_of_two r rules.BadByte h k = sym (not_bad r k h)
  one_of_two rules.OpenComment rules.OpenComment h k = refl
  one_of_two rules.OpenComment rules.OpenLiteral h k = absurd (unlike 1 2 (comment_opens h) (open_opens k) (λ e. omega (arith, e)))
  one_of_two rules.OpenComment rules.Literal h k = absurd (unlike 1 2 (comment_opens h) (literal_opens k) (λ e. omega (arith, e)))
  one_of_two rules.OpenComment rules.Directive h k = absurd (unlike 1 3 (comment_opens h) (directive_opens k) (λ e. omega (arith, e)))
  one_of_two rules.OpenLiteral rules.OpenComment h k = absurd (unlike 2 1 (open_opens h) (comment_opens k) (λ e. omega (arith, e)))
  one_of_two rules.OpenLiteral rules.OpenLiteral h k = refl
  one_of_two rules.OpenLiteral rules.Literal h k = absurd (open_not_literal h k)
  one_of_two rules.OpenLiteral rules.Directive h k = absurd (unlike 2 3 (open_opens h) (directive_opens k) (λ e. omega (arith, e)))
  one_of_two rules.Literal rules.OpenComment h k = absurd (unlike 2 1 (literal_opens h) (comment_opens k) (λ e. omega (arith, e)))
  one_of_two rules.Literal rules.OpenLiteral h k = absurd (open_not_literal k h)
  one_of_two rules.Literal rules.Literal h k = refl
  one_of_two rules.Literal rules.Directive h k = absurd (unlike 2 3 (literal_opens h) (directive_opens k) (λ e. omega (arith, e)))
  one_of_two rules.Directive rules.OpenComment h k = absurd (unlike 3 1 (directive_opens h) (comment_opens k) (λ e. omega (arith, e)))
  one_of_two rules.Directive rules.OpenLiteral h k = absurd (unlike 3 2 (directive_opens h) (open_opens k) (λ e. omega (arith, e)))
  one_of_two rules.Directive rules.Literal h k = absurd (unlike 3 2 (directive_opens h) (literal_opens k) (λ e. omega (arith, e)))
  one_of_two rules.Directive rules.Directive h k = refl

no_integer : IsWrongInteger [] → ⊥
no_integer ([], rest, e, (digit, all), ends, none) = cc
no_integer (x ∷ xs, rest, e, like, ends, none) = cc

-- no rule is broken after the last byte
pub none_at_end : (starts : Bool) (rule : Rule) → Breaks starts rule [] → ⊥
none_at_end starts rules.BadByte h = let e = h.splits in cc
none_at_end starts rules.OpenComment (rest, e, unclosed) = cc
none_at_end starts rules.OpenLiteral (inl (rest, e, h)) = cc
none_at_end starts rules.OpenLiteral (inr (rest, e, h)) = cc
none_at_end starts rules.Literal (inl (parts, (after, e, on), wrong)) = cc
none_at_end starts rules.Literal (inr (inl (parts, (after, e, on), wrong))) = cc
none_at_end starts rules.Literal (inr (inr h)) = no_integer h
none_at_end starts rules.Directive (inl (rest, e, h)) = cc
none_at_end starts rules.Directive (inr (rest, e, h)) = cc

pub one_rule : (starts : Bool) (bytes : List ℕ) (r q : Rule) → Breaks starts r bytes → Breaks starts q bytes → r ≡ q
one_rule starts [] r q h k = absurd (none_at_end starts r h)
one_rule starts (b ∷ bs) r q h k = one_of_two starts b bs r q h k
