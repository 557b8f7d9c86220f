-- Where no rule is broken.
use Rattle.std.proofs.Common.{◌≡◌, ◌⊎◌, inl, inr, ℕ, List, [], ◌∷◌, ◌++◌, Bool, true, sym, subst, ◌∙◌}
use Rattle.std.proofs.lemmas.Bool.{true≢false}
use Rattle.arc_lex.specs.declared.piece.Rule.TheVariants as rules
use Rattle.arc_lex.specs.Bytes.{is_digit, is_blank}
use Rattle.arc_lex.specs.Source.{IsToken, NothingBegins, IsOpenComment, IsComment, IsOpenQuoted, IsWrongText, IsWrongCharacter, IsWrongInteger, IsOtherDirective, IsOtherLine, Faultless}
use Rattle.arc_lex.specs.Tokens.{Sort}
use Rattle.arc_lex.proofs.Firsts.{head_is}

pub comment_first : (b : ℕ) (bs : List ℕ) → IsComment (b ∷ bs) → b ≡ 47
comment_first b bs (x, rest, e, which) = head_is b 47 bs (x ∷ rest) e

pub wrong_first : (b : ℕ) (bs : List ℕ) → IsWrongInteger (b ∷ bs) → is_digit b ≡ true
wrong_first b bs ([], rest, e, (digit, all), ends, none) = cc
wrong_first b bs (x ∷ xs, rest, e, (digit, all), ends, none) = subst (λ u. is_digit u ≡ true) (sym (head_is b x bs (xs ++ rest) e)) digit

-- Something begins with the byte.
abbrev pub Begun : ℕ → Type 0
Begun b = (is_blank b ≡ true) ⊎ (((ys : List ℕ) × (o : Sort) × IsToken (b ∷ ys) o) ⊎ (b ≡ 35))

pub begun_first : (b : ℕ) (bs : List ℕ) → Begun b → NothingBegins (b ∷ bs) → ⊥
begun_first b bs (inl blank) h = true≢false (sym (subst (λ u. is_blank u ≡ true) (head_is b h.first bs h.others h.splits) blank) ∙ h.no_blank)
begun_first b bs (inr (inl (ys, o, t))) h = h.no_token ys o (subst (λ u. IsToken (u ∷ ys) o) (head_is b h.first bs h.others h.splits) t)
begun_first b bs (inr (inr e)) h = h.no_line (sym (head_is b h.first bs h.others h.splits) ∙ e)

-- Each rule is broken only by what begins with certain bytes.
pub faultless : (starts : Bool) (b : ℕ) (bs : List ℕ) → Begun b → (b ≡ 47 → IsOpenComment (b ∷ bs) → ⊥) → (is_digit b ≡ true → IsWrongInteger (b ∷ bs) → ⊥)
    → (b ≡ 34 → (IsOpenQuoted 34 (b ∷ bs) → ⊥) × (IsWrongText (b ∷ bs) → ⊥)) → (b ≡ 39 → (IsOpenQuoted 39 (b ∷ bs) → ⊥) × (IsWrongCharacter (b ∷ bs) → ⊥))
    → (b ≡ 64 → IsOtherDirective (b ∷ bs) → ⊥) → (b ≡ 35 → IsOtherLine starts (b ∷ bs) → ⊥) → Faultless starts (b ∷ bs)
faultless starts b bs begun comment digit quote apostrophe at line rules.BadByte h = begun_first b bs begun h
faultless starts b bs begun comment digit quote apostrophe at line rules.OpenComment (rest, e, unclosed) = comment (head_is b 47 bs (42 ∷ rest) e) (rest, e, unclosed)
faultless starts b bs begun comment digit quote apostrophe at line rules.OpenLiteral (inl (rest, e, closed)) = (quote (head_is b 34 bs rest e)).0 (rest, e, closed)
faultless starts b bs begun comment digit quote apostrophe at line rules.OpenLiteral (inr (rest, e, closed)) = (apostrophe (head_is b 39 bs rest e)).0 (rest, e, closed)
faultless starts b bs begun comment digit quote apostrophe at line rules.Literal (inl (parts, (after, e, on), wrong)) = (quote (head_is b 34 bs _ e)).1 (parts, (after, e, on), wrong)
faultless starts b bs begun comment digit quote apostrophe at line rules.Literal (inr (inl (parts, (after, e, on), wrong))) = (apostrophe (head_is b 39 bs _ e)).1 (parts, (after, e, on), wrong)
faultless starts b bs begun comment digit quote apostrophe at line rules.Literal (inr (inr h)) = digit (wrong_first b bs h) h
faultless starts b bs begun comment digit quote apostrophe at line rules.Directive (inl (rest, e, other)) = at (head_is b 64 bs rest e) (rest, e, other)
faultless starts b bs begun comment digit quote apostrophe at line rules.Directive (inr (rest, e, other)) = line (head_is b 35 bs rest e) (rest, e, other)
