-- Bytes are a token of one sort, and one token stands at a place.
use Rattle.std.proofs.Common.{◌≡◌, ◌⊎◌, inl, inr, ℕ, ℤ, List, [], ◌∷◌, ◌++◌, length, take, drop, Bool, false, Option, Some, refl, sym, ap, subst, ◌∙◌, arith}
use Rattle.std.proofs.lemmas.List.{take_at, drop_at}
use Rattle.std.specs.List.{Contains}
use Rattle.arc_lex.specs.declared.mark.Mark.{Mark}
use Rattle.arc_lex.specs.declared.word.Word.{Word}
use Rattle.arc_lex.specs.declared.word.AtWord.{AtWord}
use Rattle.arc_lex.specs.private.Pieces.{scan}
use Rattle.arc_lex.specs.Source.{IsToken, IsQuoted, Longest}
use Rattle.arc_lex.specs.Spellings.{unused}
use Rattle.arc_lex.specs.Texts.{parts_bytes, parts_value}
use Rattle.arc_lex.specs.Tokens.{Sort, Name, Integer, Character, Text, Key, At, Sign, Unused}
use Rattle.arc_lex.proofs.Firsts.{head_is, tail_is, first_opens, not_empty, opens, by_letter, by_digit, by_quote, by_apostrophe, by_at, by_mark, mark_not_letter, mark_not_digit, mark_not, unused_not, unused_not_digit}
use Rattle.arc_lex.proofs.Marks.{one_mark, one_word, one_at_word}
use Rattle.arc_lex.proofs.TextLaw.{IsQuote, parts_go_on, scan_closed}
use Rattle.arc_lex.proofs.Unused.{no_word, no_at_word, no_mark}

same_integer : (v u : ℤ) (s o : Bool) → ◌≡◌ {A = Option (ℤ × Bool)} (Some (v, s)) (Some (u, o)) → Integer v s ≡ Integer u o
same_integer v u s o e =
    let k : ◌≡◌ {A = ℤ × Bool} (v, s) (u, o) = cc in
    ap (λ (p : ℤ × Bool). Integer p.0 p.1) k

module _ (b : ℕ) (bs : List ℕ) where
  named : (n : List ℕ) (o : Sort) → IsToken (b ∷ bs) (Name n) → IsToken (b ∷ bs) o → ((m : List ℕ) × (o ≡ Name m)) ⊎ (((word : Word) × (o ≡ Key word)) ⊎ (o ≡ Unused)) → Name n ≡ o
  named n o h k (inl (m, e)) = let other = subst (IsToken (b ∷ bs)) e k in ap Name (sym h.0 ∙ other.0) ∙ sym e
  named n o h k (inr (inr e)) = absurd (h.3 (subst (IsToken (b ∷ bs)) e k))
  named n o h k (inr (inl (word, e))) = absurd (h.2 word (subst (IsToken (b ∷ bs)) e k))

  keyed : (w : Word) (o : Sort) → IsToken (b ∷ bs) (Key w) → IsToken (b ∷ bs) o → ((m : List ℕ) × (o ≡ Name m)) ⊎ (((word : Word) × (o ≡ Key word)) ⊎ (o ≡ Unused)) → Key w ≡ o
  keyed w o h k (inl (m, e)) = let other = subst (IsToken (b ∷ bs)) e k in absurd (other.2 w h)
  keyed w o h k (inr (inr e)) = absurd (no_word w (subst (Contains unused) h (subst (IsToken (b ∷ bs)) e k)))
  keyed w o h k (inr (inl (word, e))) = let other = subst (IsToken (b ∷ bs)) e k in ap Key (one_word w word (sym h ∙ other)) ∙ sym e

  directed : (w : AtWord) (o : Sort) → IsToken (b ∷ bs) (At w) → IsToken (b ∷ bs) o → ((word : AtWord) × (o ≡ At word)) ⊎ (o ≡ Unused) → At w ≡ o
  directed w o h k (inl (word, e)) = let other = subst (IsToken (b ∷ bs)) e k in ap At (one_at_word w word (sym h ∙ other)) ∙ sym e
  directed w o h k (inr e) = absurd (no_at_word w (subst (Contains unused) h (subst (IsToken (b ∷ bs)) e k)))

  marked : (m : Mark) (o : Sort) → IsToken (b ∷ bs) (Sign m) → IsToken (b ∷ bs) o → ((mark : Mark) × (o ≡ Sign mark)) ⊎ (o ≡ Unused) → Sign m ≡ o
  marked m o h k (inl (mark, e)) = let other = subst (IsToken (b ∷ bs)) e k in ap Sign (one_mark m mark (sym h ∙ other)) ∙ sym e
  marked m o h k (inr e) = absurd (no_mark m (subst (Contains unused) h (subst (IsToken (b ∷ bs)) e k)))

  quoted : (q : ℕ) → IsQuote q → (t u : List ℕ) → IsQuoted q (b ∷ bs) t → IsQuoted q (b ∷ bs) u → t ≡ u
  quoted q line t u (ps, e, v) (qs, f, w) =
      let same : parts_bytes ps ++ q ∷ [] ≡ parts_bytes qs ++ q ∷ [] = tail_is q q _ _ (sym e ∙ f) in
      let one : scan q false [] (parts_bytes ps ++ q ∷ []) ≡ Some ps = scan_closed q line [] ps [] (parts_go_on q ps t v) in
      let two : scan q false [] (parts_bytes qs ++ q ∷ []) ≡ Some qs = scan_closed q line [] qs [] (parts_go_on q qs u w) in
      let equal : Some ps ≡ Some qs = sym one ∙ (ap (scan q false []) same ∙ two) in
      let parts : ps ≡ qs = cc in
      let values : Some t ≡ Some u = sym v ∙ (ap (parts_value q) parts ∙ w) in
      cc

  valued : (v u : ℤ) (s o : Bool) → IsToken (b ∷ bs) (Integer v s) → IsToken (b ∷ bs) (Integer u o) → Integer v s ≡ Integer u o
  valued v u s o (like, e) (also, f) = same_integer v u s o (sym e ∙ f)

  single : (n k : ℕ) → IsToken (b ∷ bs) (Character n) → IsToken (b ∷ bs) (Character k) → Character n ≡ Character k
  single n k h other = ap Character (head_is n k [] [] (quoted 39 (refl, refl) (n ∷ []) (k ∷ []) h other))

  by_first : (s o : Sort) → IsToken (b ∷ bs) s → IsToken (b ∷ bs) o → opens s b → opens o b → s ≡ o
  by_first (Name n) o h k first other = named n o h k (by_letter o b first other)
  by_first (Key w) o h k first other = keyed w o h k (by_letter o b first other)
  by_first (Integer v s) o h k first other = let (u, t, e) = by_digit o b first other in valued v u s t h (subst (IsToken (b ∷ bs)) e k) ∙ sym e
  by_first (Character n) o h k first other = let (u, e) = by_apostrophe o b first other in single n u h (subst (IsToken (b ∷ bs)) e k) ∙ sym e
  by_first (Text t) o h k first other = let (u, e) = by_quote o b first other in ap Text (quoted 34 (refl, refl) t u h (subst (IsToken (b ∷ bs)) e k)) ∙ sym e
  by_first (At w) o h k first other = directed w o h k (by_at o b first other)
  by_first (Sign m) o h k first other =
      marked m o h k (by_mark o b (mark_not_letter b first) (mark_not_digit b first) (mark_not b 34 first refl) (mark_not b 39 first refl) (mark_not b 64 first refl) other)
  by_first Unused (Name n) h k first other = absurd (k.3 h)
  by_first Unused (Key w) h k first other = absurd (no_word w (subst (Contains unused) k h))
  by_first Unused (Integer v s) h k first other = absurd (unused_not_digit b first other)
  by_first Unused (Character n) h k first other = absurd (unused_not b 39 first refl other)
  by_first Unused (Text t) h k first other = absurd (unused_not b 34 first refl other)
  by_first Unused (At w) h k first other = absurd (no_at_word w (subst (Contains unused) k h))
  by_first Unused (Sign m) h k first other = absurd (no_mark m (subst (Contains unused) k h))
  by_first Unused Unused h k first other = refl

pub one_sort : (xs : List ℕ) (s o : Sort) → IsToken xs s → IsToken xs o → s ≡ o
one_sort [] s o h k = absurd (not_empty s h)
one_sort (b ∷ bs) s o h k = by_first b bs s o h k (first_opens s b bs h) (first_opens o b bs k)

-- the longest token at a place, and what is after it
pub one_longest : (xs : List ℕ) (s : Sort) (rest ys : List ℕ) (o : Sort) (r : List ℕ) → Longest xs s rest → Longest ys o r → xs ++ rest ≡ ys ++ r
    → (xs ≡ ys) × (s ≡ o) × (rest ≡ r)
one_longest xs s rest ys o r h k c =
    let below = h.longest ys r o c k.token in
    let above = k.longest xs rest s (sym c) h.token in
    let n : length xs ≡ length ys = omega (arith, below, above) in
    let same : xs ≡ ys = sym (take_at xs rest (length ys) n) ∙ (ap (take (length ys)) c ∙ take_at ys r (length ys) refl) in
    (same, one_sort ys s o (subst (λ us. IsToken us s) same h.token) k.token, sym (drop_at xs rest (length ys) n) ∙ (ap (drop (length ys)) c ∙ drop_at ys r (length ys) refl))
