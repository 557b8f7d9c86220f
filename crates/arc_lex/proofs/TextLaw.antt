-- The piece where a quote stands.
use Rattle.std.proofs.Common.{◌≡◌, ◌≤◌, inl, inr, ℕ, ◌+◌, List, [], ◌∷◌, ◌++◌, length, length-append, append_assoc, Bool, true, false, not, cond, ◌&&◌, nat_eq, Option, Some, None, refl, sym, ap, subst, ◌∙◌, arith}
use Rattle.std.proofs.lemmas.List.{append-nil}
use Rattle.std.proofs.lemmas.Bool.{and_parts, and_from, eqb-true, not-true, not_from_false}
use Rattle.std.proofs.lemmas.Bool.Decides.{nat_tests}
use Rattle.arc_lex.specs.declared.piece.Rule.TheVariants as rules
use Rattle.arc_lex.specs.private.Pieces.{Broken, Law, scan, text_value, text_found, text_piece, character_value, character_found, character_piece}
use Rattle.arc_lex.specs.Source.{IsToken, IsQuoted, IsOpenQuoted, IsClosed, Faultless}
use Rattle.arc_lex.specs.Texts.{Part, Plain, Escape, parts_bytes, part_value, parts_value, put_front, is_plain, escape_value, goes_on, all_go_on}
use Rattle.arc_lex.specs.Tokens.{Sort, Character, Text}
use Rattle.arc_lex.proofs.Faultless.{faultless, comment_first}
use Rattle.arc_lex.proofs.Firsts.{head_is, tail_is, first_opens, opens, by_quote, by_apostrophe, digit_not}

-- a part that stands for a byte goes on
plain_goes_on : (quote b : ℕ) → is_plain quote b ≡ true → goes_on quote (Plain b) ≡ true
plain_goes_on quote b h = grind (arith, nat_tests)

part_goes_on : (quote : ℕ) (p : Part) (v : ℕ) → part_value quote p ≡ Some v → goes_on quote p ≡ true
part_goes_on quote (Plain b) v e = plain_goes_on quote b (go (is_plain quote b) e)
  where
    go : (t : Bool) → cond t (Some b) None ≡ Some v → t ≡ true
    go true e = refl
    go false e = cc
part_goes_on quote (Escape b) v e = not_from_false (nat_eq b 10) (go (nat_eq b 10) refl)
  where
    go : (t : Bool) → nat_eq b 10 ≡ t → t ≡ false
    go true h = let k : escape_value 10 ≡ Some v = subst (λ d. escape_value d ≡ Some v) (eqb-true b 10 h) e in cc
    go false h = refl

pub parts_go_on : (quote : ℕ) (ps : List Part) (bytes : List ℕ) → parts_value quote ps ≡ Some bytes → all_go_on quote ps ≡ true
parts_go_on quote [] bytes e = refl
parts_go_on quote (p ∷ ps) bytes e = go (part_value quote p) refl (parts_value quote ps) refl (parts_go_on quote ps) e
  where
    go : (v : Option ℕ) → part_value quote p ≡ v → (vs : Option (List ℕ)) → parts_value quote ps ≡ vs → ((us : List ℕ) → parts_value quote ps ≡ Some us → all_go_on quote ps ≡ true)
        → put_front v vs ≡ Some bytes → (goes_on quote p && all_go_on quote ps) ≡ true
    go None h vs k later e = cc
    go (Some v) h None k later e = cc
    go (Some v) h (Some us) k later e = and_from (goes_on quote p) (all_go_on quote ps) (part_goes_on quote p v h) (later us k)

-- a byte that is neither a newline nor a backslash
abbrev pub IsQuote : ℕ → Type 0
IsQuote quote = (nat_eq quote 10 ≡ false) × (nat_eq 92 quote ≡ false)

itself : (n : ℕ) → nat_eq n n ≡ true
itself n = grind (arith, nat_tests)

-- what closes is found
pub scan_closed : (quote : ℕ) → IsQuote quote → (ps qs : List Part) (after : List ℕ) → all_go_on quote qs ≡ true → scan quote false ps (parts_bytes qs ++ quote ∷ after) ≡ Some (ps ++ qs)
scan_closed quote line ps [] after h = let line_end = line.0 in let same = itself quote in rw (line_end, same) (ap Some (sym (append-nil ps)))
scan_closed quote line ps (Plain b ∷ qs) after h =
    let both = and_parts (goes_on quote (Plain b)) (all_go_on quote qs) h in
    let tests = and_parts (not (nat_eq b quote)) (not (nat_eq b 92) && not (nat_eq b 10)) both.0 in
    let more = and_parts (not (nat_eq b 92)) (not (nat_eq b 10)) tests.1 in
    let e_quote = not-true (nat_eq b quote) tests.0 in
    let e92 = not-true (nat_eq b 92) more.0 in
    let e10 = not-true (nat_eq b 10) more.1 in
    rw (e10, e_quote, e92) (scan_closed quote line (ps ++ Plain b ∷ []) qs after both.1 ∙ ap Some (append_assoc ps (Plain b ∷ []) qs))
scan_closed quote line ps (Escape b ∷ qs) after h =
    let both = and_parts (goes_on quote (Escape b)) (all_go_on quote qs) h in
    let e10 = not-true (nat_eq b 10) both.0 in
    let slash = line.1 in
    rw (e10, slash) (scan_closed quote line (ps ++ Escape b ∷ []) qs after both.1 ∙ ap Some (append_assoc ps (Escape b ∷ []) qs))

-- the bytes still to be read, with a lone backslash in front of them
abbrev with_backslash : Bool → List ℕ → List ℕ
with_backslash true bs = 92 ∷ bs
with_backslash false bs = bs

record Closed (quote : ℕ) (ps rs : List Part) (bytes : List ℕ) : Type 0 where
  parts : List Part
  after : List ℕ
  all : rs ≡ ps ++ parts
  splits : bytes ≡ parts_bytes parts ++ quote ∷ after
  on : all_go_on quote parts ≡ true

-- what is found closes
scan_sound : (quote : ℕ) (escaped : Bool) (ps : List Part) (bs : List ℕ) (rs : List Part) → scan quote escaped ps bs ≡ Some rs → Closed quote ps rs (with_backslash escaped bs)
scan_sound quote true ps [] rs e = cc
scan_sound quote false ps [] rs e = cc
scan_sound quote true ps (b ∷ bs) rs e = go (nat_eq b 10) refl (scan_sound quote false (ps ++ Escape b ∷ []) bs rs) e
  where
    go : (t : Bool) → nat_eq b 10 ≡ t → (scan quote false (ps ++ Escape b ∷ []) bs ≡ Some rs → Closed quote (ps ++ Escape b ∷ []) rs bs)
        → cond t None (scan quote false (ps ++ Escape b ∷ []) bs) ≡ Some rs → Closed quote ps rs (92 ∷ b ∷ bs)
    go true h later e = cc
    go false h later e =
        let k = later e in
        record {
          parts = Escape b ∷ k.parts;
          after = k.after;
          all = k.all ∙ append_assoc ps (Escape b ∷ []) k.parts;
          splits = ap (λ us. 92 ∷ b ∷ us) k.splits;
          on = and_from (not (nat_eq b 10)) (all_go_on quote k.parts) (not_from_false (nat_eq b 10) h) k.on;
        }
scan_sound quote false ps (b ∷ bs) rs e =
    go (nat_eq b 10) refl (nat_eq b quote) refl (nat_eq b 92) refl (scan_sound quote true ps bs rs) (scan_sound quote false (ps ++ Plain b ∷ []) bs rs) e
  where
    go : (t : Bool) → nat_eq b 10 ≡ t → (q : Bool) → nat_eq b quote ≡ q → (s : Bool) → nat_eq b 92 ≡ s
        → (scan quote true ps bs ≡ Some rs → Closed quote ps rs (92 ∷ bs)) → (scan quote false (ps ++ Plain b ∷ []) bs ≡ Some rs → Closed quote (ps ++ Plain b ∷ []) rs bs)
        → cond t None (cond q (Some ps) (cond s (scan quote true ps bs) (scan quote false (ps ++ Plain b ∷ []) bs))) ≡ Some rs → Closed quote ps rs (b ∷ bs)
    go true n q hq s hs escape plain e = cc
    go false n true hq s hs escape plain e =
        let same : ps ≡ rs = cc in
        record { parts = []; after = bs; all = sym same ∙ sym (append-nil ps); splits = ap (λ d. d ∷ bs) (eqb-true b quote hq); on = refl }
    go false n false hq true hs escape plain e = subst (λ d. Closed quote ps rs (d ∷ bs)) (sym (eqb-true b 92 hs)) (escape e)
    go false n false hq false hs escape plain e =
        let k = plain e in
        record {
          parts = Plain b ∷ k.parts;
          after = k.after;
          all = k.all ∙ append_assoc ps (Plain b ∷ []) k.parts;
          splits = ap (λ us. b ∷ us) k.splits;
          on = and_from (goes_on quote (Plain b)) (all_go_on quote k.parts)
              (and_from (not (nat_eq b quote)) (not (nat_eq b 92) && not (nat_eq b 10)) (not_from_false (nat_eq b quote) hq)
              (and_from (not (nat_eq b 92)) (not (nat_eq b 10)) (not_from_false (nat_eq b 92) hs) (not_from_false (nat_eq b 10) n))) k.on;
        }

-- a closed text has one row of parts
closed_parts : (quote : ℕ) → IsQuote quote → (bs : List ℕ) (ps qs : List Part) (after : List ℕ) → scan quote false [] bs ≡ Some ps → bs ≡ parts_bytes qs ++ quote ∷ after → all_go_on quote qs ≡ true → qs ≡ ps
closed_parts quote line bs ps qs after e c on =
    let k : scan quote false [] bs ≡ Some qs = ap (scan quote false []) c ∙ scan_closed quote line [] qs after on in
    cc

not_closed : (quote : ℕ) → IsQuote quote → (bs : List ℕ) (qs : List Part) (after : List ℕ) → scan quote false [] bs ≡ None → bs ≡ parts_bytes qs ++ quote ∷ after → all_go_on quote qs ≡ true → ⊥
not_closed quote line bs qs after e c on =
    let k : scan quote false [] bs ≡ Some qs = ap (scan quote false []) c ∙ scan_closed quote line [] qs after on in
    cc

-- ---- a literal with such quotes that closes

module _ (quote : ℕ) (line : IsQuote quote) (bs : List ℕ) (ps : List Part) (after : List ℕ) (scanned : scan quote false [] bs ≡ Some ps) (cut : bs ≡ parts_bytes ps ++ quote ∷ after)
    (on : all_go_on quote ps ≡ true) where
  abbrev pub quoted : List ℕ
  quoted = quote ∷ (parts_bytes ps ++ quote ∷ [])

  whole : quote ∷ bs ≡ quoted ++ after
  whole = ap (λ us. quote ∷ us) (cut ∙ sym (append_assoc (parts_bytes ps) (quote ∷ []) after))

  -- what is quoted at the front is this
  same_parts : (ys r bytes : List ℕ) → quoted ++ after ≡ ys ++ r → (q : IsQuoted quote ys bytes) → q.0 ≡ ps
  same_parts ys r bytes e (qs, f, v) =
      let inside : bs ≡ parts_bytes qs ++ quote ∷ r = tail_is quote quote bs (parts_bytes qs ++ quote ∷ r) (whole ∙ (e ∙ (ap (λ us. us ++ r) f ∙ ap (λ us. quote ∷ us) (append_assoc (parts_bytes qs) (quote ∷ []) r)))) in
      closed_parts quote line bs ps qs r scanned inside (parts_go_on quote qs bytes v)

  quoted_same : (ys r bytes : List ℕ) → quoted ++ after ≡ ys ++ r → IsQuoted quote ys bytes → length ys ≤ length quoted
  quoted_same ys r bytes e (qs, f, v) =
      let same = same_parts ys r bytes e (qs, f, v) in
      let equal = ap length f ∙ ap (λ us. length (quote ∷ (parts_bytes us ++ quote ∷ []))) same in
      omega (arith, equal)

  not_open : IsOpenQuoted quote (quoted ++ after) → ⊥
  not_open (rest, f, closed) = closed ps after (sym (tail_is quote quote ((parts_bytes ps ++ quote ∷ []) ++ after) rest f) ∙ append_assoc (parts_bytes ps) (quote ∷ []) after) on

  -- a closed literal has these parts
  closed_same : (qs : List Part) → IsClosed quote (quoted ++ after) qs → qs ≡ ps
  closed_same qs (r, f, go) = closed_parts quote line bs ps qs r scanned (tail_is quote quote bs _ (whole ∙ f)) go

  size : length quoted ≡ length (parts_bytes ps) + 2
  size = omega (arith, length-append (parts_bytes ps) (quote ∷ []))

  closed : IsClosed quote (quote ∷ bs) ps
  closed = (after, ap (λ us. quote ∷ us) cut, on)

-- ---- a text

module _ (starts : Bool) (bs : List ℕ) (ps : List Part) (after : List ℕ) (scanned : scan 34 false [] bs ≡ Some ps) (cut : bs ≡ parts_bytes ps ++ 34 ∷ after) (on : all_go_on 34 ps ≡ true) where
  text_longest : (ys r : List ℕ) (o : Sort) → quoted 34 (refl, refl) bs ps after scanned cut on ++ after ≡ ys ++ r → IsToken ys o → length ys ≤ length (quoted 34 (refl, refl) bs ps after scanned cut on)
  text_longest [] r o e h = omega arith
  text_longest (d ∷ ys) r o e h =
      let same : 34 ≡ d = head_is 34 d _ (ys ++ r) e in
      let (bytes, f) = by_quote o 34 refl (subst (opens o) (sym same) (first_opens o d ys h)) in
      quoted_same 34 (refl, refl) bs ps after scanned cut on (d ∷ ys) r bytes e (subst (IsToken (d ∷ ys)) f h)

  text_clean : (bytes : List ℕ) → parts_value 34 ps ≡ Some bytes → Faultless starts (quoted 34 (refl, refl) bs ps after scanned cut on ++ after)
  text_clean bytes v = faultless starts 34 ((parts_bytes ps ++ 34 ∷ []) ++ after) (inr (inl (parts_bytes ps ++ 34 ∷ [], Text bytes, (ps, refl, v))))
      (λ k. absurd (omega (arith, k))) (λ digit. absurd (digit_not 34 34 digit refl refl))
      (λ k. (
        not_open 34 (refl, refl) bs ps after scanned cut on,
        λ (qs, is, wrong).
            let none : parts_value 34 ps ≡ None = subst (λ us. parts_value 34 us ≡ None) (closed_same 34 (refl, refl) bs ps after scanned cut on qs is) wrong in
            cc,
      ))
      (λ k. absurd (omega (arith, k))) (λ k h. omega (arith, k)) (λ k h. omega (arith, k))

  text_valued : (v : Option (List ℕ)) → parts_value 34 ps ≡ v → Law starts (34 ∷ bs) (text_value v (length (parts_bytes ps) + 2))
  text_valued None e = inl (ps, closed 34 (refl, refl) bs ps after scanned cut on, e)
  text_valued (Some bytes) e = (
    quoted 34 (refl, refl) bs ps after scanned cut on,
    after,
    whole 34 (refl, refl) bs ps after scanned cut on,
    size 34 (refl, refl) bs ps after scanned cut on,
    omega arith,
    record { token = (ps, refl, e); longest = text_longest },
    λ h. let k = comment_first 34 _ h in omega (arith, k),
    text_clean bytes e,
  )

text_scanned : (starts : Bool) (bs : List ℕ) (found : Option (List Part)) → scan 34 false [] bs ≡ found → Law starts (34 ∷ bs) (text_found found)
text_scanned starts bs None e = inl (bs, refl, λ qs after c on. not_closed 34 (refl, refl) bs qs after e c on)
text_scanned starts bs (Some ps) e =
    let k = scan_sound 34 false [] bs ps e in
    let same : k.parts ≡ ps = sym k.all in
    text_valued starts bs ps k.after e (k.splits ∙ ap (λ us. parts_bytes us ++ 34 ∷ k.after) same) (subst (λ us. all_go_on 34 us ≡ true) same k.on) (parts_value 34 ps) refl

pub text_law : (starts : Bool) (b : ℕ) (bs : List ℕ) → b ≡ 34 → Law starts (b ∷ bs) (text_piece (b ∷ bs))
unfolding text_piece
text_law starts b bs e = subst (λ d. Law starts (d ∷ bs) (text_found (scan 34 false [] bs))) (sym e) (text_scanned starts bs (scan 34 false [] bs) refl)

-- ---- a character

module _ (starts : Bool) (bs : List ℕ) (ps : List Part) (after : List ℕ) (scanned : scan 39 false [] bs ≡ Some ps) (cut : bs ≡ parts_bytes ps ++ 39 ∷ after) (on : all_go_on 39 ps ≡ true) where
  character_longest : (ys r : List ℕ) (o : Sort) → quoted 39 (refl, refl) bs ps after scanned cut on ++ after ≡ ys ++ r → IsToken ys o → length ys ≤ length (quoted 39 (refl, refl) bs ps after scanned cut on)
  character_longest [] r o e h = omega arith
  character_longest (d ∷ ys) r o e h =
      let same : 39 ≡ d = head_is 39 d _ (ys ++ r) e in
      let (byte, f) = by_apostrophe o 39 refl (subst (opens o) (sym same) (first_opens o d ys h)) in
      quoted_same 39 (refl, refl) bs ps after scanned cut on (d ∷ ys) r (byte ∷ []) e (subst (IsToken (d ∷ ys)) f h)

  character_clean : (b : ℕ) → parts_value 39 ps ≡ Some (b ∷ []) → Faultless starts (quoted 39 (refl, refl) bs ps after scanned cut on ++ after)
  character_clean b v = faultless starts 39 ((parts_bytes ps ++ 39 ∷ []) ++ after) (inr (inl (parts_bytes ps ++ 39 ∷ [], Character b, (ps, refl, v))))
      (λ k. absurd (omega (arith, k))) (λ digit. absurd (digit_not 39 39 digit refl refl)) (λ k. absurd (omega (arith, k)))
      (λ k. (
        not_open 39 (refl, refl) bs ps after scanned cut on,
        λ (qs, is, wrong). wrong b (subst (λ us. parts_value 39 us ≡ Some (b ∷ [])) (sym (closed_same 39 (refl, refl) bs ps after scanned cut on qs is)) v),
      ))
      (λ k h. omega (arith, k)) (λ k h. omega (arith, k))

  character_wrong : ((b : ℕ) → parts_value 39 ps ≡ Some (b ∷ []) → ⊥) → Law starts (39 ∷ bs) (Broken rules.Literal)
  character_wrong free = inr (inl (ps, closed 39 (refl, refl) bs ps after scanned cut on, free))

  character_valued : (v : Option (List ℕ)) → parts_value 39 ps ≡ v → Law starts (39 ∷ bs) (character_value v (length (parts_bytes ps) + 2))
  character_valued None e = character_wrong (λ b f. let k = e in cc)
  character_valued (Some []) e = character_wrong (λ b f. let k = e in cc)
  character_valued (Some (b ∷ d ∷ us)) e = character_wrong (λ n f. let k = e in cc)
  character_valued (Some (b ∷ [])) e = (
    quoted 39 (refl, refl) bs ps after scanned cut on,
    after,
    whole 39 (refl, refl) bs ps after scanned cut on,
    size 39 (refl, refl) bs ps after scanned cut on,
    omega arith,
    record { token = (ps, refl, e); longest = character_longest },
    λ h. let k = comment_first 39 _ h in omega (arith, k),
    character_clean b e,
  )

character_scanned : (starts : Bool) (bs : List ℕ) (found : Option (List Part)) → scan 39 false [] bs ≡ found → Law starts (39 ∷ bs) (character_found found)
character_scanned starts bs None e = inr (bs, refl, λ qs after c on. not_closed 39 (refl, refl) bs qs after e c on)
character_scanned starts bs (Some ps) e =
    let k = scan_sound 39 false [] bs ps e in
    let same : k.parts ≡ ps = sym k.all in
    character_valued starts bs ps k.after e (k.splits ∙ ap (λ us. parts_bytes us ++ 39 ∷ k.after) same) (subst (λ us. all_go_on 39 us ≡ true) same k.on) (parts_value 39 ps) refl

pub character_law : (starts : Bool) (b : ℕ) (bs : List ℕ) → b ≡ 39 → Law starts (b ∷ bs) (character_piece (b ∷ bs))
unfolding character_piece
character_law starts b bs e = subst (λ d. Law starts (d ∷ bs) (character_found (scan 39 false [] bs))) (sym e) (character_scanned starts bs (scan 39 false [] bs) refl)
