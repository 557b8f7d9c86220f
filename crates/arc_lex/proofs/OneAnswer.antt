-- A source has one list of tokens, or one first fault.
use Rattle.std.proofs.Common.{◌≡◌, ◌<◌, ◌⊎◌, inl, inr, ℕ, suc, ◌+◌, List, [], ◌∷◌, ◌++◌, length, take, drop, Bool, true, false, ◌||◌, nat_eq, if◌then◌else◌, Option, Some, None, option_map, refl, sym, ap, subst, ◌∙◌, arith}
use Rattle.std.proofs.lemmas.List.{take_at, drop_at}
use Rattle.arc_lex.specs.declared.fault.LexFault.{LexFault}
use Rattle.arc_lex.specs.declared.fault.LexFault.TheVariants as f
use Rattle.arc_lex.specs.declared.piece.Rule.{Rule}
use Rattle.arc_lex.specs.declared.piece.Rule.TheVariants as rules
use Rattle.arc_lex.specs.declared.bytes.Class.TheVariants as c
use Rattle.arc_lex.specs.Bytes.{run, is_blank}
use Rattle.arc_lex.specs.Faults.{fault_of, IsFirst, IsLexFault, OnlyTokens, OnlyFault}
use Rattle.arc_lex.specs.Source.{Tokens, IsToken, IsComment, Skipped, to_close, Breaks, Cuts, done, breaks, blank, skipped, token}
use Rattle.arc_lex.specs.Tokens.{Sort, Tok}
use Rattle.arc_lex.specs.declared.lex.TheConstants.{MOST_BYTES}
use Rattle.arc_lex.proofs.Firsts.{head_is, tail_is, first_opens, not_empty, blank_not, blank_opens_none, line_opens_none}
use Rattle.arc_lex.proofs.OneRule.{one_rule, none_at_end}
use Rattle.arc_lex.proofs.OneSort.{one_longest}
use Rattle.arc_lex.proofs.Runs.{run_is}

-- no token begins with a blank, and none is empty
no_blank : (b : ℕ) (rest xs : List ℕ) (s : Sort) (r : List ℕ) → is_blank b ≡ true → IsToken xs s → b ∷ rest ≡ xs ++ r → ⊥
no_blank b rest [] s r e t c = not_empty s t
no_blank b rest (x ∷ xs) s r e t c = blank_opens_none s b e (first_opens s b xs (subst (λ u. IsToken (u ∷ xs) s) (sym (head_is b x rest (xs ++ r) c)) t))

no_end : (xs : List ℕ) (s : Sort) (r : List ℕ) → IsToken xs s → [] ≡ xs ++ r → ⊥
no_end [] s r t c = not_empty s t
no_end (x ∷ xs) s r t c = cc

-- what is skipped begins with `/` or `#`
skip_first : (starts : Bool) (xs rest : List ℕ) → Skipped starts xs rest → (b : ℕ) × (tail : List ℕ) × (xs ≡ b ∷ tail) × ((b ≡ 47) ⊎ (b ≡ 35))
skip_first starts xs rest (inl (body, e, a, d)) = (47, 47 ∷ body, e, inl refl)
skip_first starts xs rest (inr (inl (body, e, h))) = (47, 42 ∷ body, e, inl refl)
skip_first starts xs rest (inr (inr (body, e, s, a, d))) = (35, body, e, inr refl)

skip_no_end : (starts : Bool) (xs rest : List ℕ) → Skipped starts xs rest → [] ≡ xs ++ rest → ⊥
skip_no_end starts xs rest h e = let (b, tail, f, which) = skip_first starts xs rest h in let k : [] ≡ b ∷ (tail ++ rest) = e ∙ ap (λ us. us ++ rest) f in cc

skip_no_blank : (starts : Bool) (b : ℕ) (us xs rest : List ℕ) → is_blank b ≡ true → Skipped starts xs rest → b ∷ us ≡ xs ++ rest → ⊥
skip_no_blank starts b us xs rest is h e =
    let (d, tail, f, which) = skip_first starts xs rest h in
    go d which (head_is b d us (tail ++ rest) (e ∙ ap (λ vs. vs ++ rest) f))
  where
    go : (d : ℕ) → (d ≡ 47) ⊎ (d ≡ 35) → b ≡ d → ⊥
    go d (inl k) same = blank_not b 47 is refl (same ∙ k)
    go d (inr k) same = blank_not b 35 is refl (same ∙ k)

no_line : (xs : List ℕ) (s : Sort) (r tail : List ℕ) → IsToken xs s → xs ++ r ≡ 35 ∷ tail → ⊥
no_line [] s r tail t e = not_empty s t
no_line (x ∷ xs) s r tail t e = line_opens_none s x (head_is x 35 (xs ++ r) tail e) (first_opens s x xs t)

token_no_skip : (starts : Bool) (xs : List ℕ) (s : Sort) (r ys rest : List ℕ) → IsToken xs s → (IsComment (xs ++ r) → ⊥) → Skipped starts ys rest → xs ++ r ≡ ys ++ rest → ⊥
token_no_skip starts xs s r ys rest t free (inl (body, e, a, d)) c = free (47, body ++ rest, c ∙ ap (λ us. us ++ rest) e, inl refl)
token_no_skip starts xs s r ys rest t free (inr (inl (body, e, h))) c = free (42, body ++ rest, c ∙ ap (λ us. us ++ rest) e, inr refl)
token_no_skip starts xs s r ys rest t free (inr (inr (body, e, z, a, d))) c = no_line xs s r (body ++ rest) t (c ∙ ap (λ us. us ++ rest) e)

-- ---- one thing is skipped at a place

-- two fronts of one length
same_front : (xs rest ys r : List ℕ) → xs ++ rest ≡ ys ++ r → length xs ≡ length ys → (xs ≡ ys) × (rest ≡ r)
same_front xs rest ys r c n =
    (sym (take_at xs rest (length ys) n) ∙ (ap (take (length ys)) c ∙ take_at ys r (length ys) refl), sym (drop_at xs rest (length ys) n) ∙ (ap (drop (length ys)) c ∙ drop_at ys r (length ys) refl))

-- how many bytes a comment has after its first, and how many are skipped
abbrev comment_length : List ℕ → Option ℕ
comment_length [] = None
comment_length (b ∷ bs) = if nat_eq b 47 then Some (suc (run c.InLine bs)) else option_map suc (to_close false bs)

abbrev skip_length : List ℕ → Option ℕ
skip_length [] = None
skip_length (b ∷ bs) = if nat_eq b 35 then Some (suc (run c.InLine bs)) else option_map suc (comment_length bs)

skip_size : (starts : Bool) (xs rest : List ℕ) → Skipped starts xs rest → skip_length (xs ++ rest) ≡ Some (length xs)
skip_size starts xs rest (inl (body, e, a, b)) = rw e (ap (λ n. Some (suc (suc n))) (run_is c.InLine body rest a b))
skip_size starts xs rest (inr (inl (body, e, a))) = rw e (ap (λ o. option_map suc (option_map suc o)) a)
skip_size starts xs rest (inr (inr (body, e, s, a, b))) = rw e (ap (λ n. Some (suc n)) (run_is c.InLine body rest a b))

one_skip : (starts : Bool) (xs rest ys r : List ℕ) → Skipped starts xs rest → Skipped starts ys r → xs ++ rest ≡ ys ++ r → (xs ≡ ys) × (rest ≡ r)
one_skip starts xs rest ys r h k c = let size : Some (length xs) ≡ Some (length ys) = sym (skip_size starts xs rest h) ∙ (ap skip_length c ∙ skip_size starts ys r k) in same_front xs rest ys r c cc

-- ---- one row of tokens with one end

-- where a rule is broken, no token is cut, and this rule is what ends the row
stops : (at : ℕ) (s : Bool) (bytes : List ℕ) (ts : List Tok) (x : Option (ℕ × Rule)) (rule : Rule) → Cuts at s bytes ts x → Breaks s rule bytes → (ts ≡ []) × (x ≡ Some (at, rule))
stops at s _ _ _ rule (done _ _) h = absurd (none_at_end s rule h)
stops at s _ _ _ rule (breaks _ _ bytes q k) h = (refl, ap (λ r. Some (at, r)) (one_rule s bytes q rule k h))
stops at s _ _ _ rule (blank _ _ b rest _ _ is clean more) h = absurd (clean rule h)
stops at s _ _ _ rule (skipped _ _ xs rest _ _ is clean more) h = absurd (clean rule h)
stops at s _ _ _ rule (token _ _ xs o rest _ _ g free clean more) h = absurd (clean rule h)

pub one_cut : (at : ℕ) (s : Bool) (bytes : List ℕ) (ts : List Tok) (x : Option (ℕ × Rule)) → Cuts at s bytes ts x → (others : List ℕ) (us : List Tok) (y : Option (ℕ × Rule)) → bytes ≡ others
    → Cuts at s others us y → (ts ≡ us) × (x ≡ y)
one_cut at s bytes ts x cut _ _ _ e (breaks _ _ _ rule h) = stops at s bytes ts x rule cut (subst (Breaks s rule) (sym e) h)
one_cut at s _ _ _ (breaks _ _ _ rule h) others us y e cut = let same = stops at s others us y rule cut (subst (Breaks s rule) e h) in (sym same.0, sym same.1)
one_cut at s _ _ _ (done _ _) _ _ _ e (done _ _) = (refl, refl)
one_cut at s _ _ _ (done _ _) _ _ _ e (blank _ _ b r _ _ is clean more) = cc
one_cut at s _ _ _ (done _ _) _ _ _ e (skipped _ _ xs r _ _ is clean more) = absurd (skip_no_end s xs r is e)
one_cut at s _ _ _ (done _ _) _ _ _ e (token _ _ xs o r _ _ g free clean more) = absurd (no_end xs o r g.token e)
one_cut at s _ _ _ (blank _ _ b rest _ _ is clean more) _ _ _ e (done _ _) = cc
one_cut at s _ _ _ (blank _ _ b rest ts x is clean more) _ _ _ e (blank _ _ d r us y _ _ other) =
    one_cut (at + 1) (nat_eq b 10 || s) rest ts x more r us y (tail_is b d rest r e) (subst (λ c. Cuts (at + 1) (nat_eq c 10 || s) r us y) (sym (head_is b d rest r e)) other)
one_cut at s _ _ _ (blank _ _ b rest _ _ is clean more) _ _ _ e (skipped _ _ xs r _ _ also _ other) = absurd (skip_no_blank s b rest xs r is also e)
one_cut at s _ _ _ (blank _ _ b rest _ _ is clean more) _ _ _ e (token _ _ xs o r _ _ g free _ other) = absurd (no_blank b rest xs o r is g.token e)
one_cut at s _ _ _ (skipped _ _ xs rest _ _ is clean more) _ _ _ e (done _ _) = absurd (skip_no_end s xs rest is (sym e))
one_cut at s _ _ _ (skipped _ _ xs rest _ _ is clean more) _ _ _ e (blank _ _ b r _ _ also _ other) = absurd (skip_no_blank s b r xs rest also is (sym e))
one_cut at s _ _ _ (skipped _ _ xs rest ts x is clean more) _ _ _ e (skipped _ _ ys r us y also _ other) =
    let same = one_skip s xs rest ys r is also e in
    one_cut (at + length xs) false rest ts x more r us y same.1 (subst (λ vs. Cuts (at + length vs) false r us y) (sym same.0) other)
one_cut at s _ _ _ (skipped _ _ xs rest _ _ is clean more) _ _ _ e (token _ _ ys o r _ _ g free _ other) = absurd (token_no_skip s ys o r xs rest g.token free is (sym e))
one_cut at s _ _ _ (token _ _ xs o rest _ _ g free clean more) _ _ _ e (done _ _) = absurd (no_end xs o rest g.token (sym e))
one_cut at s _ _ _ (token _ _ xs o rest _ _ g free clean more) _ _ _ e (blank _ _ b r _ _ is _ other) = absurd (no_blank b r xs o rest is g.token (sym e))
one_cut at s _ _ _ (token _ _ xs o rest _ _ g free clean more) _ _ _ e (skipped _ _ ys r _ _ is _ other) = absurd (token_no_skip s xs o rest ys r g.token free is e)
one_cut at s _ _ _ (token _ _ xs o rest ts x g free _ more) _ _ _ e (token _ _ ys u r us y k _ _ other) =
    let same = one_longest xs o rest ys u r g k e in
    let later = one_cut (at + length xs) false rest ts x more r us y same.2 (subst (λ vs. Cuts (at + length vs) false r us y) (sym same.0) other) in
    let front = same.0 in
    let sort = same.1 in
    let tail = later.0 in
    (cc, later.1)

same_fault : (x y : ℕ × Rule) → Some x ≡ Some y → fault_of x.1 x.0 ≡ fault_of y.1 y.0
same_fault x y e = let same : x ≡ y = cc in ap (λ z. fault_of z.1 z.0) same

-- what a fault says of the source
data Says (source : List ℕ) : LexFault → Type 0 where
  by_rule : (at : ℕ) (rule : Rule) → IsFirst source at rule → Says source (fault_of rule at)
  too_long : MOST_BYTES < length source → Says source f.TooLong
  memory : Says source f.Memory

says : (source : List ℕ) (fault : LexFault) → IsLexFault source fault → Says source fault
says source (f.BadByte at) h = by_rule at rules.BadByte h
says source (f.OpenComment at) h = by_rule at rules.OpenComment h
says source (f.OpenLiteral at) h = by_rule at rules.OpenLiteral h
says source (f.Literal at) h = by_rule at rules.Literal h
says source (f.Directive at) h = by_rule at rules.Directive h
says source f.TooLong h = too_long h
says source f.Memory h = memory

pub only_tokens : (source : List ℕ) (ts : List Tok) → Tokens source ts → OnlyTokens source ts
only_tokens source ts (short, cut) = (λ others (_, other). sym (one_cut 0 true source ts None cut source others None refl other).0, λ other h. none other (says source other h))
  where
    none : (other : LexFault) → Says source other → other ≡ f.Memory
    none _ (by_rule at rule (us, _, other)) = let same = (one_cut 0 true source ts None cut source us (Some (at, rule)) refl other).1 in cc
    none _ (too_long long) = absurd (omega (arith, short, long))
    none _ memory = refl

pub only_fault : (source : List ℕ) (fault : LexFault) → IsLexFault source fault → OnlyFault source fault
only_fault source fault h = (λ ts tokens. (only_tokens source ts tokens).1 fault h, λ other k. both fault (says source fault h) other (says source other k))
  where
    both : (fault : LexFault) → Says source fault → (other : LexFault) → Says source other → (other ≡ fault) ⊎ ((other ≡ f.Memory) ⊎ (fault ≡ f.Memory))
    both _ (by_rule at rule (ts, _, cut)) _ (by_rule p q (us, _, other)) =
        inl (same_fault (p, q) (at, rule) (one_cut 0 true source us (Some (p, q)) other source ts (Some (at, rule)) refl cut).1)
    both _ (by_rule at rule (ts, short, cut)) _ (too_long long) = absurd (omega (arith, short, long))
    both _ (too_long long) _ (by_rule p q (us, short, other)) = absurd (omega (arith, short, long))
    both _ (too_long _) _ (too_long _) = inl refl
    both _ _ _ memory = inr (inl refl)
    both _ memory _ _ = inr (inr refl)
