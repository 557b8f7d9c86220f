-- Tests on sets of kinds, which compute.
use Rattle.std.proofs.Common.{◌≤◌, length, ◌≡◌, List, [], ◌∷◌, ◌++◌, Bool, true, false, not, ◌&&◌, ◌||◌, nat_eq, refl, sym, ap, subst, ap₂, arith, drop, if◌then◌else◌}
use Rattle.std.proofs.lemmas.Bool.{eqb-true}
use Rattle.std.proofs.lemmas.Slice.Eq.{bytes_eq-Decides}
use Rattle.std.specs.Str.{bytes_eq}
use Rattle.arc_lex.specs.Tokens.{Tok}
use Rattle.arc_form.specs.Kinds.{Kind, Kinds, main_bytes, none, one, ◌∪◌, same, has, kind, is, name}
use Rattle.arc_form.specs.Reader.{first, sees, sees_two}

-- ---- tests

pub both : (a b : Bool) → (a && b) ≡ true → (a ≡ true) × (b ≡ true)
both a b e = grind arith

pub and_of : (a b : Bool) → a ≡ true → b ≡ true → (a && b) ≡ true
and_of a b p q = grind arith

pub and_no : (a b : Bool) → b ≡ false → (a && b) ≡ false
and_no a b e = grind arith

-- ---- sets of kinds

-- whether all of the first are among the second
abbrev pub among : Kinds → Kinds → Bool
among none B = true
among (one a) B = has B a
among (A ∪ C) B = among A B && among C B

-- whether none of the first is among the second
abbrev pub apart : Kinds → Kinds → Bool
apart none B = true
apart (one a) B = not (has B a)
apart (A ∪ C) B = apart A B && apart C B

pub same_is : (a b : Kind) → same a b ≡ true → a ≡ b
same_is (i, j) (k, l) e =
    let p = both (nat_eq i k) (bytes_eq j l) e in
    ap₂ (λ x y. (x, y)) (eqb-true i k p.0) ((bytes_eq-Decides j l).0 p.1)

among_has : (A B : Kinds) (k : Kind) → among A B ≡ true → has A k ≡ true → has B k ≡ true
among_has none B k e h = cc
among_has (one a) B k e h = subst (λ x. has B x ≡ true) (sym (same_is k a h)) e
among_has (A ∪ C) B k e h = grind (arith, among_has A B k, among_has C B k)

apart_has : (A B : Kinds) (k : Kind) → apart A B ≡ true → has A k ≡ true → has B k ≡ false
apart_has none B k e h = cc
apart_has (one a) B k e h = subst (λ x. has B x ≡ false) (sym (same_is k a h)) (grind arith)
apart_has (A ∪ C) B k e h = grind (arith, apart_has A B k, apart_has C B k)

pub name_has : (b : Bool) → has name (0, if b then main_bytes else []) ≡ true
name_has true = refl
name_has false = refl

-- ---- the first token

pub sees_among : (A B : Kinds) (ts : List Tok) → among A B ≡ true → sees A ts ≡ true → sees B ts ≡ true
sees_among A B [] e h = cc
sees_among A B (t ∷ ts) e h = among_has A B (kind t.sort) e h

pub sees_apart : (A B : Kinds) (ts : List Tok) → apart A B ≡ true → sees A ts ≡ true → sees B ts ≡ false
sees_apart A B [] e h = cc
sees_apart A B (t ∷ ts) e h = apart_has A B (kind t.sort) e h

-- what is none of these is none of fewer
pub sees_none : (A B : Kinds) (ts : List Tok) → among A B ≡ true → sees B ts ≡ false → sees A ts ≡ false
sees_none A B ts e h = grind (arith, sees_among A B ts e)

pub none_seen : (ts : List Tok) → sees none ts ≡ false
none_seen [] = refl
none_seen (t ∷ ts) = refl

-- a set without kinds
pub sees_nothing : (A : Kinds) (ts : List Tok) → among A none ≡ true → sees A ts ≡ false
sees_nothing A ts e = sees_none A none ts e (none_seen ts)

pub apart_nothing : (A B : Kinds) → among A none ≡ true → apart A B ≡ true
apart_nothing none B e = refl
apart_nothing (one a) B e = cc
apart_nothing (A ∪ C) B e = let p = both (among A none) (among C none) e in and_of (apart A B) (apart C B) (apart_nothing A B p.0) (apart_nothing C B p.1)

-- what is one of these is none of others
pub sees_other : (A B : Kinds) (ts : List Tok) → apart A B ≡ true → sees B ts ≡ true → sees A ts ≡ false
sees_other A B ts p e = grind (arith, sees_apart A B ts p)

pub sees_or : (A B : Kinds) (ts : List Tok) → sees (A ∪ B) ts ≡ (sees A ts || sees B ts)
sees_or A B [] = refl
sees_or A B (t ∷ ts) = refl

pub sees_left : (A B : Kinds) (ts : List Tok) → sees A ts ≡ true → sees (A ∪ B) ts ≡ true
sees_left A B ts h = grind (arith, sees_or A B ts)

pub sees_right : (A B : Kinds) (ts : List Tok) → sees B ts ≡ true → sees (A ∪ B) ts ≡ true
sees_right A B ts h = grind (arith, sees_or A B ts)

pub sees_neither : (A B : Kinds) (ts : List Tok) → sees (A ∪ B) ts ≡ false → (sees A ts ≡ false) × (sees B ts ≡ false)
sees_neither A B ts h = grind (arith, sees_or A B ts)

-- a test of the first token alone
pub sees_alike : (T : Kinds) (a b : List Tok) → first a ≡ first b → sees T a ≡ sees T b
sees_alike T [] [] e = refl
sees_alike T [] (u ∷ us) e = cc
sees_alike T (t ∷ ts) [] e = cc
sees_alike T (t ∷ ts) (u ∷ us) e = let same : t ≡ u = cc in ap (is T) same

pub sees_more : (T : Kinds) (xs rest : List Tok) → sees T xs ≡ true → sees T (xs ++ rest) ≡ true
sees_more T [] rest e = cc
sees_more T (t ∷ xs) rest e = e

pub second_more : (U : Kinds) (xs rest : List Tok) → sees U (drop 1 xs) ≡ true → sees U (drop 1 (xs ++ rest)) ≡ true
second_more U [] rest e = cc
second_more U (t ∷ xs) rest e = sees_more U xs rest e

-- what does not begin so with others after it does not begin so alone
pub two_less : (T U : Kinds) (xs r : List Tok) → sees_two T U (xs ++ r) ≡ false → sees_two T U xs ≡ false
two_less T U [] r e = refl
two_less T U (t ∷ []) r e = grind arith
two_less T U (t ∷ u ∷ xs) r e = e

-- a test of the first two tokens, of lists that share the first one at least where it passes
pub two_alike : (T U : Kinds) (b more rest : List Tok) → first more ≡ first rest → (sees T (b ++ rest) ≡ true → 1 ≤ length b) → sees_two T U (b ++ more) ≡ sees_two T U (b ++ rest)
two_alike T U [] more rest e k = go (sees T rest) refl (sees_alike T more rest e)
  where
    go : (b : Bool) → sees T rest ≡ b → sees T more ≡ sees T rest → (sees T more && sees U (drop 1 more)) ≡ (sees T rest && sees U (drop 1 rest))
    go true q f = let p = k q in absurd (omega (arith, p))
    go false q f = grind arith
two_alike T U (t ∷ []) more rest e k = ap (λ b. is T t && b) (sees_alike U more rest e)
two_alike T U (t ∷ u ∷ b) more rest e k = refl
