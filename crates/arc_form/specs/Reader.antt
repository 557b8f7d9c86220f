-- Readers of tokens: each goes from left to right and stops at the first token that it refuses.
use Rattle.std.specs.Prelude.{◌≡◌, ◌+◌, ℕ, zero, suc, List, [], ◌∷◌, length, drop, Result, Ok, Err, Bool, true, false, ◌&&◌, Option, Some, None, nat_lt, if◌then◌else◌}
use Rattle.arc_lex.specs.Tokens.{Tok, Sort, Name}
use Rattle.arc_form.specs.Kinds.{Kinds, is}
use Rattle.arc_form.specs.declared.fail.Fail.{Fail}
use Rattle.arc_form.specs.declared.fail.Fail.TheVariants.{Memory, Unexpected, TooDeep}

-- why a token is refused: it does not fit, or it passes a limit
pub data Fault : Type 0 where
  misfit : Fault
  too_deep : Fault

-- a value and the tokens after it, or why a token is refused and the tokens from it on
abbrev pub Read : Type 0 → Type 0
Read A = Result (A × List Tok) (Fault × List Tok)

abbrev pub Reader : Type 0 → Type 0
Reader A = List Tok → Read A

abbrev pub bind : {A B : Type 0} → Read A → (A → Reader B) → Read B
bind (Ok x) f = f x.0 x.1
bind (Err e) f = Err e

-- one reader, and after it another, which gets what the first one gave
infixl 10 ◌>>=◌
abbrev pub ◌>>=◌ : {A B : Type 0} → Reader A → (A → Reader B) → Reader B
f >>= g = λ ts. bind (f ts) g

-- takes nothing
abbrev pub ret : {A : Type 0} → A → Reader A
ret a = λ ts. Ok (a, ts)

abbrev pub unexpected : {A : Type 0} → Reader A
unexpected = λ ts. Err (misfit, ts)

abbrev pub too_deep_here : {A : Type 0} → Reader A
too_deep_here = λ ts. Err (too_deep, ts)

-- Reading gave this failure of a function, which left these tokens, or memory ran out.
abbrev pub Fails : {A : Type 0} → Fail → List Tok → Read A → Type 0
Fails Memory rest read = Unit {0}
Fails Unexpected rest read = read ≡ Err (misfit, rest)
Fails TooDeep rest read = read ≡ Err (too_deep, rest)

-- Reading gave what a function returned, seen through view, and the tokens that it left, or memory ran out.
abbrev pub Gives : {X A : Type 0} → (X → A) → Result X Fail → List Tok → Read A → Type 0
Gives view (Ok x) rest read = read ≡ Ok (view x, rest)
Gives view (Err e) rest read = Fails e rest read

-- the first token, if there is one
abbrev pub first : List Tok → Option Tok
first [] = None
first (t ∷ ts) = Some t

-- whether there is a first token and it is of these kinds
abbrev pub sees : Kinds → List Tok → Bool
sees T [] = false
sees T (t ∷ ts) = is T t

-- whether a token of T is ahead, and after it one of U
abbrev pub sees_two : Kinds → Kinds → List Tok → Bool
sees_two T U ts = sees T ts && sees U (drop 1 ts)

-- refuses the second token
abbrev pub second_unexpected : {A : Type 0} → Reader A
second_unexpected = λ ts. Err (misfit, drop 1 ts)

-- a choice by the first token
abbrev pub if_sees : {A : Type 0} → Kinds → Reader A → Reader A → Reader A
if_sees T f g = λ ts. if sees T ts then f ts else g ts

-- a choice by the first two tokens
abbrev pub if_sees_two : {A : Type 0} → Kinds → Kinds → Reader A → Reader A → Reader A
if_sees_two T U f g = λ ts. if sees_two T U ts then f ts else g ts

abbrev pub from : Tok → ℕ
from t = t.from

abbrev pub taken : {A : Type 0} → Bool → (Tok → A) → Tok → List Tok → Read A
taken true g t ts = Ok (g t, ts)
taken false g t ts = Err (misfit, t ∷ ts)

-- one token of these kinds
abbrev pub take_one : {A : Type 0} → Kinds → (Tok → A) → Reader A
take_one T g [] = Err (misfit, [])
take_one T g (t ∷ ts) = taken (is T t) g t ts

-- The first token, which is of these kinds, was taken, and it is at this place; or it is not, and none was.
abbrev pub Taken : Option ℕ → Kinds → List Tok → List Tok → Type 0
Taken (Some place) T ts rest = (sees T ts ≡ true) × (take_one T from ts ≡ Ok (place, rest))
Taken None T ts rest = (sees T rest ≡ false) × (ts ≡ rest)

-- what f reads, again and again while a token of these kinds is ahead, so many times at most
abbrev pub turns : {A : Type 0} → ℕ → Kinds → Reader A → Reader (List A)
turns zero T f = unexpected
turns (suc n) T f = if_sees T (f >>= (λ a. turns n T f >>= (λ others. ret (a ∷ others)))) (ret [])

-- the same, as often as there are tokens
unfoldable pub loop : {A : Type 0} → Kinds → Reader A → Reader (List A)
loop T f = λ ts. turns (suc (length ts)) T f ts

-- whether a number is more than a limit, where there is one
abbrev pub is_above : Option ℕ → ℕ → Bool
is_above None n = false
is_above (Some most) n = nat_lt most n

-- the token ahead passes a limit; the end doesn't
abbrev pub past : {A : Type 0} → Reader A
past [] = Err (misfit, [])
past (t ∷ ts) = Err (too_deep, t ∷ ts)

-- nothing, where this depth is allowed; otherwise any token passes the limit
unfoldable pub allowed : Option ℕ → ℕ → Reader (Unit {0})
allowed most depth = if is_above most depth then past else ret tt

-- f, where this depth is allowed; otherwise a token of these kinds passes the limit
unfoldable pub nested : {A : Type 0} → Option ℕ → ℕ → Kinds → Reader A → Reader A
nested most depth T f = if is_above most depth then if_sees T too_deep_here unexpected else f

-- whether the token after the first `most` is among those that were read, or is the one that was refused
abbrev pub goes_over : {A : Type 0} → ℕ → List Tok → Read A → Bool
goes_over most ts (Ok x) = nat_lt (length x.1 + most) (length ts)
goes_over most ts (Err e) = nat_lt most (length ts) && nat_lt (length e.1 + most) (suc (length ts))

abbrev pub cut : {A : Type 0} → Option ℕ → List Tok → Read A → Read A
cut None ts x = x
cut (Some most) ts x = if goes_over most ts x then Err (too_deep, drop most ts) else x

-- as f reads, but so many tokens at most
unfoldable pub up_to : {A : Type 0} → Option ℕ → Reader A → Reader A
up_to most f = λ ts. cut most ts (f ts)

-- ---- what tokens give

-- the bytes of a name, and none of any other token
abbrev pub bytes_of : Sort → List ℕ
bytes_of (Name bytes) = bytes
bytes_of _ = []

-- a name's place and bytes
abbrev pub named : Tok → ℕ × List ℕ
named t = (t.from, bytes_of t.sort)
