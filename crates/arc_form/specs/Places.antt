-- Where a limit is passed.
use Rattle.std.specs.Prelude.{◌≡◌, ◌⊎◌, ◌≤◌, ℕ, zero, suc, List, [], ◌∷◌, ◌++◌, length, Option, Some, None, true, false}
use Rattle.arc_lex.specs.Tokens.{Tok}
use Rattle.arc_form.specs.Reader.{sees, sees_two, is_above}
use Rattle.arc_form.specs.Form.{Limits, unlimited, Form, Bodies, token, give, call, map, ◌⨾◌, into, choose, many, or_none, nest, bounded, two_ahead, avoid}
use Rattle.arc_form.specs.Meaning.{AtMost, SpellsAll, SpellsBy, Spells}

-- tokens, and those that come after them: the first of the second ones is meant
abbrev pub Place : Type 1
Place = List Tok → List Tok → Type 0

-- Something that the form spells begins with these tokens.
abbrev pub Begun : {N : Type 0} {Node : N → Type 0} → Bodies N Node → {A : Type 0} → Form N Node A → List Tok → Type 0
Begun body {A} f before = (a : A) × (others : List Tok) × SpellsBy (Spells body) unlimited f a [] (before ++ others)

-- The token after these is one too many: they are as many as the limit allows, the form spells something that begins with
-- them, and if they are whole already, it also spells something that begins with them and that token.
abbrev pub OneTooMany : {N : Type 0} {Node : N → Type 0} → Bodies N Node → Option ℕ → {A : Type 0} → Form N Node A → Place
OneTooMany body None f before rest = ⊥
OneTooMany body (Some most) f before [] = ⊥
OneTooMany body (Some most) {A} f before (t ∷ rest) = (length before ≡ most) × Begun body f before
    × ((a : A) → SpellsBy (Spells body) unlimited f a [] before → Begun body f (before ++ t ∷ []))

-- Where a form passes a limit, if rules pass it there: the tokens before are spelled within the limits.
abbrev pub PassesBy : {N : Type 0} {Node : N → Type 0} → Bodies N Node → (Limits → N → Place) → Limits → {A : Type 0} → Form N Node A → Place
PassesBy body of limits (token T g) before rest = ⊥
PassesBy body of limits (give a) before rest = ⊥
PassesBy body of limits (call n) before rest = of limits n before rest
PassesBy body of limits (map h f) before rest = PassesBy body of limits f before rest
PassesBy body of limits (◌⨾◌ {A} {B} f g) before rest = PassesBy body of limits f before rest
    ⊎ ((a : A) × (ys zs : List Tok) × (before ≡ ys ++ zs) × SpellsBy (Spells body) limits f a (zs ++ rest) ys × PassesBy body of limits g zs rest)
PassesBy body of limits (into {A} {B} d f g) before rest = PassesBy body of limits f before rest
    ⊎ ((is_above limits.depth d ≡ true) × (1 ≤ length rest) × (a : A) × SpellsBy (Spells body) limits f a rest before)
    ⊎ (AtMost limits.depth d × (a : A) × (ys zs : List Tok) × (before ≡ ys ++ zs)
    × SpellsBy (Spells body) limits f a (zs ++ rest) ys × PassesBy body of limits g zs rest)
PassesBy body of limits (choose T f g) before rest = PassesBy body of limits f before rest ⊎ PassesBy body of limits g before rest
PassesBy body of limits (many {A} T f) before rest = (all : List A) × (ys zs : List Tok) × (before ≡ ys ++ zs)
    × SpellsAll (SpellsBy (Spells body) limits f) all (zs ++ rest) ys × PassesBy body of limits f zs rest
PassesBy body of limits (or_none T f a) before rest = PassesBy body of limits f before rest
PassesBy body of limits (nest d T f) before rest = (AtMost limits.depth d × PassesBy body of limits f before rest)
    ⊎ ((is_above limits.depth d ≡ true) × (before ≡ []) × (sees T rest ≡ true))
PassesBy body of limits (bounded f) before rest = OneTooMany body limits.tokens f before rest
PassesBy body of limits (two_ahead T U f g) before rest = PassesBy body of limits f before rest
    ⊎ (PassesBy body of limits g before rest × (sees_two T U (before ++ rest) ≡ false))
PassesBy body of limits (avoid T U f) before rest = PassesBy body of limits f before rest × (sees_two T U (before ++ rest) ≡ false)

-- where a rule passes a limit, by a derivation that is at most so high
unfoldable pub PassesWithin : {N : Type 0} {Node : N → Type 0} → Bodies N Node → ℕ → Limits → N → Place
PassesWithin body zero limits n before rest = ⊥
PassesWithin body (suc h) limits n before rest = PassesBy body (PassesWithin body h) limits (body n) before rest

-- where a form passes a limit
abbrev pub Passes : {N : Type 0} {Node : N → Type 0} → Bodies N Node → Limits → {A : Type 0} → Form N Node A → Place
Passes body limits f before rest = (h : ℕ) × PassesBy body (PassesWithin body h) limits f before rest
