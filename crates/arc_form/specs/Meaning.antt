-- Which tokens a rule of a grammar spells.
use Rattle.std.specs.Prelude.{◌≡◌, ◌⊎◌, ◌≤◌, ℕ, zero, suc, List, [], ◌∷◌, ◌++◌, length, Option, Some, None, true, false}
use Rattle.arc_lex.specs.Tokens.{Tok}
use Rattle.arc_form.specs.Kinds.{is}
use Rattle.arc_form.specs.Reader.{sees, sees_two}
use Rattle.arc_form.specs.Form.{Limits, unlimited, Form, Bodies, token, give, call, map, ◌⨾◌, into, choose, many, or_none, nest, bounded, two_ahead, avoid}

-- a number is no more than a limit, where there is one
abbrev pub AtMost : Option ℕ → ℕ → Type 0
AtMost None n = Unit {0}
AtMost (Some most) n = n ≤ most

-- which tokens spell a value, and before which others: `S a rest xs` says that xs do, before rest
abbrev pub Spelling : Type 0 → Type 1
Spelling A = A → List Tok → List Tok → Type 0

-- tokens spell each value of a list, one after the other
abbrev pub SpellsAll : {A : Type 0} → Spelling A → Spelling (List A)
SpellsAll S [] rest xs = xs ≡ []
SpellsAll S (a ∷ others) rest xs = (ys zs : List Tok) × (xs ≡ ys ++ zs) × S a (zs ++ rest) ys × SpellsAll S others rest zs

-- what a form spells, where rules spell this
abbrev pub SpellsBy : {N : Type 0} {Node : N → Type 0} → (Limits → (n : N) → Spelling (Node n)) → Limits → {A : Type 0} → Form N Node A → Spelling A
SpellsBy of limits (token T g) a rest xs = (t : Tok) × (xs ≡ t ∷ []) × (is T t ≡ true) × (a ≡ g t)
SpellsBy of limits (give b) a rest xs = (xs ≡ []) × (a ≡ b)
SpellsBy of limits (call n) a rest xs = of limits n a rest xs
SpellsBy of limits (map {A} h f) b rest xs = (a : A) × (b ≡ h a) × SpellsBy of limits f a rest xs
SpellsBy of limits (f ⨾ g) a rest xs = (ys zs : List Tok) × (xs ≡ ys ++ zs) × SpellsBy of limits f a.0 (zs ++ rest) ys × SpellsBy of limits g a.1 rest zs
SpellsBy of limits (into d f g) a rest xs = AtMost limits.depth d
    × ((ys zs : List Tok) × (xs ≡ ys ++ zs) × SpellsBy of limits f a.0 (zs ++ rest) ys × SpellsBy of limits g a.1 rest zs)
SpellsBy of limits (choose T f g) a rest xs = SpellsBy of limits f a rest xs ⊎ SpellsBy of limits g a rest xs
SpellsBy of limits (many T f) all rest xs = SpellsAll (SpellsBy of limits f) all rest xs
SpellsBy of limits (or_none T f b) a rest xs = SpellsBy of limits f a rest xs ⊎ ((xs ≡ []) × (a ≡ b) × (sees T rest ≡ false))
SpellsBy of limits (nest d T f) a rest xs = AtMost limits.depth d × SpellsBy of limits f a rest xs
SpellsBy of limits (bounded f) a rest xs = AtMost limits.tokens (length xs) × SpellsBy of unlimited f a rest xs
SpellsBy of limits (two_ahead T U f g) a rest xs = SpellsBy of limits f a rest xs ⊎ (SpellsBy of limits g a rest xs × (sees_two T U (xs ++ rest) ≡ false))
SpellsBy of limits (avoid T U f) a rest xs = SpellsBy of limits f a rest xs × (sees_two T U xs ≡ false)

-- what a rule spells by a derivation that is at most so high
unfoldable pub Within : {N : Type 0} {Node : N → Type 0} → Bodies N Node → ℕ → Limits → (n : N) → Spelling (Node n)
Within body zero limits n a rest xs = ⊥
Within body (suc h) limits n a rest xs = SpellsBy (Within body h) limits (body n) a rest xs

-- what a rule spells
abbrev pub Spells : {N : Type 0} {Node : N → Type 0} → Bodies N Node → Limits → (n : N) → Spelling (Node n)
Spells body limits n a rest xs = (h : ℕ) × Within body h limits n a rest xs
