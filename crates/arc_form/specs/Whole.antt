-- What a form spells of all of the tokens, and what a refusal says of them.
use Rattle.std.specs.Prelude.{◌≡◌, List, [], ◌∷◌, ◌++◌, Ok, Err}
use Rattle.arc_lex.specs.Tokens.{Tok}
use Rattle.arc_form.specs.Reader.{Reader, ◌>>=◌, misfit, first}
use Rattle.arc_form.specs.Form.{Limits, unlimited, Form, Bodies, run, read}
use Rattle.arc_form.specs.Meaning.{SpellsBy, Spells}
use Rattle.arc_form.specs.Places.{Begun}

-- All of these tokens spell a value of the form.
abbrev pub SpellsWhole : {N : Type 0} {Node : N → Type 0} → Bodies N Node → Limits → {A : Type 0} → Form N Node A → A → List Tok → Type 0
SpellsWhole body limits f a ts = SpellsBy (Spells body) limits f a [] ts

-- the end of the tokens
abbrev pub end : {A : Type 0} → A → Reader A
end a [] = Ok (a, [])
end a (t ∷ ts) = Err (misfit, t ∷ ts)

-- a form and the end of the tokens
unfoldable pub read_whole : {N : Type 0} {Node : N → Type 0} → Bodies N Node → Limits → {A : Type 0} → Form N Node A → Reader A
read_whole body limits f = run (read body) limits f >>= end

-- The first of the rest, or the end, is the first that does not fit: the form spells something that begins with the tokens
-- before it, and nothing that begins with them and then it; where it is the end, nothing that is they alone.
abbrev pub FitsNone : {N : Type 0} {Node : N → Type 0} → Bodies N Node → {A : Type 0} → Form N Node A → List Tok → List Tok → Type 0
FitsNone body {A} f before rest = Begun body f before × ((others : List Tok) (a : A) → first others ≡ first rest → SpellsWhole body unlimited f a (before ++ others) → ⊥)
