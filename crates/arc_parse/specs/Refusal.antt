-- What the tokens spell, and what a refusal says of them.
use Rattle.std.specs.Prelude.{◌≡◌, ◌⊎◌, ℕ, List, [], ◌∷◌, ◌++◌}
use Rattle.arc_lex.specs.Tokens.{Tok}
use Rattle.arc_ast.specs.Tree.{UnitTree}
use Rattle.arc_fault.specs.declared.parse.ParseFault.{ParseFault}
use Rattle.arc_fault.specs.declared.parse.ParseFault.TheVariants as faults
use Rattle.arc_form.specs.Form.{Limits}
use Rattle.arc_form.specs.Places.{Begun, Passes}
use Rattle.arc_form.specs.Whole.{SpellsWhole, FitsNone}
use Rattle.arc_grammar.specs.Grammar.{body, unit, these}

-- All of the tokens spell the unit.
abbrev pub SpellsUnit : Limits → UnitTree → List Tok → Type 0
SpellsUnit limits u ts = SpellsWhole body limits unit u ts

-- where the last of these tokens ends, and this place where there is none
abbrev pub end_after : ℕ → List Tok → ℕ
end_after n [] = n
end_after n (t ∷ ts) = end_after t.to ts

-- the byte after the last token, or 0
abbrev pub end_of : List Tok → ℕ
end_of ts = end_after 0 ts

-- the first byte of the rest, or after the end of all tokens where there is no rest
abbrev pub place_of : List Tok → List Tok → ℕ
place_of all [] = end_of all
place_of all (t ∷ rest) = t.from

-- The token at this place is the first that does not fit: some unit begins with the tokens before it, and no list that a unit
-- spells begins with the tokens up to and including it; or the place is the end, and no unit spells the tokens.
abbrev pub FitsNoneAt : List Tok → ℕ → Type 0
FitsNoneAt all at = (before rest : List Tok) × (all ≡ before ++ rest) × (at ≡ place_of all rest) × FitsNone body unit before rest

-- The token at this place passes a limit, and all before it is within the limits; without limits some unit begins with the
-- tokens before it.
abbrev pub TooDeepAt : List Tok → ℕ → Type 0
TooDeepAt all at = (before rest : List Tok) × (all ≡ before ++ rest) × (at ≡ place_of all rest) × Passes body these unit before rest × Begun body unit before

-- a refusal for want of memory says nothing
abbrev pub IsRefused : List Tok → ParseFault → Type 0
IsRefused all (faults.Unexpected at) = FitsNoneAt all at
IsRefused all (faults.TooDeep at) = TooDeepAt all at
IsRefused all faults.Memory = Unit {0}

-- No limit is passed at any of these tokens.
abbrev pub PassesNowhere : List Tok → Type 0
PassesNowhere all = (before rest : List Tok) → all ≡ before ++ rest → Passes body these unit before rest → ⊥

-- Where a limit is passed, the refusal is of that place, or for want of memory.
abbrev pub ReportsLimit : List Tok → ParseFault → Type 0
ReportsLimit all f = (before rest : List Tok) → all ≡ before ++ rest → Passes body these unit before rest → (f ≡ faults.TooDeep (place_of all rest)) ⊎ (f ≡ faults.Memory)
