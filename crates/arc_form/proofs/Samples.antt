-- A token of each set of kinds.
use Rattle.std.proofs.Common.{pos, false, List, [], ◌∷◌, ◌++◌, map, if◌then◌else◌}
use Rattle.arc_lex.specs.declared.mark.TheConstants.{MARKS}
use Rattle.arc_lex.specs.declared.word.TheConstants.{WORDS, AT_WORDS}
use Rattle.arc_lex.specs.Tokens.{Tok, Sort, Name, Integer, Character, Text, Key, At, Sign}
use Rattle.arc_form.specs.Kinds.{Kind, Kinds, main_bytes, none, one, ◌∪◌, kind, same}

-- one of each kind
abbrev sorts : List Sort
sorts = Name [] ∷ Name main_bytes ∷ Integer (pos 0) false ∷ Character 0 ∷ Text [] ∷ (map Key WORDS ++ (map At AT_WORDS ++ map Sign MARKS))

abbrev found : Kind → List Sort → Sort
found k [] = Name []
found k (s ∷ others) = if same (kind s) k then s else found k others

abbrev pick : Kinds → Kind
pick none = (0, [])
pick (one k) = k
pick (A ∪ B) = pick A

-- a token of the first of these kinds
abbrev pub sample : Kinds → Tok
sample T = record { sort = found (pick T) sorts; from = 0; to = 0 }
