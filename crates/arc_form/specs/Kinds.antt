-- Kinds of tokens, and sets of them.
use Rattle.std.specs.Prelude.{ℕ, List, [], Bool, true, false, ◌&&◌, ◌||◌, nat_eq, bytes_eq, codes, if◌then◌else◌}
use Rattle.arc_lex.specs.declared.mark.Mark.{Mark}
use Rattle.arc_lex.specs.declared.word.Word.{Word}
use Rattle.arc_lex.specs.declared.word.AtWord.{AtWord}
use Rattle.arc_lex.specs.Spellings.{mark_bytes, word_bytes, at_bytes}
use Rattle.arc_lex.specs.Tokens.{Tok, Sort, Name, Integer, Character, Text, Key, At, Sign, Unused}

-- the bytes of `main`
abbrev pub main_bytes : List ℕ
main_bytes = codes "main"

-- The kind of a token: what a grammar keeps apart. A word, a mark and the name `main` go by how they are written, any other name, an integer, a character
-- constant, a text and an unused token by what they are alone.
abbrev pub Kind : Type 0
Kind = ℕ × List ℕ

-- the kind of what a token is
abbrev pub kind : Sort → Kind
kind (Name bytes) = (0, if bytes_eq bytes main_bytes then main_bytes else [])
kind (Integer value suffixed) = (1, [])
kind (Character byte) = (2, [])
kind (Text bytes) = (3, [])
kind (Key word) = (4, word_bytes word)
kind (At word) = (5, at_bytes word)
kind (Sign mark) = (6, mark_bytes mark)
kind Unused = (7, [])

-- whether two kinds are the same
abbrev pub same : Kind → Kind → Bool
same a b = nat_eq a.0 b.0 && bytes_eq a.1 b.1

-- a set of kinds
infixl 15 ◌∪◌
pub data Kinds : Type 0 where
  none : Kinds
  one : Kind → Kinds
  ◌∪◌ : Kinds → Kinds → Kinds

-- whether a kind is in a set
abbrev pub has : Kinds → Kind → Bool
has none k = false
has (one a) k = same k a
has (A ∪ B) k = has A k || has B k

-- whether a token is of one of these kinds
abbrev pub is : Kinds → Tok → Bool
is T t = has T (kind t.sort)

-- The sets that grammars are written with: of a mark, of a word, of a word after `@`, of the name `main`, of all other names, of all names, of all integers,
-- of all character constants, and of all texts.
abbrev pub mark : Mark → Kinds
mark m = one (kind (Sign m))

abbrev pub word : Word → Kinds
word w = one (kind (Key w))

abbrev pub at : AtWord → Kinds
at w = one (kind (At w))

abbrev pub main : Kinds
main = one (0, main_bytes)

abbrev pub other_name : Kinds
other_name = one (0, [])

abbrev pub name : Kinds
name = other_name ∪ main

abbrev pub integer : Kinds
integer = one (1, [])

abbrev pub character : Kinds
character = one (2, [])

abbrev pub text : Kinds
text = one (3, [])
