-- Tokens, without where they lie in memory.
use Rattle.std.specs.Prelude.{ℕ, ℤ, List, Bool, map}
use Rattle.arc_lex.specs.declared.mark.Mark.{Mark}
use Rattle.arc_lex.specs.declared.word.Word.{Word}
use Rattle.arc_lex.specs.declared.word.AtWord.{AtWord}
use Rattle.arc_lex.specs.declared.token.TokenKind.{TokenKind}
use Rattle.arc_lex.specs.declared.token.TokenKind.TheVariants as kinds
use Rattle.arc_lex.specs.declared.token.Token.{Token}

-- what a token is (C99, section 6.4). An integer has its value, and whether it has a suffix, and a character constant the byte that it
-- stands for. An unused word or mark of C or Objective-C is `Unused`, whichever it is
pub data Sort : Type 0 where
  Name : List ℕ → Sort
  Integer : ℤ → Bool → Sort
  Character : ℕ → Sort
  Text : List ℕ → Sort
  Key : Word → Sort
  At : AtWord → Sort
  Sign : Mark → Sort
  Unused : Sort

-- a token and its span, from its first byte up to the one after its last
pub record Tok : Type 0 where
  pub sort : Sort
  pub from : ℕ
  pub to : ℕ

-- what a token of the code is, and the token with its span
abbrev pub sort_of : TokenKind → Sort
sort_of (kinds.Name bytes) = Name bytes.items
sort_of (kinds.Integer value suffixed) = Integer value suffixed
sort_of (kinds.Character byte) = Character byte
sort_of (kinds.Text bytes) = Text bytes.items
sort_of (kinds.Word word) = Key word
sort_of (kinds.At word) = At word
sort_of (kinds.Mark mark) = Sign mark
sort_of kinds.Unused = Unused

abbrev pub tok : Token → Tok
tok t = record { sort = sort_of t.kind; from = t.span.from; to = t.span.to }

abbrev pub toks : List Token → List Tok
toks = map tok
