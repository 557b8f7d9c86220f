-- The piece at the front of bytes, as the code finds it.
use Rattle.std.specs.Prelude.{◌≡◌, ◌≤◌, ◌<◌, ◌++◌, length, ℕ, ◌+◌, ℤ, List, [], ◌∷◌, take, Bool, true, false, ◌&&◌, nat_eq, if◌then◌else◌, Option, Some, None}
use Rattle.std.specs.Borrow.{Bor}
use Rattle.std.specs.List.{starts_with, list_any}
use Rattle.std.specs.Cmp.Lexicographic.{pointwise}
use Rattle.arc_lex.specs.declared.mark.Mark.{Mark}
use Rattle.arc_lex.specs.declared.word.Word.{Word}
use Rattle.arc_lex.specs.declared.word.AtWord.{AtWord}
use Rattle.arc_lex.specs.declared.bytes.Class.TheVariants as c
use Rattle.arc_lex.specs.declared.piece.Rule.{Rule}
use Rattle.arc_lex.specs.declared.piece.Rule.TheVariants as rules
use Rattle.arc_lex.specs.declared.piece.Piece as lex
use Rattle.arc_lex.specs.declared.piece.Piece.TheVariants as pieces
use Rattle.arc_lex.specs.declared.mark.TheConstants.{MARKS}
use Rattle.arc_lex.specs.declared.word.TheConstants.{WORDS, AT_WORDS}
use Rattle.arc_lex.specs.Bytes.{has, run, is_blank}
use Rattle.arc_lex.specs.Spellings.{mark_bytes, word_bytes, at_bytes, unused}
use Rattle.arc_lex.specs.Texts.{Part, Plain, Escape, parts_bytes, parts_value, integer}
use Rattle.arc_lex.specs.Tokens.{Sort, Name, Integer, Character, Text, Key, At, Sign, Unused, sort_of}
use Rattle.arc_lex.specs.Source.{Longest, IsComment, Skipped, is_skipped, to_close, Faultless, Breaks}

pub data Piece : Type 0 where
  Blank : Bool → Piece
  Skip : ℕ → Piece
  Whole : Sort → ℕ → Piece
  Broken : Rule → Piece

-- the first of those with whose bytes xs begins
abbrev pub first_front : {A : Type 0} → (A → List ℕ) → List A → List ℕ → Option A
first_front bytes_of [] xs = None
first_front bytes_of (a ∷ rest) xs = if starts_with nat_eq xs (bytes_of a) then Some a else first_front bytes_of rest xs

-- the first of those whose bytes are xs
abbrev pub first_equal : {A : Type 0} → (A → List ℕ) → List A → List ℕ → Option A
first_equal bytes_of [] xs = None
first_equal bytes_of (a ∷ rest) xs = if pointwise nat_eq (bytes_of a) xs then Some a else first_equal bytes_of rest xs

-- the bytes of a text of the code
abbrev pub now : Bor (List ℕ) → List ℕ
now text = text.now

-- whether one of the texts is xs
abbrev pub is_one : List (List ℕ) → List ℕ → Bool
is_one texts xs = list_any (λ text. pointwise nat_eq text xs) texts

abbrev pub itself : List ℕ → List ℕ
itself text = text

-- a reserved word that is used, one that isn't, or a name
abbrev pub word_or_name : Option Word → Bool → List ℕ → Piece
word_or_name (Some word) found xs = Whole (Key word) (length xs)
word_or_name None true xs = Whole Unused (length xs)
word_or_name None false xs = Whole (Name xs) (length xs)

unfoldable pub name_piece : List ℕ → Piece
name_piece bytes =
    word_or_name (first_equal word_bytes WORDS (take (run c.InName bytes) bytes)) (is_one unused (take (run c.InName bytes) bytes)) (take (run c.InName bytes) bytes)

-- an unused word or mark, or the rule that is broken where there is none
abbrev pub unused_or : Rule → Option (List ℕ) → Piece
unused_or rule None = Broken rule
unused_or rule (Some text) = Whole Unused (length text)

abbrev pub integer_found : Option (ℤ × Bool) → ℕ → Piece
integer_found None n = Broken rules.Literal
integer_found (Some i) n = Whole (Integer i.0 i.1) n

unfoldable pub number_piece : List ℕ → Piece
number_piece bytes = integer_found (integer (take (run c.InName bytes) bytes)) (length (take (run c.InName bytes) bytes))

-- the parts of a literal up to its closing quote, after those that were found, if it is closed on its line. `escaped` says whether a
-- backslash stands in front
abbrev pub scan : ℕ → Bool → List Part → List ℕ → Option (List Part)
scan quote escaped ps [] = None
scan quote true ps (b ∷ bs) = if nat_eq b 10 then None else scan quote false (ps ++ Escape b ∷ []) bs
scan quote false ps (b ∷ bs) =
    if nat_eq b 10 then None
    else if nat_eq b quote then Some ps
    else if nat_eq b 92 then scan quote true ps bs
    else scan quote false (ps ++ Plain b ∷ []) bs

abbrev pub text_value : Option (List ℕ) → ℕ → Piece
text_value None n = Broken rules.Literal
text_value (Some bytes) n = Whole (Text bytes) n

abbrev pub text_found : Option (List Part) → Piece
text_found None = Broken rules.OpenLiteral
text_found (Some ps) = text_value (parts_value 34 ps) (length (parts_bytes ps) + 2)

unfoldable pub text_piece : List ℕ → Piece
text_piece [] = Broken rules.OpenLiteral
text_piece (b ∷ bs) = text_found (scan 34 false [] bs)

abbrev pub character_value : Option (List ℕ) → ℕ → Piece
character_value (Some (b ∷ [])) n = Whole (Character b) n
character_value _ n = Broken rules.Literal

abbrev pub character_found : Option (List Part) → Piece
character_found None = Broken rules.OpenLiteral
character_found (Some ps) = character_value (parts_value 39 ps) (length (parts_bytes ps) + 2)

unfoldable pub character_piece : List ℕ → Piece
character_piece [] = Broken rules.OpenLiteral
character_piece (b ∷ bs) = character_found (scan 39 false [] bs)

abbrev pub at_found : Option AtWord → Option (List ℕ) → Piece
at_found None other = unused_or rules.Directive other
at_found (Some word) other = Whole (At word) (length (at_bytes word))

unfoldable pub at_piece : List ℕ → Piece
at_piece bytes = at_found (first_front at_bytes AT_WORDS bytes) (first_front itself unused bytes)

abbrev pub mark_found : Option Mark → Option (List ℕ) → Piece
mark_found None other = unused_or rules.BadByte other
mark_found (Some mark) other = Whole (Sign mark) (length (mark_bytes mark))

unfoldable pub mark_piece : List ℕ → Piece
mark_piece bytes = mark_found (first_front mark_bytes MARKS bytes) (first_front itself unused bytes)

-- a `#`, and what is after it
unfoldable pub line_piece : Bool → List ℕ → Piece
line_piece starts bytes = if starts && is_skipped bytes then Skip (run c.InLine bytes + 1) else Broken rules.Directive

-- a `/*` with its `*/`, if there is one
abbrev pub closed_piece : Option ℕ → Piece
closed_piece None = Broken rules.OpenComment
closed_piece (Some n) = Skip (n + 2)

-- what is no blank
unfoldable pub slash_piece : List ℕ → Piece
slash_piece [] = mark_piece []
slash_piece (b ∷ []) = mark_piece (b ∷ [])
slash_piece (b ∷ d ∷ bs) =
    if nat_eq b 47 && nat_eq d 47 then Skip (run c.InLine bs + 2)
    else if nat_eq b 47 && nat_eq d 42 then closed_piece (to_close false bs)
    else mark_piece (b ∷ d ∷ bs)

abbrev pub not_line : Bool → ℕ → List ℕ → Piece
not_line starts b bs = if is_blank b then Blank (nat_eq b 10) else slash_piece (b ∷ bs)

abbrev pub not_at : Bool → ℕ → List ℕ → Piece
not_at starts b bs = if nat_eq b 35 then line_piece starts bs else not_line starts b bs

abbrev pub not_character : Bool → ℕ → List ℕ → Piece
not_character starts b bs = if nat_eq b 64 then at_piece (b ∷ bs) else not_at starts b bs

abbrev pub not_text : Bool → ℕ → List ℕ → Piece
not_text starts b bs = if nat_eq b 39 then character_piece (b ∷ bs) else not_character starts b bs

abbrev pub not_number : Bool → ℕ → List ℕ → Piece
not_number starts b bs = if nat_eq b 34 then text_piece (b ∷ bs) else not_text starts b bs

abbrev pub not_name : Bool → ℕ → List ℕ → Piece
not_name starts b bs = if has c.Digit b then number_piece (b ∷ bs) else not_number starts b bs

unfoldable pub piece : Bool → List ℕ → Piece
piece starts [] = Broken rules.BadByte
piece starts (b ∷ bs) = if has c.Letter b then name_piece (b ∷ bs) else not_name starts b bs

abbrev pub seen : lex.Piece → Piece
seen (pieces.Blank newline) = Blank newline
seen (pieces.Skip n) = Skip n
seen (pieces.Whole kind n) = Whole (sort_of kind) n
seen (pieces.Broken rule) = Broken rule

-- what a piece is by the definition
abbrev pub Law : Bool → List ℕ → Piece → Type 0
Law starts bytes (Blank newline) = (b : ℕ) × (rest : List ℕ) × (bytes ≡ b ∷ rest) × (is_blank b ≡ true) × (newline ≡ nat_eq b 10) × Faultless starts (b ∷ rest)
Law starts bytes (Skip n) = (xs : List ℕ) × (rest : List ℕ) × (bytes ≡ xs ++ rest) × (length xs ≡ n) × (0 < n) × Skipped starts xs rest × Faultless starts (xs ++ rest)
Law starts bytes (Whole s n) =
    (xs : List ℕ) × (rest : List ℕ) × (bytes ≡ xs ++ rest) × (length xs ≡ n) × (0 < n) × Longest xs s rest × (IsComment (xs ++ rest) → ⊥) × Faultless starts (xs ++ rest)
Law starts bytes (Broken rule) = Breaks starts rule bytes

-- a piece is no longer than the bytes
abbrev pub Fits : Piece → ℕ → Type 0
Fits (Blank newline) most = 0 < most
Fits (Skip n) most = (0 < n) × (n ≤ most)
Fits (Whole s n) most = (0 < n) × (n ≤ most)
Fits (Broken rule) most = Unit {0}
