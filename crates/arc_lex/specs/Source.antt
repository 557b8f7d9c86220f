-- What the tokens of a source are, and where a source has none.
use Rattle.std.specs.Prelude.{◌≡◌, ◌≤◌, ◌⊎◌, ℕ, ◌+◌, List, [], ◌∷◌, ◌++◌, length, slice_range, drop, codes, Bool, true, false, ◌&&◌, ◌||◌, nat_eq, if◌then◌else◌, Option, Some, None, option_map}
use Rattle.std.specs.List.{starts_with, Contains}
use Rattle.arc_lex.specs.declared.word.Word.{Word}
use Rattle.arc_lex.specs.declared.bytes.Class.TheVariants as c
use Rattle.arc_lex.specs.declared.piece.Rule.{Rule}
use Rattle.arc_lex.specs.declared.piece.Rule.TheVariants as rules
use Rattle.arc_lex.specs.declared.lex.TheConstants.{MOST_BYTES}
use Rattle.arc_lex.specs.Bytes.{has, all_in, begins, is_blank, after_run}
use Rattle.arc_lex.specs.Spellings.{mark_bytes, word_bytes, at_bytes, unused}
use Rattle.arc_lex.specs.Texts.{Part, parts_bytes, parts_value, all_go_on, integer}
use Rattle.arc_lex.specs.Tokens.{Sort, Name, Integer, Character, Text, Key, At, Sign, Unused, Tok}

-- ---- tokens

-- a letter or `_`, and letters, `_` and digits after it (C99, section 6.4.2.1)
abbrev pub IsWordLike : List ℕ → Type 0
IsWordLike xs = (b : ℕ) × (bs : List ℕ) × (xs ≡ b ∷ bs) × (has c.Letter b ≡ true) × (all_in c.InName bs ≡ true)

-- a digit, and letters, `_` and digits after it (C99, section 6.4.8, without points and signs)
abbrev pub IsNumberLike : List ℕ → Type 0
IsNumberLike xs = (begins c.Digit xs ≡ true) × (all_in c.InName xs ≡ true)

-- between two such quotes, right parts that stand for these bytes
abbrev pub IsQuoted : ℕ → List ℕ → List ℕ → Type 0
IsQuoted quote xs bytes = (parts : List Part) × (xs ≡ quote ∷ (parts_bytes parts ++ quote ∷ [])) × (parts_value quote parts ≡ Some bytes)

-- bytes that are a token of this sort (C99, section 6.4): a character constant is one byte between two `'` (6.4.4.4)
abbrev pub IsToken : List ℕ → Sort → Type 0
IsToken xs (Name bytes) = (xs ≡ bytes) × IsWordLike xs × ((word : Word) → xs ≡ word_bytes word → ⊥) × (Contains unused xs → ⊥)
IsToken xs (Integer value suffixed) = IsNumberLike xs × (integer xs ≡ Some (value, suffixed))
IsToken xs (Character byte) = IsQuoted 39 xs (byte ∷ [])
IsToken xs (Text bytes) = IsQuoted 34 xs bytes
IsToken xs (Key word) = xs ≡ word_bytes word
IsToken xs (At word) = xs ≡ at_bytes word
IsToken xs (Sign mark) = xs ≡ mark_bytes mark
IsToken xs Unused = Contains unused xs

-- the longest token at the front: no other front of the bytes that is a token is longer (C99, section 6.4, paragraph 4)
pub record Longest (xs : List ℕ) (s : Sort) (rest : List ℕ) : Type 0 where
  pub token : IsToken xs s
  pub longest : (ys r : List ℕ) (o : Sort) → xs ++ rest ≡ ys ++ r → IsToken ys o → length ys ≤ length xs

-- ---- comments and skipped lines

-- `//` or `/*` stands there (C99, section 6.4.9).
abbrev pub IsComment : List ℕ → Type 0
IsComment bytes = (b : ℕ) × (rest : List ℕ) × (bytes ≡ 47 ∷ b ∷ rest) × ((b ≡ 47) ⊎ (b ≡ 42))

-- how many bytes there are up to the first `*/` and with it, if there is one. `star` says whether a `*` stands right in front of the bytes
abbrev pub to_close : Bool → List ℕ → Option ℕ
to_close star [] = None
to_close star (b ∷ bs) = if star && nat_eq b 47 then Some 1 else option_map (λ n. n + 1) (to_close (nat_eq b 42) bs)

-- `//`, and all up to the end of the line; a backslash there doesn't join the next line to it (C99, section 5.1.1.2, does)
abbrev pub IsLineComment : List ℕ → List ℕ → Type 0
IsLineComment xs rest = (body : List ℕ) × (xs ≡ 47 ∷ 47 ∷ body) × (all_in c.InLine body ≡ true) × (begins c.InLine rest ≡ false)

-- `/*`, and all up to the first `*/` and with it
abbrev pub IsBlockComment : List ℕ → List ℕ → Type 0
IsBlockComment xs rest = (body : List ℕ) × (xs ≡ 47 ∷ 42 ∷ body) × (to_close false (body ++ rest) ≡ Some (length body))

-- `mark`, after some spaces
abbrev pub is_mark : List ℕ → Bool
is_mark bytes = begins c.Space bytes && starts_with nat_eq (after_run c.Space bytes) (codes "mark")

-- after a `#` and spaces: `import`, `include` or `pragma mark`
abbrev pub is_skipped : List ℕ → Bool
is_skipped bytes =
    starts_with nat_eq (after_run c.Space bytes) (codes "import") || (starts_with nat_eq (after_run c.Space bytes) (codes "include")
    || (starts_with nat_eq (after_run c.Space bytes) (codes "pragma") && is_mark (drop 6 (after_run c.Space bytes))))

-- the line of such a `#`, with only blanks in front of it on its line, in which no comment begins (this project has no preprocessor)
abbrev pub IsSkippedLine : Bool → List ℕ → List ℕ → Type 0
IsSkippedLine starts xs rest =
    (body : List ℕ) × (xs ≡ 35 ∷ body) × ((starts && is_skipped (body ++ rest)) ≡ true) × (all_in c.InLine body ≡ true) × (begins c.InLine rest ≡ false)

-- no token, and no rule is broken. `starts` says whether only blanks stand in front on the line
abbrev pub Skipped : Bool → List ℕ → List ℕ → Type 0
Skipped starts xs rest = IsLineComment xs rest ⊎ (IsBlockComment xs rest ⊎ IsSkippedLine starts xs rest)

-- ---- broken rules

-- Neither a blank nor a token begins with the byte that stands there, and it is no `#`.
pub record NothingBegins (bytes : List ℕ) : Type 0 where
  pub first : ℕ
  pub others : List ℕ
  pub splits : bytes ≡ first ∷ others
  pub no_blank : is_blank first ≡ false
  pub no_line : first ≡ 35 → ⊥
  pub no_token : (ys : List ℕ) (o : Sort) → IsToken (first ∷ ys) o → ⊥

-- A `/*` without `*/` stands there.
abbrev pub IsOpenComment : List ℕ → Type 0
IsOpenComment bytes = (rest : List ℕ) × (bytes ≡ 47 ∷ 42 ∷ rest) × (to_close false rest ≡ None)

-- A literal with such quotes begins there that is not closed on its line.
abbrev pub IsOpenQuoted : ℕ → List ℕ → Type 0
IsOpenQuoted quote bytes = (rest : List ℕ) × (bytes ≡ quote ∷ rest)
    × ((parts : List Part) (after : List ℕ) → rest ≡ parts_bytes parts ++ quote ∷ after → all_go_on quote parts ≡ true → ⊥)

-- A literal with such quotes stands there that is closed on its line, of these parts.
abbrev pub IsClosed : ℕ → List ℕ → List Part → Type 0
IsClosed quote bytes parts = (after : List ℕ) × (bytes ≡ quote ∷ (parts_bytes parts ++ quote ∷ after)) × (all_go_on quote parts ≡ true)

-- a closed text with an unknown escape or a byte that no text has
abbrev pub IsWrongText : List ℕ → Type 0
IsWrongText bytes = (parts : List Part) × IsClosed 34 bytes parts × (parts_value 34 parts ≡ None)

-- a closed literal between two `'` that does not stand for one byte
abbrev pub IsWrongCharacter : List ℕ → Type 0
IsWrongCharacter bytes = (parts : List Part) × IsClosed 39 bytes parts × ((b : ℕ) → parts_value 39 parts ≡ Some (b ∷ []) → ⊥)

-- A digit stands there, and it with all letters, `_` and digits after it is no integer.
abbrev pub IsWrongInteger : List ℕ → Type 0
IsWrongInteger bytes = (xs : List ℕ) × (rest : List ℕ) × (bytes ≡ xs ++ rest) × IsNumberLike xs × (begins c.InName rest ≡ false) × (integer xs ≡ None)

-- An `@` stands there, and no token.
abbrev pub IsOtherDirective : List ℕ → Type 0
IsOtherDirective bytes = (rest : List ℕ) × (bytes ≡ 64 ∷ rest) × ((xs r : List ℕ) (o : Sort) → bytes ≡ xs ++ r → IsToken xs o → ⊥)

-- A `#` stands there whose line is not skipped.
abbrev pub IsOtherLine : Bool → List ℕ → Type 0
IsOtherLine starts bytes = (rest : List ℕ) × (bytes ≡ 35 ∷ rest) × ((starts && is_skipped rest) ≡ false)

-- the rule is broken where these bytes stand
abbrev pub Breaks : Bool → Rule → List ℕ → Type 0
Breaks starts rules.BadByte bytes = NothingBegins bytes
Breaks starts rules.OpenComment bytes = IsOpenComment bytes
Breaks starts rules.OpenLiteral bytes = IsOpenQuoted 34 bytes ⊎ IsOpenQuoted 39 bytes
Breaks starts rules.Literal bytes = IsWrongText bytes ⊎ (IsWrongCharacter bytes ⊎ IsWrongInteger bytes)
Breaks starts rules.Directive bytes = IsOtherDirective bytes ⊎ IsOtherLine starts bytes

-- no rule is broken where these bytes stand
abbrev pub Faultless : Bool → List ℕ → Type 0
Faultless starts bytes = (rule : Rule) → Breaks starts rule bytes → ⊥

-- ---- sources

-- From this place on the bytes are cut into these tokens, up to their end or up to the first place where a rule is broken, which is given with
-- the rule: at each place before stands a blank, a comment, a skipped line or, where no comment stands, the longest token, no rule is broken there,
-- and the next place is right after it. `starts` says whether only blanks stand in front on the line.
pub data Cuts : ℕ → Bool → List ℕ → List Tok → Option (ℕ × Rule) → Type 0 where
  done : (at : ℕ) (starts : Bool) → Cuts at starts [] [] None
  breaks : (at : ℕ) (starts : Bool) (bytes : List ℕ) (rule : Rule) → Breaks starts rule bytes → Cuts at starts bytes [] (Some (at, rule))
  blank : (at : ℕ) (starts : Bool) (b : ℕ) (rest : List ℕ) (ts : List Tok) (broken : Option (ℕ × Rule)) → is_blank b ≡ true → Faultless starts (b ∷ rest)
      → Cuts (at + 1) (nat_eq b 10 || starts) rest ts broken → Cuts at starts (b ∷ rest) ts broken
  skipped : (at : ℕ) (starts : Bool) (xs rest : List ℕ) (ts : List Tok) (broken : Option (ℕ × Rule)) → Skipped starts xs rest → Faultless starts (xs ++ rest)
      → Cuts (at + length xs) false rest ts broken → Cuts at starts (xs ++ rest) ts broken
  token : (at : ℕ) (starts : Bool) (xs : List ℕ) (s : Sort) (rest : List ℕ) (ts : List Tok) (broken : Option (ℕ × Rule)) → Longest xs s rest → (IsComment (xs ++ rest) → ⊥)
      → Faultless starts (xs ++ rest) → Cuts (at + length xs) false rest ts broken → Cuts at starts (xs ++ rest) (record { sort = s; from = at; to = at + length xs } ∷ ts) broken

-- the tokens of a source
abbrev pub Tokens : List ℕ → List Tok → Type 0
Tokens source ts = (length source ≤ MOST_BYTES) × Cuts 0 true source ts None

-- the bytes of each token's span are that token
abbrev pub SpansSpell : List ℕ → List Tok → Type 0
SpansSpell source [] = Unit {0}
SpansSpell source (t ∷ ts) = IsToken (slice_range source t.from t.to) t.sort × SpansSpell source ts
