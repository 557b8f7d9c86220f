-- What a format of printf says (C99, section 7.19.6.1), without flags, widths and precisions. All bytes of the text count, also those after a byte 0, where C99 ends
-- the format (this project's own choice).
use Rattle.std.specs.Prelude.{ℕ, Bool, true, false, ◌||◌, ◌&&◌, ◌==◌, List, [], ◌∷◌, Option, if◌then◌else◌}
use Rattle.std.specs.Option.{option_map_or}
use Rattle.arc_ast.specs.declared.tree.Kind.{Kind}
use Rattle.arc_ast.specs.declared.tree.Kind.TheVariants as k
use Rattle.arc_scope.specs.declared.format.Begun.{Begun}
use Rattle.arc_scope.specs.declared.format.Begun.TheVariants.{Nothing, Percent, PercentL, PercentLL}
use Rattle.arc_scope.specs.declared.format.Part.{Part}
use Rattle.arc_scope.specs.declared.format.Part.TheVariants.{Plain, Decimal, Character, Unknown}
use Rattle.arc_scope.specs.declared.format.Reading.{Reading}
use Rattle.arc_scope.specs.declared.format.Reading.TheVariants.{Goes, Gives}
use Rattle.arc_class.specs.FunctionRules.{same_kind}
use Rattle.arc_scope.specs.Kinds.{is_number, wider}
use Rattle.arc_spec.specs.Resolved as resolved

-- what the next byte makes of a conversion that has begun: `%%`, `%d`, `%i`, `%c`, `%ld` or `%lld`, or one that is unknown
abbrev pub reading : Begun → ℕ → Reading
reading Nothing byte = if byte == 37 then Goes Percent else Gives (Plain byte)
reading Percent byte =
    if byte == 37 then Gives (Plain 37) else if byte == 100 || byte == 105 then Gives (Decimal k.Int) else if byte == 99 then Gives Character else if byte == 108 then Goes PercentL else Gives Unknown
reading PercentL byte = if byte == 100 then Gives (Decimal k.Long) else if byte == 108 then Goes PercentLL else Gives Unknown
reading PercentLL byte = if byte == 100 then Gives (Decimal k.Long) else Gives Unknown

-- a conversion that has begun where the format ends is unknown
abbrev pub unfinished : Begun → List Part
unfinished Nothing = []
unfinished _ = Unknown ∷ []

-- the part that was read, if one was, before those that follow
abbrev pub before : Reading → (Begun → List Part) → List Part
before (Goes begun) others = others begun
before (Gives part) others = part ∷ others Nothing

-- the parts of a format, after what has begun
abbrev pub parts : Begun → List ℕ → List Part
parts begun [] = unfinished begun
parts begun (byte ∷ bytes) = before (reading begun byte) (λ next. parts next bytes)

-- those parts that are no plain bytes
abbrev pub conversions : List Part → List Part
conversions [] = []
conversions (Plain byte ∷ others) = conversions others
conversions (part ∷ others) = part ∷ conversions others

-- the conversions of a format
abbrev pub wanted : List ℕ → List Part
wanted format = conversions (parts Nothing format)

-- `%d` and `%i` print an int, as which a BOOL is passed (C99, section 6.5.2.2, paragraph 6), and `%ld` and `%lld` a long
abbrev pub suits_kind : Kind → Kind → Bool
suits_kind wanted kind = is_number kind && same_kind wanted (wider kind k.Int)

-- whether a conversion may print a value; one that has no kind breaks no rule about kinds
abbrev pub suits : Part → Option Kind → Bool
suits (Plain byte) kind = true
suits (Decimal wanted) kind = option_map_or (suits_kind wanted) kind true
suits Character kind = option_map_or (suits_kind k.Int) kind true
suits Unknown kind = false

-- whether there is a value for each conversion, which suits it, and no other value
abbrev pub fits : List Part → List (Option Kind) → Bool
fits [] [] = true
fits (part ∷ others) (kind ∷ kinds) = suits part kind && fits others kinds
fits _ _ = false

-- a byte in front of what a format prints
abbrev pub put_byte : ℕ → List resolved.Piece → List resolved.Piece
put_byte byte (resolved.Bytes bytes ∷ others) = resolved.Bytes (byte ∷ bytes) ∷ others
put_byte byte others = resolved.Bytes (byte ∷ []) ∷ others

-- what the parts of a format print: plain bytes that follow one another are one piece. An unknown conversion, which breaks a rule, prints nothing
abbrev pub printed : List Part → List resolved.Piece
printed [] = []
printed (Plain byte ∷ others) = put_byte byte (printed others)
printed (Decimal kind ∷ others) = resolved.Decimal ∷ printed others
printed (Character ∷ others) = resolved.Character ∷ printed others
printed (Unknown ∷ others) = printed others
