-- What is printed by the first parts of a format, before the others are read.
use Rattle.std.specs.Prelude.{◌≡◌, ℕ, List, [], ◌∷◌, ◌++◌}
use Rattle.arc_spec.specs.Resolved as resolved
use Rattle.arc_scope.specs.declared.format.Part.{Part}
use Rattle.arc_resolve.specs.declared.piece.Printed.{Printed}
use Rattle.arc_checked.specs.Checked as checked
use Rattle.arc_scope.specs.Formats.{put_byte, printed}

abbrev pub put_bytes : List ℕ → List resolved.Piece → List resolved.Piece
put_bytes [] others = others
put_bytes (byte ∷ bytes) others = put_byte byte (put_bytes bytes others)

-- all that is printed, with what the other parts print
abbrev pub whole : Printed → List resolved.Piece → List resolved.Piece
whole all others = checked.pieces all.pieces.items ++ put_bytes all.run.items others

-- one piece for a run of plain bytes, if there are any
abbrev pub run_piece : List ℕ → List resolved.Piece
run_piece [] = []
run_piece (byte ∷ bytes) = resolved.Bytes (byte ∷ bytes) ∷ []

-- the run is a piece now
pub record Ends (old new : Printed) : Type 0 where
  pub run : new.run.items ≡ []
  pub pieces : checked.pieces new.pieces.items ≡ checked.pieces old.pieces.items ++ run_piece old.run.items

-- one part more is printed
abbrev pub Adds : Printed → Part → Printed → Type 0
Adds old part new = (others : List Part) → whole new (printed others) ≡ whole old (printed (part ∷ others))
