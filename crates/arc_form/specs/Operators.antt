-- Tables of operators between two operands.
use Rattle.std.specs.Prelude.{ℕ, List, [], ◌∷◌, Option, Some, None, nat_eq, if◌then◌else◌}
use Rattle.arc_lex.specs.declared.mark.Mark.{Mark}
use Rattle.arc_lex.specs.Tokens.{Tok, Sort, Sign}
use Rattle.arc_form.specs.Kinds.{Kinds, none, ◌∪◌, mark, kind, has, is}
-- what is joined from the left
pub use Rattle.std.specs.Prelude.{fold}

-- A mark, its level, which is the higher the looser it binds, and the operator that it is.
pub record Row (O : Type 0) : Type 0 where
  pub mark : Mark
  pub level : ℕ
  pub operator : O

-- the level and the operator of a mark
abbrev pub entry : {O : Type 0} → List (Row O) → Mark → Option (ℕ × O)
entry [] m = None
entry (r ∷ rows) m = if has (mark r.mark) (kind (Sign m)) then Some (r.level, r.operator) else entry rows m

-- and of a token
abbrev pub entry_of : {O : Type 0} → List (Row O) → Sort → Option (ℕ × O)
entry_of rows (Sign m) = entry rows m
entry_of rows _ = None

-- the marks of a level
abbrev pub marks_at : {O : Type 0} → ℕ → List (Row O) → Kinds
marks_at l [] = none
marks_at l (r ∷ rows) = if nat_eq r.level l then mark r.mark ∪ marks_at l rows else marks_at l rows

-- the operator that a token is, or else this one
abbrev pub operator_of : {O : Type 0} → O → List (Row O) → Tok → O
operator_of other [] t = other
operator_of other (r ∷ rows) t = if is (mark r.mark) t then r.operator else operator_of other rows t

-- and its place
abbrev pub placed_operator : {O : Type 0} → O → List (Row O) → Tok → ℕ × O
placed_operator other rows t = (t.from, operator_of other rows t)
