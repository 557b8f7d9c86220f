-- Of which kind a number is by the form of the expression that gives it. A conversion to that kind, or to one of a
-- greater rank, leaves it as it is, so no action is needed.
use Rattle.std.specs.Prelude.{ℕ, Bool, nat_le, if◌then◌else◌, ℤ}
use Rattle.arc_ast.specs.declared.tree.Kind.{Kind}
use Rattle.arc_ast.specs.declared.tree.Kind.TheVariants as k
use Rattle.arc_ast.specs.declared.tree.UnaryOperator.{UnaryOperator}
use Rattle.arc_ast.specs.declared.tree.UnaryOperator.TheVariants as u
use Rattle.arc_ast.specs.declared.tree.BinaryOperator.{BinaryOperator}
use Rattle.arc_ast.specs.declared.tree.BinaryOperator.TheVariants as o
use Rattle.arc_ast.specs.declared.tree.OperatorSort.{OperatorSort}
use Rattle.arc_ast.specs.declared.tree.OperatorSort.TheVariants.{Arithmetic, Shift}
use Rattle.arc_ast.specs.Operators.{sort_of}
use Rattle.arc_spec.specs.Number.{converted, is_same}
use Rattle.arc_spec.specs.Resolved.{Value, Number, Print, Unary, Binary, Conditional, Convert, AssignNumber, SetField, NotSame, IsObject}

-- A BOOL is 0 or 1, and so an int, and each number is a long (C99, section 6.3.1.1, has such ranks). What is no number has the rank of a long.
abbrev pub rank : Kind → ℕ
rank k.Bool = 0
rank k.Int = 1
rank _ = 2

-- whether each number of the one kind is one of the other
abbrev pub is_within : (narrow wide : Kind) → Bool
is_within narrow wide = nat_le (rank narrow) (rank wide)

-- the one of two kinds that has the greater rank, and so all numbers of both
abbrev pub greater_kind : Kind → Kind → Kind
greater_kind a b = if is_within a b then b else a

-- the other one
abbrev pub lesser_kind : Kind → Kind → Kind
lesser_kind a b = if is_within a b then a else b

-- the kind of the least rank that has a number
abbrev pub least_kind : ℤ → Kind
least_kind n = if is_same (converted k.Bool n) n then k.Bool else if is_same (converted k.Int n) n then k.Int else k.Long

-- what an operator gives that computes in a kind
abbrev pub unary_kind : UnaryOperator → Kind → Kind
unary_kind u.Not kind = k.Bool
unary_kind _ kind = kind

-- what an operator of this sort gives, by the kind of its operands: a comparison, `&&` and `||` give 0 or 1
abbrev pub kind_by : OperatorSort → Kind → Kind
kind_by Arithmetic kind = kind
kind_by Shift kind = kind
kind_by _ kind = k.Bool

-- what an operator between its operands gives; a quotient, a remainder and what is shifted to the right aren't converted to that kind
abbrev pub binary_kind : BinaryOperator → Kind → Kind
binary_kind o.Divide kind = k.Long
binary_kind o.Remainder kind = k.Long
binary_kind o.ShiftRight kind = k.Long
binary_kind operator kind = kind_by (sort_of operator) kind

-- The kind of the least rank that the form shows. Of a variable, a field, a call and a message it shows none, nor of a byte that is read.
abbrev pub known_kind : Value → Kind
known_kind (Number n) = least_kind n
known_kind (Print pieces given) = k.Int
known_kind (Unary operator kind a) = unary_kind operator kind
known_kind (Binary operator kind a b) = binary_kind operator kind
known_kind (Conditional c a b) = greater_kind (known_kind a) (known_kind b)
known_kind (Convert kind a) = lesser_kind (known_kind a) kind
known_kind (AssignNumber i a) = known_kind a
known_kind (SetField a class index b) = known_kind b
known_kind (NotSame a b) = k.Bool
known_kind (IsObject a) = k.Bool
known_kind _ = k.Long
