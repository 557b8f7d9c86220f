-- Sorts of operators between two operands.
use Rattle.arc_ast.specs.declared.tree.BinaryOperator.{BinaryOperator}
use Rattle.arc_ast.specs.declared.tree.BinaryOperator.TheVariants as o
use Rattle.arc_ast.specs.declared.tree.OperatorSort.{OperatorSort}
use Rattle.arc_ast.specs.declared.tree.OperatorSort.TheVariants.{Arithmetic, Shift, Relation, Equality, Logic}

-- what an operator is: `*`, `/` and `%` (C99, section 6.5.5), `+` and `-` (6.5.6), `&` (6.5.10), `^` (6.5.11) and `|` (6.5.12); a shift (6.5.7); a relation
-- (6.5.8); `==` or `!=` (6.5.9); and `&&` (6.5.13) or `||` (6.5.14)
abbrev pub sort_of : BinaryOperator → OperatorSort
sort_of o.ShiftLeft = Shift
sort_of o.ShiftRight = Shift
sort_of o.Less = Relation
sort_of o.LessOrEqual = Relation
sort_of o.Greater = Relation
sort_of o.GreaterOrEqual = Relation
sort_of o.Equal = Equality
sort_of o.NotEqual = Equality
sort_of o.And = Logic
sort_of o.Or = Logic
sort_of _ = Arithmetic
