-- The numbers of a program, and arithmetic on them.
use Rattle.std.specs.Prelude.{ℕ, suc, ◌+◌, ◌%◌, ◌^◌, ℤ, pos, negsuc, Bool, false, true, not, nat_eq, int_lt, int_le, int_rem, List, length, Option, Some, None, if◌then◌else◌, ◌&&◌, ◌||◌}
use Rattle.std.specs.Int.{w32, w64, cast_signed, cast_unsigned, int_wrapping_add, int_wrapping_sub, int_wrapping_mul, int_wrapping_neg, int_wrapping_div, int_shl, int_shr, int_bit_and, int_bit_or, int_bit_xor, int_bit_not}
use Rattle.arc_ast.specs.declared.tree.Kind.{Kind}
use Rattle.arc_ast.specs.declared.tree.Kind.TheVariants as k
use Rattle.arc_ast.specs.declared.tree.UnaryOperator.{UnaryOperator}
use Rattle.arc_ast.specs.declared.tree.UnaryOperator.TheVariants as u
use Rattle.arc_ast.specs.declared.tree.BinaryOperator.{BinaryOperator}
use Rattle.arc_ast.specs.declared.tree.BinaryOperator.TheVariants as o

-- the low 32 bits, read as a signed number (C99, section 6.3.1.3, leaves to an implementation what a number becomes that is too large; this is the project's choice)
abbrev pub low_32 : ℤ → ℤ
low_32 z = cast_signed w32 (cast_unsigned w64 z % 2 ^ 32)

-- whether two numbers are the same
abbrev pub is_same : ℤ → ℤ → Bool
is_same (pos n) (pos m) = nat_eq n m
is_same (negsuc n) (negsuc m) = nat_eq n m
is_same _ _ = false

abbrev pub is_zero : ℤ → Bool
is_zero z = is_same z (pos 0)

abbrev pub is_minus_one : ℤ → Bool
is_minus_one z = is_same z (negsuc 0)

-- a number as one of a kind (C99, sections 6.3.1.2 and 6.3.1.3): an `int` keeps the low 32 bits, a long has all 64, and a BOOL is 1 for all but 0, as C99's _Bool
-- (that BOOL is this and no char is the project's choice)
abbrev pub converted : Kind → ℤ → ℤ
converted k.Bool z = if is_zero z then pos 0 else pos 1
converted k.Int z = low_32 z
converted _ z = z

-- whether a number is the least of its kind, so that its negation is no number of the kind
abbrev pub is_least : Kind → ℤ → Bool
is_least k.Int (negsuc n) = nat_eq (suc n) (2 ^ 31)
is_least _ (negsuc n) = nat_eq (suc n) (2 ^ 63)
is_least _ (pos n) = false

-- What divides x by y (C99, section 6.5.5) has no answer by 0, and none for the least number by -1, whose quotient is too large; C99 leaves these two undefined, so
-- that is this project's own choice.
abbrev pub if_divides : Kind → ℤ → ℤ → ℤ → Option ℤ
if_divides kind x y answer = if is_zero y then None else if is_least kind x && is_minus_one y then None else Some answer

-- x / y, without its fraction
abbrev pub quotient : Kind → ℤ → ℤ → Option ℤ
quotient kind x y = if_divides kind x y (int_wrapping_div w64 x y)

-- what is left of x, with its sign
abbrev pub remainder : Kind → ℤ → ℤ → Option ℤ
remainder kind x y = if_divides kind x y (int_rem x y)

-- how many bits a kind has
abbrev pub width : Kind → ℕ
width k.Int = 32
width _ = 64

-- by how many bits a shift shifts (C99, section 6.5.7, leaves a count outside of the width undefined; that it is taken modulo the width is this project's own choice)
abbrev pub count_of_shift : Kind → ℤ → ℕ
count_of_shift kind y = cast_unsigned w64 y % width kind

-- the answer of a comparison (C99, sections 6.5.8 and 6.5.9)
abbrev pub answer : Bool → ℤ
answer holds = if holds then pos 1 else pos 0

-- What an operator before its operand gives (C99, section 6.5.3.3), computed as the next ones: `-` wraps, and `!` asks whether the operand is 0.
abbrev pub applied : UnaryOperator → Kind → ℤ → ℤ
applied u.Plus kind z = converted kind z
applied u.Negate kind z = converted kind (int_wrapping_neg w64 z)
applied u.Complement kind z = converted kind (int_bit_not w64 z)
applied u.Not kind z = answer (is_zero z)

-- What an operator gives (C99, sections 6.5.5 to 6.5.14), computed in 64 bits, of which the kind keeps its own: so sums, products and shifts to the left wrap, where
-- C99, section 6.5, leaves a result that is too large undefined (this project's own choice). A shift to the right keeps the sign, which C99, section 6.5.7, leaves to
-- an implementation. (`&&` and `||` of a source are choices, and don't come here.)
abbrev pub combined : BinaryOperator → Kind → ℤ → ℤ → Option ℤ
combined o.Add kind x y = Some (converted kind (int_wrapping_add w64 x y))
combined o.Subtract kind x y = Some (converted kind (int_wrapping_sub w64 x y))
combined o.Multiply kind x y = Some (converted kind (int_wrapping_mul w64 x y))
combined o.Divide kind x y = quotient kind (converted kind x) (converted kind y)
combined o.Remainder kind x y = remainder kind (converted kind x) (converted kind y)
combined o.ShiftLeft kind x y = Some (converted kind (int_shl w64 x (count_of_shift kind y)))
combined o.ShiftRight kind x y = Some (int_shr (converted kind x) (count_of_shift kind y))
combined o.Less kind x y = Some (answer (int_lt x y))
combined o.LessOrEqual kind x y = Some (answer (int_le x y))
combined o.Greater kind x y = Some (answer (int_lt y x))
combined o.GreaterOrEqual kind x y = Some (answer (int_le y x))
combined o.Equal kind x y = Some (answer (is_same x y))
combined o.NotEqual kind x y = Some (answer (not (is_same x y)))
combined o.BitAnd kind x y = Some (converted kind (int_bit_and w64 x y))
combined o.BitXor kind x y = Some (converted kind (int_bit_xor w64 x y))
combined o.BitOr kind x y = Some (converted kind (int_bit_or w64 x y))
combined o.And kind x y = Some (answer (not (is_zero x) && not (is_zero y)))
combined o.Or kind x y = Some (answer (not (is_zero x) || not (is_zero y)))

-- whether an operator has no answer for some numbers
abbrev pub may_fault : BinaryOperator → Bool
may_fault o.Divide = true
may_fault o.Remainder = true
may_fault _ = false

-- the low 8 bits of a number, as one byte: what `%c` prints (C99, section 7.19.6.1)
abbrev pub low_byte : ℤ → ℕ
low_byte z = cast_unsigned w64 z % 256

-- a count of printed bytes, which is kept below 2 ^ 32, once these are printed too
abbrev pub counted : ℤ → List ℕ → ℤ
counted count bytes = pos ((cast_unsigned w64 count % 2 ^ 32 + length bytes) % 2 ^ 32)

-- the number of a byte that was read, or -1 at the end of the input (C99, section 7.19.7.6)
abbrev pub byte_or_end : Option ℕ → ℤ
byte_or_end None = negsuc 0
byte_or_end (Some b) = pos b
