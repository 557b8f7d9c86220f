-- Kinds of numbers.
use Rattle.std.specs.Prelude.{ℤ, Bool, true, false, not, ◌&&◌, int_le, Option, if◌then◌else◌}
use Rattle.std.specs.Option.{option_map_or}
use Rattle.arc_ast.specs.declared.tree.Kind.{Kind}
use Rattle.arc_ast.specs.declared.tree.Kind.TheVariants as k
use Rattle.arc_ast.specs.declared.tree.OperatorSort.{OperatorSort}
use Rattle.arc_ast.specs.declared.tree.OperatorSort.TheVariants.{Arithmetic, Shift}
use Rattle.arc_spec.specs.Families as families
use Rattle.arc_scope.specs.declared.kind.TheConstants.{LARGEST_INT}

-- an integer without a suffix is an int, where an int can hold it, and any other a long (C99, section 6.4.4.1, which has unsigned ints for hexadecimal
-- ones from 0x80000000 to 0xFFFFFFFF; that there are no unsigned kinds is this project's own choice)
abbrev pub literal_kind : ℤ → Bool → Kind
literal_kind n suffixed = if int_le n LARGEST_INT && not suffixed then k.Int else k.Long

-- whether a value of a kind is a number: not nothing, and no object
abbrev pub is_number : Kind → Bool
is_number k.Void = false
is_number k.Object = false
is_number _ = true

-- the wider one of two kinds of operands: long, where one is long, and else int, as which a BOOL computes (C99, sections 6.3.1.1 and 6.3.1.8)
abbrev pub wider : Kind → Kind → Kind
wider k.Long _ = k.Long
wider _ k.Long = k.Long
wider _ _ = k.Int

-- the kind in which an operator computes, from those of its operands: a shift in that of the first, or int where that is narrower (C99, section 6.5.7)
abbrev pub computing_kind : OperatorSort → Kind → Kind → Kind
computing_kind Shift a b = wider a k.Int
computing_kind _ a b = wider a b

-- the kind of what an operator gives that computes in a kind: a comparison gives an int, and so do `&&` and `||` (C99, sections 6.5.8, 6.5.9, 6.5.13 and 6.5.14)
abbrev pub given_kind : OperatorSort → Kind → Kind
given_kind Arithmetic kind = kind
given_kind Shift kind = kind
given_kind _ kind = k.Int

-- whether there is a kind, and it is that of objects
abbrev pub is_object : Option Kind → Bool
is_object kind = option_map_or families.is_object kind false
