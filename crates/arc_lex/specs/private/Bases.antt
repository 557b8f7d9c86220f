-- The bases in which integers are written, as the code has them.
use Rattle.std.specs.Prelude.{ℕ}
use Rattle.arc_lex.specs.declared.bytes.Class.{Class}
use Rattle.arc_lex.specs.declared.bytes.Class.TheVariants as c
use Rattle.arc_lex.specs.declared.number.Base.{Base}
use Rattle.arc_lex.specs.declared.number.Base.TheVariants as bases

abbrev pub digits_of : Base → Class
digits_of bases.Ten = c.Digit
digits_of bases.Sixteen = c.Hexadecimal

abbrev pub factor : Base → ℕ
factor bases.Ten = 10
factor bases.Sixteen = 16
