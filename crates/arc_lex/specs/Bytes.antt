-- Sets of bytes, by their ASCII codes, and runs of them.
use Rattle.std.specs.Prelude.{ℕ, ◌+◌, List, [], ◌∷◌, drop, Bool, false, not, ◌&&◌, ◌||◌, nat_le, nat_eq, if◌then◌else◌}
use Rattle.std.specs.List.{list_all}
use Rattle.arc_lex.specs.declared.bytes.Class.{Class}
use Rattle.arc_lex.specs.declared.bytes.Class.TheVariants as c

-- a letter or `_` (C99, section 6.4.2.1)
abbrev pub is_letter : ℕ → Bool
is_letter b = ((nat_le 97 b && nat_le b 122) || (nat_le 65 b && nat_le b 90)) || nat_eq b 95

-- a digit (C99, section 6.4.2.1)
abbrev pub is_digit : ℕ → Bool
is_digit b = nat_le 48 b && nat_le b 57

-- a hexadecimal digit (C99, section 6.4.4.1)
abbrev pub is_hexadecimal : ℕ → Bool
is_hexadecimal b = is_digit b || ((nat_le 97 b && nat_le b 102) || (nat_le 65 b && nat_le b 70))

-- space, tab, newline, form feed and carriage return (C99, section 6.4, with carriage return in place of vertical tab)
abbrev pub is_blank : ℕ → Bool
is_blank b = (nat_eq b 32 || nat_eq b 9) || ((nat_eq b 10 || nat_eq b 12) || nat_eq b 13)

-- whether a byte is in a class
abbrev pub has : Class → ℕ → Bool
has c.Letter b = is_letter b
has c.Digit b = is_digit b
has c.Hexadecimal b = is_hexadecimal b
has c.InName b = is_letter b || is_digit b
has c.Space b = is_blank b && not (nat_eq b 10)
has c.InLine b = not (nat_eq b 10)

-- whether each byte is in the class
abbrev pub all_in : Class → List ℕ → Bool
all_in class = list_all (has class)

-- whether the first byte is in the class
abbrev pub begins : Class → List ℕ → Bool
begins class [] = false
begins class (b ∷ bs) = has class b

-- how many bytes at the front are in the class
abbrev pub run : Class → List ℕ → ℕ
run class [] = 0
run class (b ∷ bs) = if has class b then run class bs + 1 else 0

-- what is after the bytes at the front that are in the class
abbrev pub after_run : Class → List ℕ → List ℕ
after_run class bytes = drop (run class bytes) bytes
