-- Literals: which bytes they are written with, and what they stand for.
use Rattle.std.specs.Prelude.{ℕ, ◌+◌, ◌-◌, ◌*◌, ℤ, pos, List, [], ◌∷◌, flat_map, fold, take, drop, Bool, true, false, not, ◌&&◌, ◌||◌, nat_le, nat_eq, if◌then◌else◌, Option, Some, None, option_map, option_and_then}
use Rattle.std.specs.List.{list_all}
use Rattle.arc_lex.specs.declared.bytes.Class.{Class}
use Rattle.arc_lex.specs.declared.bytes.Class.TheVariants as c
use Rattle.arc_lex.specs.declared.number.TheConstants.{LARGEST}
use Rattle.arc_lex.specs.Bytes.{begins, run, after_run, is_digit}

-- ---- texts and characters

-- What stands between quotes is a row of parts: a byte for itself, or a backslash and the byte after it.
pub data Part : Type 0 where
  Plain : ℕ → Part
  Escape : ℕ → Part

-- the bytes with which a part is written, and those of a row of parts
abbrev pub part_bytes : Part → List ℕ
part_bytes (Plain b) = b ∷ []
part_bytes (Escape b) = 92 ∷ b ∷ []

abbrev pub parts_bytes : List Part → List ℕ
parts_bytes = flat_map part_bytes

-- the part ends neither the literal nor its line: it is no such quote, no lone backslash and no newline
abbrev pub goes_on : ℕ → Part → Bool
goes_on quote (Plain b) = not (nat_eq b quote) && (not (nat_eq b 92) && not (nat_eq b 10))
goes_on quote (Escape b) = not (nat_eq b 10)

-- no part ends the literal or its line
abbrev pub all_go_on : ℕ → List Part → Bool
all_go_on quote = list_all (goes_on quote)

-- a byte that stands for itself between such quotes: a printed ASCII byte but the quote and the backslash, and in a text also a tab or a
-- byte above ASCII (the choice of this project)
abbrev pub is_plain : ℕ → ℕ → Bool
is_plain quote b = ((nat_le 32 b && nat_le b 126) && (not (nat_eq b quote) && not (nat_eq b 92))) || (nat_eq quote 34 && (nat_eq b 9 || nat_le 128 b))

-- the byte that a backslash and this byte stand for: newline, tab, carriage return, 0, backslash, `'` and `"` (C99, section 6.4.4.4, of
-- whose escapes this project has these; `\0` is a whole one, and digits after it stand for themselves)
abbrev pub escape_value : ℕ → Option ℕ
escape_value b =
    if nat_eq b 110 then Some 10
    else if nat_eq b 116 then Some 9
    else if nat_eq b 114 then Some 13
    else if nat_eq b 48 then Some 0
    else if nat_eq b 92 then Some 92
    else if nat_eq b 39 then Some 39
    else if nat_eq b 34 then Some 34
    else None

-- the byte that a part stands for, if it is a right one
abbrev pub part_value : ℕ → Part → Option ℕ
part_value quote (Plain b) = if is_plain quote b then Some b else None
part_value quote (Escape b) = escape_value b

-- a byte in front of bytes, if both are there
abbrev pub put_front : Option ℕ → Option (List ℕ) → Option (List ℕ)
put_front byte bytes = option_and_then (λ b. option_map (λ bs. b ∷ bs) bytes) byte

-- the bytes that the parts stand for, if each is a right one (C99, section 6.4.5)
abbrev pub parts_value : ℕ → List Part → Option (List ℕ)
parts_value quote [] = Some []
parts_value quote (p ∷ ps) = put_front (part_value quote p) (parts_value quote ps)

-- ---- integers

-- the value of a digit: 0 to 9, A to F and a to f
abbrev pub digit_value : ℕ → ℕ
digit_value d = if nat_le d 57 then d - 48 else if nat_le d 70 then d - 55 else d - 87

-- the number of a base that is n, followed by these digits (C99, section 6.4.4.1)
abbrev pub number_after : (base n : ℕ) → List ℕ → ℕ
number_after base = fold (λ n d. n * base + digit_value d)

-- a 0 in front of a digit
abbrev pub leads_with_zero : List ℕ → Bool
leads_with_zero (b ∷ d ∷ bs) = nat_eq b 48 && is_digit d
leads_with_zero _ = false

-- `0x` or `0X`
abbrev pub leads_with_x : List ℕ → Bool
leads_with_x (b ∷ d ∷ bs) = nat_eq b 48 && (nat_eq d 120 || nat_eq d 88)
leads_with_x _ = false

-- nothing, or a suffix of C's long and long long integers: l, L, ll or LL (C99, section 6.4.4.1)
abbrev pub may_follow : List ℕ → Bool
may_follow [] = true
may_follow (b ∷ []) = nat_eq b 108 || nat_eq b 76
may_follow (b ∷ d ∷ []) = (nat_eq b 108 && nat_eq d 108) || (nat_eq b 76 && nat_eq d 76)
may_follow (b ∷ d ∷ e ∷ bs) = false

abbrev pub is_empty : List ℕ → Bool
is_empty [] = true
is_empty (b ∷ bs) = false

-- the integer of a base that is written so with its digits, and whether it has a suffix: some digits, which are no more than the largest integer, and nothing or a
-- suffix after them
abbrev pub integer_of : (digits : Class) → (base : ℕ) → List ℕ → Option (ℤ × Bool)
integer_of digits base bytes =
    let value = number_after base 0 (take (run digits bytes) bytes) in
    let suffix = after_run digits bytes in
    if (begins digits bytes && nat_le value LARGEST) && may_follow suffix then Some (pos value, not (is_empty suffix)) else None

-- the integer that is written so, and whether it has a suffix: 0x or 0X and hexadecimal digits, or decimal digits without a 0 in front (C99, section 6.4.4.1; the
-- range, and that there are no octal integers, is this project's choice)
abbrev pub integer : List ℕ → Option (ℤ × Bool)
integer bytes = if leads_with_x bytes then integer_of c.Hexadecimal 16 (drop 2 bytes) else if leads_with_zero bytes then None else integer_of c.Digit 10 bytes
