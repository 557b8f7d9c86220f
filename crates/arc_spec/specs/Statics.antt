-- What a running program keeps from its start to its end, beside its objects and the places that name them: objects with static storage duration (C99, section
-- 6.2.4). The meaning, the code and the machine have it alike.
use Rattle.std.specs.Prelude.{ℤ, List}

-- the numbers that the variables of the whole program hold
pub record Statics : Type 0 where
  pub numbers : List ℤ

-- what a program begins with, whose variables hold these numbers first
abbrev pub first_statics : (numbers : List ℤ) → Statics
first_statics numbers = record { numbers = numbers }

abbrev pub with_numbers : Statics → List ℤ → Statics
with_numbers s numbers = record s { numbers = numbers }
