-- What each fault is reported by.
use Rattle.std.specs.Prelude.{ℕ, List}

-- the number under which the compiler's users know a fault, its name, and the byte of the source that it names, counted from 0
pub record Report : Type 0 where
  pub number : ℕ
  pub name : List ℕ
  pub at : ℕ
