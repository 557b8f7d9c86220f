-- What a store of a fixed size has left for further blocks. A block is cut from the words that no
-- block has had; once it was given back it is free, and serves later requests of its class.
use Rattle.std.specs.Prelude.{◌≡◌, ℕ, suc, ◌-◌, ◌<◌, ◌==◌, if◌then◌else◌}
use Rattle.arc_heap.specs.Sizes.{size_of}

pub record Stock : Type 0 where
  -- for each class, how many of its blocks were ever cut
  pub cut : ℕ → ℕ
  -- for each class, how many of its blocks are free
  pub free : ℕ → ℕ
  -- the words that no block has had
  pub left : ℕ

-- the same numbers, but for this class the one that is given
abbrev pub with_count : (ℕ → ℕ) → ℕ → ℕ → ℕ → ℕ
with_count counts class count = λ other. if other == class then count else counts other

-- no block of the class is free, and too few words are left to cut one
abbrev pub IsFull : Stock → ℕ → Type 0
IsFull stock class = (stock.free class ≡ 0) × (stock.left < size_of class)

-- a block of the class is taken: a free one, or one that is cut where none is free
abbrev pub after_take : ℕ → Stock → Stock
after_take class stock = if stock.free class == 0 then record { cut = with_count stock.cut class (suc (stock.cut class)); free = stock.free; left = stock.left - size_of class } else record { cut = stock.cut; free = with_count stock.free class (stock.free class - 1); left = stock.left }

-- a block of the class is given back
abbrev pub after_give : ℕ → Stock → Stock
after_give class stock = record { cut = stock.cut; free = with_count stock.free class (suc (stock.free class)); left = stock.left }
