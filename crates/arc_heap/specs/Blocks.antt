-- The blocks of a store that are out: taken, and not yet given back.
use Rattle.std.specs.Prelude.{ℕ, ◌<◌, List, [], length, Option, Some, None, ◌==◌, if◌then◌else◌, IsSome}

-- at each place the words of the block that is out there, and None where none is
abbrev pub Blocks : Type 0
Blocks = ℕ → Option (List ℕ)

-- no block is out
abbrev pub no_blocks : Blocks
no_blocks = λ place. None

-- the same blocks, but at this place what is given
abbrev pub with_block : Blocks → ℕ → Option (List ℕ) → Blocks
with_block blocks place block = λ other. if other == place then block else blocks other

-- the words of a block; where no block is out there are none
abbrev pub words_of : Option (List ℕ) → List ℕ
words_of None = []
words_of (Some words) = words

-- a block is out at this place
abbrev pub IsOut : Blocks → ℕ → Type 0
IsOut blocks place = IsSome (blocks place)

-- a block is out at this place, and has a word with this index
abbrev pub HasWord : Blocks → ℕ → ℕ → Type 0
HasWord blocks place i = i < length (words_of (blocks place))
