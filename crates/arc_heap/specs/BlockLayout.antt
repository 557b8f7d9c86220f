-- How the blocks of a growing store lie in its words.
use Rattle.std.specs.Prelude.{◌≡◌, ℕ, zero, suc, ◌+◌, ◌*◌, ◌<◌, ◌≤◌, List, take, drop, length, get_or, Option, Some, None}
use Rattle.arc_heap.specs.declared.mark.Mark.{Mark}
use Rattle.arc_heap.specs.declared.mark.Mark.TheVariants.{Inside, Out, Free}
use Rattle.arc_heap.specs.Blocks.{Blocks}
use Rattle.arc_heap.specs.Sizes.{size_of}

-- the mark of a row, which is a run of four words. Past the last row nothing starts
abbrev pub mark_at : List Mark → ℕ → Mark
mark_at marks row = get_or marks row Inside

-- the words of the block that starts at a row with this mark; 0 where none starts
abbrev pub extent : Mark → ℕ
extent Inside = 0
extent (Out class) = size_of class
extent (Free class) = size_of class

-- the class of the block that starts at a row with this mark; 0 where none starts
abbrev pub class_at : Mark → ℕ
class_at Inside = 0
class_at (Out class) = class
class_at (Free class) = class

-- the block that is out where its first row has this mark, and its first word this index
abbrev pub block_from : Mark → List ℕ → ℕ → Option (List ℕ)
block_from Inside words first = None
block_from (Out class) words first = Some (take (size_of class) (drop first words))
block_from (Free class) words first = None

-- the place of a block is the number of its first row, counted from 1
unfoldable pub blocks_in : List Mark → List ℕ → Blocks
blocks_in marks words zero = None
blocks_in marks words (suc row) = block_from (mark_at marks row) words (4 * row)

-- marks that so many words can have
pub record IsArranged (marks : List Mark) (words : ℕ) : Type 0 where
  -- each row of four words has a mark
  pub rows : words ≡ 4 * length marks
  -- each block has one of the six classes
  pub classes : (row : ℕ) → class_at (mark_at marks row) ≤ 6
  -- no block reaches over the end
  pub inside : (row : ℕ) → row < length marks → 4 * row + extent (mark_at marks row) ≤ words
  -- each block ends before a later one starts
  pub apart : (row later : ℕ) → row < later → 0 < extent (mark_at marks later) → 4 * row + extent (mark_at marks row) ≤ 4 * later
