-- A memory is altered by a change of one block; two changes of the same block, one after the other, are one change.
use Rattle.std.proofs.Common.{ℕ, ◌<◌, refl, ◌∙◌, arith}
use Rattle.arc_heap.specs.Blocks.{Blocks}
use Rattle.arc_cells.specs.Cells.{Cell, IsCell, Becomes}
use Rattle.arc_cells.specs.Representation.{Memory, Alters, with_store}

pub alters_by : (old : Memory) (blocks : Blocks) (word : ℕ) (change : Cell → Cell) → 0 < word → ((c : Cell) → IsCell old.store word c → Becomes old.store blocks word (change c)) → Alters old (with_store old blocks) word change
alters_by old blocks word change above h = record { nil = λ none. absurd (omega arith); block = λ _ c is. h c is; others = refl }

pub becomes_twice : (first second third : Blocks) (word : ℕ) (c d : Cell) → Becomes first second word c → Becomes second third word d → Becomes first third word d
becomes_twice first second third word c d h k = record { here = k.here; others = λ other differs. k.others other differs ∙ h.others other differs }
