-- Blocks before and after one of them is changed.
use Rattle.std.proofs.Common.{◌≡◌, ◌≢◌, ℕ, Option, List, sym, ap, ◌∙◌, arith, inl, inr, ◌⊎◌}
use Rattle.std.proofs.lemmas.Grind.{common_steps}
use Rattle.arc_heap.specs.Blocks.{Blocks, with_block}

pub same_or_other : (i j : ℕ) → (i ≡ j) ⊎ (i ≢ j)
same_or_other i j = grind arith

with_block_there : (old : Blocks) (place : ℕ) (block : Option (List ℕ)) (i : ℕ) → i ≡ place → with_block old place block i ≡ block
with_block_there old place block i same = grind (arith, common_steps)

with_block_else : (old : Blocks) (place : ℕ) (block : Option (List ℕ)) (i : ℕ) → i ≢ place → with_block old place block i ≡ old i
with_block_else old place block i other = grind (arith, common_steps)

-- what is said of each place, said of the blocks
pub is_with_block : (old new : Blocks) (place : ℕ) (block : Option (List ℕ)) → new place ≡ block → ((i : ℕ) → i ≢ place → new i ≡ old i) → new ≡ with_block old place block
is_with_block old new place block there else_same =
    let each : (i : ℕ) → new i ≡ with_block old place block i = λ i. elim (same_or_other i place) [
      | inl same ↦ ap new same ∙ there ∙ sym (with_block_there old place block i same)
      | inr other ↦ else_same i other ∙ sym (with_block_else old place block i other)
    ] in λ x i. each i x
