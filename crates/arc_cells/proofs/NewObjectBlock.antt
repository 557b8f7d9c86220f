-- A block that a store gave becomes the block of a new object.
use Rattle.std.proofs.Common.{◌≡◌, ◌≢◌, ℕ, zero, suc, ◌+◌, ◌-◌, ◌≤◌, List, ◌∷◌, replicate, Option, Some, ap, ◌∙◌, arith}
use Rattle.std.proofs.lemmas.Grind.{common_steps}
use Rattle.arc_heap.specs.Blocks.{Blocks, with_block}
use Rattle.arc_heap.specs.Sizes.{class_of, size_of}
use Rattle.arc_cells.specs.Cells.{Cell, IsCell, Becomes, first_cell, fresh_cell}

four_words : (class : ℕ) → 4 ≤ size_of class
unfolding size_of
four_words class = grind (arith, common_steps)

four_first : (n : ℕ) → 4 ≤ n → replicate {A = ℕ} n 0 ≡ 0 ∷ 0 ∷ 0 ∷ 0 ∷ replicate {A = ℕ} (n - 4) 0
four_first zero h = absurd (omega arith)
four_first (suc zero) h = absurd (omega arith)
four_first (suc (suc zero)) h = absurd (omega arith)
four_first (suc (suc (suc zero))) h = absurd (omega arith)
four_first (suc (suc (suc (suc n)))) h =
    let rest : n ≡ suc (suc (suc (suc n))) - 4 = omega arith in
    ap (λ m. 0 ∷ 0 ∷ 0 ∷ 0 ∷ replicate {A = ℕ} m 0) rest

-- a block of this size as a store gives it
abbrev pub empty_cell : ℕ → Cell
empty_cell fields = record { class = 0; count = 0; phase = 0; number = 0; fields = replicate (size_of (class_of (4 + fields)) - 4) 0 }

block_there : (old : Blocks) (place : ℕ) (block : Option (List ℕ)) → with_block old place block place ≡ block
block_there old place block = grind (arith, common_steps)

block_else : (old : Blocks) (place : ℕ) (block : Option (List ℕ)) (other : ℕ) → other ≢ place → with_block old place block other ≡ old other
block_else old place block other differs = grind (arith, common_steps)

module _ (old taken : Blocks) (place fields : ℕ) (is : taken ≡ with_block old place (Some (replicate (size_of (class_of (4 + fields))) 0))) where
  pub taken_cell : IsCell taken place (empty_cell fields)
  taken_cell =
      ap (λ blocks. blocks place) is ∙ block_there old place (Some (replicate (size_of (class_of (4 + fields))) 0))
      ∙ ap Some (four_first (size_of (class_of (4 + fields))) (four_words (class_of (4 + fields))))

  pub made_cell : (new : Blocks) (class number : ℕ) → ((c : Cell) → IsCell taken place c → Becomes taken new place (first_cell class number c)) → Becomes old new place (fresh_cell class fields number)
  made_cell new class number begin =
      let change = begin (empty_cell fields) taken_cell in
      record {
        here = change.here;
        others = λ other differs. change.others other differs ∙ ap (λ blocks. blocks other) is ∙ block_else old place (Some (replicate (size_of (class_of (4 + fields))) 0)) other differs;
      }
