-- A temporary takes an object and then its holder is counted: this comes to the same as counting first and taking then.
use Rattle.std.proofs.Common.{◌≡◌, ℕ, ◌+◌, List, ◌∷◌, ap, ◌∙◌, sym, subst}
use Rattle.arc_heap.specs.Blocks.{Blocks}
use Rattle.arc_cells.specs.Cells.{with_count}
use Rattle.arc_cells.specs.Representation.{Memory, Parts, Alters, memory_of, taking, with_names}

module _ {S : Type 0} (out : S → Blocks) (m : Parts S) (word : ℕ) (names : List ℕ) (mid : Parts S) (placed : mid ≡ with_names (taking word m) names) where
  pub same_blocks : out m.store ≡ out mid.store
  same_blocks = sym (ap (λ (x : Parts S). out x.store) placed)

  module _ (high : Parts S) (raised : Alters (memory_of out mid) (memory_of out high) word (λ c. with_count c (c.count + 1))) where
    -- the same without the temporary, and with the references that there were
    abbrev pub without : Parts S
    without = record high { places = m.places; temporaries = m.temporaries; names = m.names }

    from_taken : Alters (memory_of out (with_names (taking word m) names)) (memory_of out high) word (λ c. with_count c (c.count + 1))
    from_taken = subst (λ (x : Parts S). Alters (memory_of out x) (memory_of out high) word (λ c. with_count c (c.count + 1))) placed raised

    pub counted : Alters (memory_of out m) (memory_of out without) word (λ c. with_count c (c.count + 1))
    counted = record {
      nil = from_taken.nil;
      block = from_taken.block;
      others = ap (λ (x : Memory). record x { places = m.places; temporaries = m.temporaries; names = m.names }) from_taken.others;
    }

    pub taken : high ≡ with_names (taking word without) names
    taken = ap (λ ps. record high { places = ps }) (ap (λ (x : Memory). x.places) from_taken.others)
        ∙ ap (λ t. record high { places = word ∷ m.places; temporaries = t }) (ap (λ (x : Memory). x.temporaries) from_taken.others)
        ∙ ap (λ ns. record high { places = word ∷ m.places; temporaries = m.temporaries + 1; names = ns }) (ap (λ (x : Memory). x.names) from_taken.others)
