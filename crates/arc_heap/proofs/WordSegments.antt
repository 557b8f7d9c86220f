-- Words that lie one after another in a list.
use Rattle.std.proofs.Common.{◌≡◌, ℕ, ◌+◌, ◌<◌, ◌≤◌, List, ◌++◌, length, get_or, replicate, set, take, drop, sym, ap, ◌∙◌, arith}
use Rattle.std.proofs.lemmas.List.{get_or-take, get_or-drop, get_or-replicate, length-take-le, length-drop, length-replicate, drop-set-add}
use Rattle.std.proofs.Math.Seq.{ext_get_or, take-set-lt, take-append_seam}

-- a segment that lies within the words has as many words as are taken
pub length_segment : (words : List ℕ) (first count : ℕ) → first + count ≤ length words → length (take count (drop first words)) ≡ count
length_segment words first count within = length-take-le count (drop first words) (omega (arith, length-drop first words))

-- a word of a segment is the word of the whole so far after its first
pub get_segment : (words : List ℕ) (first count i : ℕ) → i < count → get_or (take count (drop first words)) i 0 ≡ get_or words (first + i) 0
get_segment words first count i below = get_or-take count (drop first words) i 0 below ∙ get_or-drop first words i 0

-- a word that is set in the whole is set in the segment that has it
pub set_segment : (words : List ℕ) (first count i word : ℕ) → i < count → take count (drop first (set words (first + i) word)) ≡ set (take count (drop first words)) i word
set_segment words first count i word below = ap (take count) (drop-set-add first words i word) ∙ take-set-lt count (drop first words) i word below

-- where two lists have the same words, so have their segments there
pub same_segment : (old new : List ℕ) (first count : ℕ) → first + count ≤ length old → first + count ≤ length new → ((i : ℕ) → first ≤ i → i < first + count → get_or new i 0 ≡ get_or old i 0)
    → take count (drop first new) ≡ take count (drop first old)
same_segment old new first count within_old within_new same =
    let old_length = length_segment old first count within_old in
    let new_length = length_segment new first count within_new in
    ext_get_or 0 (take count (drop first new)) (take count (drop first old)) (new_length ∙ sym old_length) (λ i below.
    let within : i < count = omega (arith, new_length, below) in
    get_segment new first count i within ∙ same (first + i) (omega arith) (omega arith) ∙ sym (get_segment old first count i within))

-- a segment of words that are 0 is so many zeros
pub zero_segment : (words : List ℕ) (first count : ℕ) → first + count ≤ length words → ((i : ℕ) → first ≤ i → i < first + count → get_or words i 0 ≡ 0) → take count (drop first words) ≡ replicate count 0
zero_segment words first count within zero_there =
    let segment_length = length_segment words first count within in
    ext_get_or 0 (take count (drop first words)) (replicate count 0) (segment_length ∙ sym (length-replicate count 0)) (λ i below.
    let inside : i < count = omega (arith, segment_length, below) in
    get_segment words first count i inside ∙ zero_there (first + i) (omega arith) (omega arith) ∙ sym (get_or-replicate count i 0 0 inside))

-- the first words of a list, as many as were put before the rest, are those
pub take_first : (words rest : List ℕ) (count : ℕ) → count ≡ length words → take count (words ++ rest) ≡ words
take_first words rest count all = ap (λ n. take n (words ++ rest)) all ∙ take-append_seam words rest
