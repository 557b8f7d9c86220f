-- Blocks that lie in rows of words: one of them is written, given back, taken again or added.
use Rattle.std.proofs.Common.{◌≡◌, ◌≢◌, ℕ, zero, suc, ◌+◌, ◌-◌, ◌*◌, ◌/◌, ◌<◌, ◌≤◌, List, [], ◌∷◌, length, take, drop, get_or, set, replicate, Option, Some, None, refl, sym, ap, subst, ◌∙◌, arith, ◌⊎◌, inl, inr}
use Rattle.std.specs.Prelude.{IsSome}
use Rattle.std.proofs.lemmas.Grind.{common_steps}
use Rattle.std.proofs.lemmas.List.{get_or-set_same, get_or-set_other, length-set, get_or_past}
use Rattle.arc_heap.specs.declared.mark.Mark.{Mark}
use Rattle.arc_heap.specs.declared.mark.Mark.TheVariants.{Inside, Out, Free}
use Rattle.arc_heap.specs.Blocks.{Blocks, with_block, words_of, IsOut, HasWord}
use Rattle.arc_heap.specs.Sizes.{size_of}
use Rattle.arc_heap.specs.BlockLayout.{mark_at, extent, class_at, block_from, blocks_in, IsArranged}
use Rattle.arc_heap.proofs.BlockUpdate.{same_or_other, is_with_block}
use Rattle.arc_heap.proofs.WordSegments.{length_segment, get_segment, set_segment, same_segment, zero_segment}

pub some_words : (class : ℕ) → 0 < size_of class
unfolding size_of
some_words class = grind (arith, common_steps)

-- what a place names, by the row before it
pub at_place : (marks : List Mark) (words : List ℕ) (place : ℕ) → 0 < place → blocks_in marks words place ≡ block_from (mark_at marks (place - 1)) words (4 * (place - 1))
unfolding blocks_in
at_place marks words place above = let next : place ≡ suc (place - 1) = omega arith in ap (blocks_in marks words) next

-- where a block starts there is a row
pub marked_row : (marks : List Mark) (row : ℕ) → 0 < extent (mark_at marks row) → row < length marks
marked_row [] row some = absurd (omega arith)
marked_row (mark ∷ marks) zero some = omega arith
marked_row (mark ∷ marks) (suc row) some = omega (arith, marked_row marks row some)

-- a block that is out
pub record Stands (marks : List Mark) (words : List ℕ) (place : ℕ) : Type 0 where
  pub class : ℕ
  pub marked : mark_at marks (place - 1) ≡ Out class
  pub known : class ≤ 6
  pub row : place - 1 < length marks
  pub inside : 4 * (place - 1) + size_of class ≤ length words
  pub block : blocks_in marks words place ≡ Some (take (size_of class) (drop (4 * (place - 1)) words))

out_by_mark : (mark : Mark) (words : List ℕ) (first : ℕ) → IsSome (block_from mark words first) → (class : ℕ) × (mark ≡ Out class)
out_by_mark Inside words first some = absurd cc
out_by_mark (Out class) words first some = (class, refl)
out_by_mark (Free class) words first some = absurd cc

pub stands : (marks : List Mark) (words : List ℕ) (place : ℕ) → IsArranged marks (length words) → 0 < place → IsOut (blocks_in marks words) place → Stands marks words place
stands marks words place arranged above out =
    let by_mark = at_place marks words place above in
    let found = out_by_mark (mark_at marks (place - 1)) words (4 * (place - 1)) (subst IsSome by_mark out) in
    let size : extent (mark_at marks (place - 1)) ≡ size_of found.0 = ap extent found.1 in
    let class_is : class_at (mark_at marks (place - 1)) ≡ found.0 = ap class_at found.1 in
    let row = marked_row marks (place - 1) (omega (arith, size, some_words found.0)) in
    record {
      class = found.0;
      marked = found.1;
      known = omega (arith, class_is, arranged.classes (place - 1));
      row = row;
      inside = omega (arith, size, arranged.inside (place - 1) row);
      block = by_mark ∙ ap (λ mark. block_from mark words (4 * (place - 1))) found.1;
    }

pub has_out : (blocks : Blocks) (place i : ℕ) → HasWord blocks place i → IsOut blocks place
has_out blocks place i has = some (blocks place) has
  where
    some : (block : Option (List ℕ)) → i < length (words_of block) → IsSome block
    some None has = absurd (omega arith)
    some (Some words) has = refl

-- the words of a block are kept where another row's block alone is written
kept : (mark : Mark) (old new : List ℕ) (first : ℕ) → (0 < extent mark → take (extent mark) (drop first new) ≡ take (extent mark) (drop first old)) → block_from mark new first ≡ block_from mark old first
kept Inside old new first same = refl
kept (Out class) old new first same = ap Some (same (some_words class))
kept (Free class) old new first same = refl

before_or_after : (i j : ℕ) → i ≢ j → (i < j) ⊎ (j < i)
before_or_after i j other = grind arith

-- where the words of one row's block alone are written, and only its mark, the blocks are as before but at this place
pub one_changed : (old_marks new_marks : List Mark) (old new : List ℕ) (place : ℕ) (block : Option (List ℕ)) → IsArranged old_marks (length old) → 0 < place
    → (0 < extent (mark_at old_marks (place - 1))) ⊎ (length old_marks ≤ place - 1)
    → length old ≤ length new
    → ((row : ℕ) → row ≢ place - 1 → mark_at new_marks row ≡ mark_at old_marks row)
    → ((i : ℕ) → i < length old → (i < 4 * (place - 1)) ⊎ (4 * (place - 1) + extent (mark_at old_marks (place - 1)) ≤ i) → get_or new i 0 ≡ get_or old i 0)
    → block_from (mark_at new_marks (place - 1)) new (4 * (place - 1)) ≡ block
    → blocks_in new_marks new ≡ with_block (blocks_in old_marks old) place block
unfolding blocks_in
one_changed old_marks new_marks old new place block arranged above starts longer marks_kept words_kept there =
    is_with_block (blocks_in old_marks old) (blocks_in new_marks new) place block (at_place new_marks new place above ∙ there) (elim [
      | zero ↦ λ other. refl
      | suc row ↦ λ other.
          let mark = mark_at old_marks row in
          let elsewhere : row ≢ place - 1 = omega arith in
          ap (λ m. block_from m new (4 * row)) (marks_kept row elsewhere) ∙ kept mark old new (4 * row) (λ some.
          let inside = arranged.inside row (marked_row old_marks row some) in
          same_segment old new (4 * row) (extent mark) inside (omega arith) (λ i low high. words_kept i (omega arith) (side row i elsewhere some low high)))
    ])
  where
    side : (row i : ℕ) → row ≢ place - 1 → 0 < extent (mark_at old_marks row) → 4 * row ≤ i → i < 4 * row + extent (mark_at old_marks row)
        → (i < 4 * (place - 1)) ⊎ (4 * (place - 1) + extent (mark_at old_marks (place - 1)) ≤ i)
    side row i elsewhere some low high = elim (before_or_after row (place - 1) elsewhere) [
      | inl before ↦ inl (elim starts [
        | inl here ↦ let ends = arranged.apart row (place - 1) before here in omega arith
        | inr past ↦ let ends = arranged.inside row (marked_row old_marks row some) in omega (arith, arranged.rows)
      ])
      | inr after ↦ inr (let ends = arranged.apart (place - 1) row after some in omega arith)
    ]

-- a word of a block that is out
pub record WordStands (marks : List Mark) (words : List ℕ) (place i : ℕ) : Type 0 where
  pub within : 4 * (place - 1) + i < length words
  pub word : get_or (words_of (blocks_in marks words place)) i 0 ≡ get_or words (4 * (place - 1) + i) 0

index_below : (marks : List Mark) (words : List ℕ) (place i : ℕ) (at : Stands marks words place) → HasWord (blocks_in marks words) place i → i < size_of at.class
index_below marks words place i at has =
    let size = length_segment words (4 * (place - 1)) (size_of at.class) at.inside in
    subst (λ (n : ℕ). i < n) size (subst (λ (block : Option (List ℕ)). i < length (words_of block)) at.block has)

pub word_stands : (marks : List Mark) (words : List ℕ) (place i : ℕ) → IsArranged marks (length words) → 0 < place → HasWord (blocks_in marks words) place i → WordStands marks words place i
word_stands marks words place i arranged above has =
    let at = stands marks words place arranged above (has_out (blocks_in marks words) place i has) in
    let below = index_below marks words place i at has in
    record {
      within = omega (arith, at.inside, below);
      word = ap (λ block. get_or (words_of block) i 0) at.block ∙ get_segment words (4 * (place - 1)) (size_of at.class) i below;
    }

-- a block that is out of a store that is seen so, and a word of one
pub block_out : (marks : List Mark) (words : List ℕ) (seen : List Mark × List ℕ) (place : ℕ) → (marks, words) ≡ seen → IsArranged marks (length words) → 0 < place
    → IsOut (blocks_in seen.0 seen.1) place → Stands marks words place
block_out marks words seen place is arranged above out = stands marks words place arranged above (subst (λ v. IsOut (blocks_in v.0 v.1) place) (sym is) out)

pub has_word : (marks : List Mark) (words : List ℕ) (seen : List Mark × List ℕ) (place i : ℕ) → (marks, words) ≡ seen → HasWord (blocks_in seen.0 seen.1) place i → HasWord (blocks_in marks words) place i
has_word marks words seen place i is has = subst (λ v. HasWord (blocks_in v.0 v.1) place i) (sym is) has

pub word_out : (marks : List Mark) (words : List ℕ) (seen : List Mark × List ℕ) (place i : ℕ) → (marks, words) ≡ seen → IsArranged marks (length words) → 0 < place
    → HasWord (blocks_in seen.0 seen.1) place i → WordStands marks words place i
word_out marks words seen place i is arranged above has = word_stands marks words place i arranged above (has_word marks words seen place i is has)

-- a word is written
pub stored : (marks : List Mark) (words : List ℕ) (place i word : ℕ) → IsArranged marks (length words) → 0 < place → HasWord (blocks_in marks words) place i
    → blocks_in marks (set words (4 * (place - 1) + i) word) ≡ with_block (blocks_in marks words) place (Some (set (words_of (blocks_in marks words place)) i word))
stored marks words place i word arranged above has =
    let at = stands marks words place arranged above (has_out (blocks_in marks words) place i has) in
    let below = index_below marks words place i at has in
    let first = 4 * (place - 1) in
    let size : extent (mark_at marks (place - 1)) ≡ size_of at.class = ap extent at.marked in
    one_changed marks marks words (set words (first + i) word) place (Some (set (words_of (blocks_in marks words place)) i word)) arranged above
    (inl (omega (arith, size, some_words at.class)))
    (omega (arith, length-set words (first + i) word))
    (λ row other. refl)
    (λ j within elsewhere. get_or-set_other words (first + i) j word 0 (elim elsewhere [ inl before ↦ omega arith | inr after ↦ omega (arith, size) ]))
    (ap (λ mark. block_from mark (set words (first + i) word) first) at.marked
    ∙ ap Some (set_segment words first (size_of at.class) i word below)
    ∙ ap (λ block. Some (set (words_of block) i word)) (sym at.block))

mark_there : (marks : List Mark) (row : ℕ) (mark : Mark) → row < length marks → mark_at (set marks row mark) row ≡ mark
mark_there marks row mark within = get_or-set_same marks row mark Inside within

mark_else : (marks : List Mark) (row other : ℕ) (mark : Mark) → other ≢ row → mark_at (set marks row mark) other ≡ mark_at marks other
mark_else marks row other mark elsewhere = get_or-set_other marks row other mark Inside elsewhere

-- a block of the same class stands at the row
pub remarked : (marks : List Mark) (words row : ℕ) (mark : Mark) → IsArranged marks words → row < length marks → extent mark ≡ extent (mark_at marks row) → class_at mark ≡ class_at (mark_at marks row)
    → IsArranged (set marks row mark) words
remarked marks words row mark arranged within size class = record {
  rows = omega (arith, arranged.rows, length-set marks row mark);
  classes = λ r. omega (arith, kept class_at class r, arranged.classes r);
  inside = λ r below. omega (arith, kept extent size r, arranged.inside r (omega (arith, length-set marks row mark, below)));
  apart = λ r later before some. omega (arith, kept extent size r, arranged.apart r later before (omega (arith, kept extent size later, some)));
}
  where
    kept : (f : Mark → ℕ) → f mark ≡ f (mark_at marks row) → (r : ℕ) → f (mark_at (set marks row mark) r) ≡ f (mark_at marks r)
    kept f same r = elim (same_or_other r row) [
      | inl here ↦ ap (λ n. f (mark_at (set marks row mark) n)) here ∙ ap f (mark_there marks row mark within) ∙ same ∙ ap (λ n. f (mark_at marks n)) (sym here)
      | inr other ↦ ap f (mark_else marks row r mark other)
    ]

-- a block is given back, and its first word is written
pub given : (marks : List Mark) (words : List ℕ) (place class link : ℕ) → IsArranged marks (length words) → 0 < place → place - 1 < length marks → mark_at marks (place - 1) ≡ Out class
    → blocks_in (set marks (place - 1) (Free class)) (set words (4 * (place - 1)) link) ≡ with_block (blocks_in marks words) place None
given marks words place class link arranged above within out =
    let first = 4 * (place - 1) in
    let size : extent (mark_at marks (place - 1)) ≡ size_of class = ap extent out in
    one_changed marks (set marks (place - 1) (Free class)) words (set words first link) place None arranged above
    (inl (omega (arith, size, some_words class)))
    (omega (arith, length-set words first link))
    (λ row other. mark_else marks (place - 1) row (Free class) other)
    (λ i below elsewhere. get_or-set_other words first i link 0 (elim elsewhere [ inl before ↦ omega arith | inr after ↦ omega (arith, size, some_words class) ]))
    (ap (λ mark. block_from mark (set words first link) first) (mark_there marks (place - 1) (Free class) within))

-- a free block is not out
pub free_is_none : (marks : List Mark) (words : List ℕ) (place class : ℕ) → 0 < place → mark_at marks (place - 1) ≡ Free class → blocks_in marks words place ≡ None
free_is_none marks words place class above free = at_place marks words place above ∙ ap (λ mark. block_from mark words (4 * (place - 1))) free

-- the words of a free block are cleared, and it is out
pub taken_again : (marks : List Mark) (words new : List ℕ) (place class : ℕ) → IsArranged marks (length words) → 0 < place → place - 1 < length marks → mark_at marks (place - 1) ≡ Free class
    → length new ≡ length words
    → ((i : ℕ) → 4 * (place - 1) ≤ i → i < 4 * (place - 1) + size_of class → get_or new i 0 ≡ 0)
    → ((i : ℕ) → (i < 4 * (place - 1)) ⊎ (4 * (place - 1) + size_of class ≤ i) → get_or new i 0 ≡ get_or words i 0)
    → blocks_in (set marks (place - 1) (Out class)) new ≡ with_block (blocks_in marks words) place (Some (replicate (size_of class) 0))
taken_again marks words new place class arranged above within free same_length zeros others =
    let first = 4 * (place - 1) in
    let size : extent (mark_at marks (place - 1)) ≡ size_of class = ap extent free in
    let ends : first + size_of class ≤ length new = omega (arith, size, same_length, arranged.inside (place - 1) within) in
    one_changed marks (set marks (place - 1) (Out class)) words new place (Some (replicate (size_of class) 0)) arranged above
    (inl (omega (arith, size, some_words class)))
    (omega (arith, same_length))
    (λ row other. mark_else marks (place - 1) row (Out class) other)
    (λ i below elsewhere. others i (elim elsewhere [ inl before ↦ inl before | inr after ↦ inr (omega (arith, size)) ]))
    (ap (λ mark. block_from mark new first) (mark_there marks (place - 1) (Out class) within) ∙ ap Some (zero_segment new first (size_of class) ends zeros))

-- a block is a number of whole rows
whole_rows : (class : ℕ) → 0 < class → class ≤ 6 → 4 * (size_of class / 4) ≡ size_of class
unfolding size_of
whole_rows zero above known = absurd (omega arith)
whole_rows (suc zero) above known = refl
whole_rows (suc (suc zero)) above known = refl
whole_rows (suc (suc (suc zero))) above known = refl
whole_rows (suc (suc (suc (suc zero)))) above known = refl
whole_rows (suc (suc (suc (suc (suc zero))))) above known = refl
whole_rows (suc (suc (suc (suc (suc (suc zero)))))) above known = refl
whole_rows (suc (suc (suc (suc (suc (suc (suc class))))))) above known = absurd (omega arith)

before_or_past : (i j : ℕ) → (i < j) ⊎ (j ≤ i)
before_or_past i j = grind arith

-- rows were added after, at which no block starts
pub same_marks : (marks longer : List Mark) → length marks ≤ length longer
    → ((row : ℕ) → row < length marks → mark_at longer row ≡ mark_at marks row)
    → ((row : ℕ) → length marks ≤ row → row < length longer → mark_at longer row ≡ Inside)
    → (row : ℕ) → mark_at longer row ≡ mark_at marks row
same_marks marks longer more kept added row = elim (before_or_past row (length marks)) [
  | inl before ↦ kept row before
  | inr past ↦ elim (before_or_past row (length longer)) [
    | inl before ↦ added row past before ∙ sym (get_or_past marks row Inside past)
    | inr beyond ↦ get_or_past longer row Inside beyond ∙ sym (get_or_past marks row Inside past)
  ]
]

-- the marks and words of a store to which a block was added after all others
pub record IsLonger (marks longer : List Mark) (words new : List ℕ) (class : ℕ) : Type 0 where
  pub above : 0 < class
  pub known : class ≤ 6
  pub rows : length longer ≡ length marks + size_of class / 4
  pub marks_kept : (row : ℕ) → mark_at longer row ≡ mark_at marks row
  pub size : length new ≡ length words + size_of class
  pub words_kept : (i : ℕ) → i < length words → get_or new i 0 ≡ get_or words i 0
  pub zeros : (i : ℕ) → length words ≤ i → i < length words + size_of class → get_or new i 0 ≡ 0

pub cut_arranged : (marks longer : List Mark) (words new : List ℕ) (class row : ℕ) → row ≡ length marks → IsArranged marks (length words) → IsLonger marks longer words new class → IsArranged (set longer row (Out class)) (length new)
cut_arranged marks longer words new class row last arranged more = record {
  rows = omega (arith, more.rows, more.size, whole, arranged.rows, length-set longer row (Out class));
  classes = λ r. elim (same_or_other r row) [
    | inl here ↦ omega (arith, ap class_at (there r here), more.known)
    | inr other ↦ omega (arith, ap class_at (elsewhere r other), arranged.classes r)
  ];
  inside = λ r below. elim (same_or_other r row) [
    | inl here ↦ omega (arith, ap extent (there r here), more.size, arranged.rows, last, here)
    | inr other ↦ elim (before_or_past r (length marks)) [
      | inl before ↦ omega (arith, ap extent (elsewhere r other), arranged.inside r before, more.size)
      | inr past ↦ let nothing : extent (mark_at (set longer row (Out class)) r) ≡ 0 = ap extent (elsewhere r other ∙ get_or_past marks r Inside past) in
          omega (arith, nothing, below, length-set longer row (Out class), more.rows, more.size, whole, arranged.rows)
    ]
  ];
  apart = λ r later before some. elim (same_or_other later row) [
    | inl here ↦ let other : r ≢ row = omega arith in omega (arith, ap extent (elsewhere r other), arranged.inside r (omega arith), arranged.rows, last, here)
    | inr other ↦
        let starts : 0 < extent (mark_at marks later) = subst (λ mark. 0 < extent mark) (elsewhere later other) some in
        let earlier : r ≢ row = omega (arith, marked_row marks later starts, last) in
        omega (arith, ap extent (elsewhere r earlier), arranged.apart r later before starts)
  ];
}
  where
    whole : 4 * (size_of class / 4) ≡ size_of class
    whole = whole_rows class more.above more.known

    there : (r : ℕ) → r ≡ row → mark_at (set longer row (Out class)) r ≡ Out class
    there r here = ap (mark_at (set longer row (Out class))) here ∙ mark_there longer row (Out class) (omega (arith, last, more.rows, whole, some_words class))

    elsewhere : (r : ℕ) → r ≢ row → mark_at (set longer row (Out class)) r ≡ mark_at marks r
    elsewhere r other = mark_else longer row r (Out class) other ∙ more.marks_kept r

pub cut_is : (marks longer : List Mark) (words new : List ℕ) (class row : ℕ) → row ≡ length marks → IsArranged marks (length words) → IsLonger marks longer words new class
    → blocks_in (set longer row (Out class)) new ≡ with_block (blocks_in marks words) (row + 1) (Some (replicate (size_of class) 0))
cut_is marks longer words new class row last arranged more =
    let before : row + 1 - 1 ≡ row = omega arith in
    let whole = whole_rows class more.above more.known in
    let there : mark_at (set longer row (Out class)) (row + 1 - 1) ≡ Out class =
    ap (mark_at (set longer row (Out class))) before ∙ mark_there longer row (Out class) (omega (arith, last, more.rows, whole, some_words class)) in
    let first : 4 * (row + 1 - 1) ≡ length words = omega (arith, arranged.rows, last) in
    one_changed marks (set longer row (Out class)) words new (row + 1) (Some (replicate (size_of class) 0)) arranged (omega arith)
    (inr (omega (arith, last)))
    (omega (arith, more.size))
    (λ r other. mark_else longer row r (Out class) (omega arith) ∙ more.marks_kept r)
    (λ i below elsewhere. more.words_kept i below)
    (ap (λ mark. block_from mark new (4 * (row + 1 - 1))) there
    ∙ ap (λ n. Some (take (size_of class) (drop n new))) first
    ∙ ap Some (zero_segment new (length words) (size_of class) (omega (arith, more.size)) more.zeros))

pub last_is_none : (marks : List Mark) (words : List ℕ) (row : ℕ) → row ≡ length marks → blocks_in marks words (row + 1) ≡ None
last_is_none marks words row last = at_place marks words (row + 1) (omega arith)
    ∙ ap (λ mark. block_from mark words (4 * (row + 1 - 1))) (get_or_past marks (row + 1 - 1) Inside (omega (arith, last)))
