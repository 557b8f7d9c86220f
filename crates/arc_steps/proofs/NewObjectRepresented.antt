-- An object is made: the machine's memory goes on standing for the objects.
use Rattle.std.proofs.Common.{◌≡◌, ◌≢◌, ◌⊎◌, inl, inr, ℕ, zero, suc, ◌+◌, ◌-◌, ◌<◌, ◌≤◌, List, [], ◌∷◌, ◌++◌, length, replicate, drop, Option, Some, None, Bool, true, false, nat_eq, length-append, refl, sym, ap, ◌∙◌, subst, arith}
use Rattle.std.specs.Prelude.{All, map, slice_get, if◌then◌else◌}
use Rattle.std.proofs.lemmas.Bool.Decides.{nat_tests}
use Rattle.std.proofs.lemmas.Grind.{common_steps}
use Rattle.std.proofs.lemmas.Option.{slice_get_within}
use Rattle.std.proofs.lemmas.List.Elements.{All-nil, All-cons, All-head, All-tail, All-append, All-weaker}
use Rattle.arc_spec.specs.declared.sort_counts.SortCounts.{SortCounts}
use Rattle.arc_spec.specs.Classes.{Class, field_counts}
use Rattle.arc_spec.specs.Sorts.{total}
use Rattle.arc_spec.specs.Objects.{Object, Phase, Live, Dying, Emptying, Gone, zeros, nils, new_object, fields_of, field_places}
use Rattle.arc_spec.specs.HolderCounts.{Heap, ReturnFrame, Calling, Ending, Clearing, CountsAreExact, is_there, stacked, all_places, holders, raised, makes}
use Rattle.arc_heap.specs.Blocks.{Blocks}
use Rattle.arc_heap.specs.Sizes.{class_of, size_of}
use Rattle.arc_cells.specs.Cells.{Cell, words, IsCell, Sets, Becomes, fresh_cell}
use Rattle.arc_cells.specs.Representation.{Memory, Values, Begin, Stored, Kept, HasBlock, Stands, StandsFor, IsKnown, cell_of, place, waiting, with_names, with_made, taking}
use Rattle.arc_steps.proofs.EndFramesKept.{ends_more}
use Rattle.arc_steps.proofs.RepresentationKept.{stored_of, raised_there, raised_else, all_left, all_right, known_stacked, known_others, known_fields}
use Rattle.arc_cells.specs.declared.cell.TheConstants.{MOST_FIELDS}

get_append : (xs : List Object) (x : Object) (j : ℕ) (y : Object) → slice_get (xs ++ x ∷ []) j ≡ Some y → ((j < length xs) × (slice_get xs j ≡ Some y)) ⊎ ((j ≡ length xs) × (y ≡ x))
get_append [] x zero y e = inr (refl, cc)
get_append [] x (suc j) y e = absurd (cc)
get_append (z ∷ xs) x zero y e = inl (omega arith, e)
get_append (z ∷ xs) x (suc j) y e = elim (get_append xs x j y e) [ inl p ↦ inl (omega (arith, p.0), p.1) | inr p ↦ inr (ap suc p.0, p.1) ]

get_more : (xs : List Object) (x : Object) (j : ℕ) (y : Object) → slice_get xs j ≡ Some y → slice_get (xs ++ x ∷ []) j ≡ Some y
get_more [] x j y e = absurd (cc)
get_more (z ∷ xs) x zero y e = e
get_more (z ∷ xs) x (suc j) y e = get_more xs x j y e

get_last : (xs : List Object) (x : Object) → slice_get (xs ++ x ∷ []) (length xs) ≡ Some x
get_last [] x = refl
get_last (z ∷ xs) x = get_last xs x

-- no place names an object that wasn't made
pub unheld : (n : ℕ) (places : List ℕ) → All (λ r. r ≤ n) places → holders (suc n) places ≡ 0
unheld n [] h = refl
unheld n (r ∷ places) h =
    let first = All-head (λ r. r ≤ n) r places h in
    let rest = unheld n places (All-tail (λ r. r ≤ n) r places h) in
    let differs : nat_eq (suc n) r ≡ false = grind (arith, nat_tests) in
    ap (λ t. if t then suc (holders (suc n) places) else holders (suc n) places) differs ∙ rest

length_zeros : (n : ℕ) → length (zeros n) ≡ n
length_zeros zero = refl
length_zeros (suc n) = ap suc (length_zeros n)

-- words that are 0 are those of fields that are
values_zeros : (fields more : ℕ) → fields ≤ more → Values (zeros fields) (replicate more 0)
values_zeros zero more h = tt
values_zeros (suc fields) zero h = absurd (omega arith)
values_zeros (suc fields) (suc more) h = (refl, values_zeros fields more (omega arith))

length_nils : (n : ℕ) → length (nils n) ≡ n
length_nils zero = refl
length_nils (suc n) = ap suc (length_nils n)

begin_nils : (at : ℕ → ℕ) (names more : ℕ) → names ≤ more → Begin (map (place at) (nils names)) (replicate more 0)
begin_nils at zero more h = refl
begin_nils at (suc names) zero h = absurd (omega arith)
begin_nils at (suc names) (suc more) h = ap (λ l. 0 ∷ l) (begin_nils at names more (omega arith))

-- and so are those of fields that name nothing
names_nils : (at : ℕ → ℕ) (fields names more : ℕ) → fields + names ≤ more → Begin (map (place at) (nils names)) (drop fields (replicate more 0))
names_nils at zero names more h = begin_nils at names more (omega (arith, h))
names_nils at (suc fields) names zero h = absurd (omega (arith, h))
names_nils at (suc fields) names (suc more) h = names_nils at fields names more (omega (arith, h))

all_nils : (P : ℕ → Type 0) (n : ℕ) → P 0 → All P (nils n)
all_nils P zero h = All-nil P
all_nils P (suc n) h = All-cons P 0 (nils n) h (all_nils P n h)

-- one more object
all_fields_more : (P : ℕ → Type 0) (xs : List Object) (x : Object) → All P (field_places xs) → All P (fields_of x) → All P (field_places (xs ++ x ∷ []))
all_fields_more P [] x h n = All-append P (fields_of x) [] n (All-nil P)
all_fields_more P (y ∷ xs) x h n =
    All-append P (fields_of y) (field_places (xs ++ x ∷ [])) (all_left P (fields_of y) (field_places xs) h) (all_fields_more P xs x (all_right P (fields_of y) (field_places xs) h) n)

-- ---- one more object has a block

abbrev switched : Bool → ℕ → ℕ → ℕ
switched true r a = r
switched false r a = a

-- object n has its block at r, and the others where they have theirs
abbrev pub placed_at : (ℕ → ℕ) → (n r : ℕ) → ℕ → ℕ
placed_at at n r k = switched (nat_eq k n) r (at k)

differs : (k n : ℕ) → k < n → nat_eq k n ≡ false
differs k n h = grind (arith, nat_tests)

equal : (n : ℕ) → nat_eq n n ≡ true
equal n = grind (arith, nat_tests)

module _ (at : ℕ → ℕ) (n r : ℕ) where
  older : (k : ℕ) → k < n → placed_at at n r k ≡ at k
  older k h = ap (λ t. switched t r (at k)) (differs k n h)

  newest : placed_at at n r n ≡ r
  newest = ap (λ t. switched t r (at n)) (equal n)

  some_place : (k : ℕ) (t : Bool) → 0 < r → 0 < at k → 0 < switched t r (at k)
  some_place k true p h = p
  some_place k false p h = h

  same_place : (ref : ℕ) → ref ≤ n → place at ref ≡ place (placed_at at n r) ref
  same_place zero h = refl
  same_place (suc k) h = sym (older k (omega arith))

  same_places : (refs : List ℕ) → All (λ r. r ≤ n) refs → map (place at) refs ≡ map (place (placed_at at n r)) refs
  same_places [] h = refl
  same_places (ref ∷ refs) h =
      let first = same_place ref (All-head (λ r. r ≤ n) ref refs h) in
      let rest = same_places refs (All-tail (λ r. r ≤ n) ref refs h) in cc

  same_frame : (frame : ReturnFrame) → IsKnown n frame → waiting at frame ≡ waiting (placed_at at n r) frame
  same_frame (Calling back w) h = let first = same_place w.self h in cc
  same_frame (Clearing back w o fields) h = let first = same_place w.self h.0 in let second = same_place o h.1 in cc
  same_frame (Ending back w o next left) h = let first = same_place w.self h.0 in let second = same_place o h.1 in cc

  same_frames : (frames : List ReturnFrame) → All (IsKnown n) frames → map (waiting at) frames ≡ map (waiting (placed_at at n r)) frames
  same_frames [] h = refl
  same_frames (frame ∷ frames) h =
      let first = same_frame frame (All-head (IsKnown n) frame frames h) in
      let rest = same_frames frames (All-tail (IsKnown n) frame frames h) in cc

-- a block holds what was asked for
large_enough : (words : ℕ) → words ≤ 128 → words ≤ size_of (class_of words)
unfolding size_of
large_enough words h = grind (arith, nat_tests, common_steps)

module _ {foreign : Blocks} (at : ℕ → ℕ) (classes : List Class) (m : Memory) (frames : List ReturnFrame) (h : Heap) (t : Stands foreign at classes m frames h) (n : ℕ) (made : n ≡ length h.objects) (class r : ℕ) (out : m.store r ≡ None) (blocks' : Blocks)
    (change : Becomes m.store blocks' r (fresh_cell class (total (field_counts (slice_get classes class))) (n + 1))) where
  elsewhere : (j : ℕ) (c : Cell) → IsCell m.store (at j) c → at j ≢ r
  elsewhere j c e same = let no : None ≡ Some (words c) = sym out ∙ ap m.store (sym same) ∙ e in absurd (cc)

  older_block : (j : ℕ) (c : Cell) → j < n → IsCell m.store (at j) c → IsCell blocks' (placed_at at n r j) c
  older_block j c l e = ap blocks' (older at n r j l) ∙ change.others (at j) (elsewhere j c e) ∙ e

  older_stored : (j count : ℕ) (o : Object) → j < n → All (λ q. q ≤ n) o.strong → Stored (place at) classes m.store (at j) (suc j) count o → Stored (place (placed_at at n r)) classes blocks' (placed_at at n r j) (suc j) count o
  older_stored j count o l known s = record {
    fields = s.fields;
    block = older_block j (cell_of o count (suc j) s.fields) l s.block;
    values = s.values;
    names = subst (λ names. Begin names (drop (length o.fields) s.fields)) (same_places at n r o.strong known) s.names;
    all = s.all;
  }

  older_kept : (phase : Phase) (j count : ℕ) (o : Object) → j < n → (is_there phase ≡ true → All (λ q. q ≤ n) o.strong) → Kept phase (place at) classes m.store (at j) (suc j) count o → Kept phase (place (placed_at at n r)) classes blocks' (placed_at at n r j) (suc j) count o
  older_kept Live j count o l known s = older_stored j count o l (known refl) s
  older_kept Dying j count o l known s = older_stored j count o l (known refl) s
  older_kept Emptying j count o l known s = older_stored j count o l (known refl) s
  older_kept Gone j count o l known s = s

  newest_stored : (counts : SortCounts) (count : ℕ) → counts ≡ field_counts (slice_get classes class) → total counts ≤ MOST_FIELDS → count ≡ 1
      → Stored (place (placed_at at n r)) classes blocks' (placed_at at n r n) (suc n) count (new_object class counts)
  newest_stored counts count is few one =
      let fields = counts.numbers in
      let strong = counts.objects in
      let large = large_enough (4 + (fields + strong)) (omega (arith, few)) in
      let rest = size_of (class_of (4 + (fields + strong))) - 4 in
      let all_is : fields + strong ≡ total (field_counts (slice_get classes class)) = ap total is in
      let number : n + 1 ≡ suc n = omega arith in
      record {
        fields = replicate rest 0;
        block = ap blocks' (newest at n r) ∙ change.here ∙ ap (λ f. Some (words (fresh_cell class f (n + 1)))) (sym all_is)
            ∙ ap (λ k. Some (class ∷ 1 ∷ 0 ∷ k ∷ replicate rest 0)) number ∙ ap (λ k. Some (class ∷ k ∷ 0 ∷ suc n ∷ replicate rest 0)) (sym one);
        values = values_zeros fields rest (omega (arith, large));
        names = subst (λ k. Begin (map (place (placed_at at n r)) (nils strong)) (drop k (replicate rest 0))) (sym (length_zeros fields)) (names_nils (placed_at at n r) fields strong rest (omega (arith, large)));
        all = (length_zeros fields ∙ ap (λ (c : SortCounts). c.numbers) is, length_nils strong ∙ ap (λ (c : SortCounts). c.objects) is, omega (arith, few, length_zeros fields, length_nils strong));
      }

-- no blocks are out but those of the objects, with the new one's, and the foreign ones
module _ {foreign : Blocks} (at : ℕ → ℕ) (classes : List Class) (m : Memory) (frames : List ReturnFrame) (h : Heap) (t : Stands foreign at classes m frames h) (r : ℕ) (out : m.store r ≡ None) (blocks' : Blocks) (now : Option (List ℕ)) (change : Sets m.store blocks' r now)
    (object : Object) (lives : is_there object.phase ≡ true) where
  abbrev all : List Object
  all = h.objects ++ object ∷ []

  abbrev at' : ℕ → ℕ
  at' = placed_at at (length h.objects) r

  taken_else : (k : ℕ) → HasBlock h.objects k → at k ≢ r
  taken_else k (o, there, here) same =
      let stored = stored_of o.phase (place at) classes m.store (at k) (suc k) (h.counts (suc k)) o here (t.kept k o there) in
      let no : None ≡ Some (words (cell_of o (h.counts (suc k)) (suc k) stored.fields)) = sym out ∙ ap m.store (sym same) ∙ stored.block in
      absurd (cc)

  older_there : (k : ℕ) (b : HasBlock h.objects k) → at' k ≡ at k
  older_there k (o, there, here) = older at (length h.objects) r k (slice_get_within h.objects k o there)

  others_more : (word : ℕ) → ((k : ℕ) → HasBlock all k → at' k ≢ word) → blocks' word ≡ foreign word
  others_more word none =
      change.others word (λ same. none (length h.objects) (object, get_last h.objects object, lives) (newest at (length h.objects) r ∙ sym same))
      ∙ t.others word (λ k b is. none k (b.0, get_more h.objects object k b.0 b.1, b.2) (older_there k b ∙ is))

  own_more : (k : ℕ) → HasBlock all k → foreign (at' k) ≡ None
  own_more k b = elim (get_append h.objects object k b.0 b.1) [
    | inl p ↦ ap foreign (older_there k (b.0, p.1, b.2)) ∙ t.own k (b.0, p.1, b.2)
    | inr p ↦ ap foreign (ap at' p.0 ∙ newest at (length h.objects) r) ∙ sym (t.others r taken_else) ∙ out
  ]

known_more : (n more : ℕ) → n ≤ more → (frame : ReturnFrame) → IsKnown n frame → IsKnown more frame
known_more n more l (Calling back w) h = omega (arith, l, h)
known_more n more l (Ending back w o next left) h = (omega (arith, l, h.0), omega (arith, l, h.1))
known_more n more l (Clearing back w o fields) h = (omega (arith, l, h.0), omega (arith, l, h.1))

-- the memory with one more object, which a further temporary takes and a further reference names
abbrev pub with_newest : Memory → Blocks → (word : ℕ) → Memory
with_newest m blocks word = with_names (taking word (with_made m blocks (m.made + 1))) (word ∷ m.names)

pub makes_stands : {foreign : Blocks} (at : ℕ → ℕ) (classes : List Class) (m : Memory) (frames : List ReturnFrame) (h : Heap) → Stands foreign at classes m frames h → (class r : ℕ) → m.store r ≡ None → (blocks' : Blocks)
    → Becomes m.store blocks' r (fresh_cell class (total (field_counts (slice_get classes class))) (m.made + 1)) → total (field_counts (slice_get classes class)) ≤ MOST_FIELDS → 0 < r → CountsAreExact h
    → StandsFor foreign classes (with_newest m blocks' r) frames (makes classes class h)
makes_stands at classes m frames h t class r out blocks' change few above counted =
    let n = length h.objects in
    let counts = field_counts (slice_get classes class) in
    let object : Object = new_object class counts in
    let objects' : List Object = h.objects ++ object ∷ [] in
    let at' = placed_at at n r in
    let numbered : Becomes m.store blocks' r (fresh_cell class (total counts) (n + 1)) = subst (λ k. Becomes m.store blocks' r (fresh_cell class (total counts) (k + 1))) t.made change in
    let longer : length objects' ≡ n + 1 = length-append h.objects (object ∷ []) in
    let none : h.counts (suc n) ≡ 0 = counted.counted n ∙ unheld n (all_places h) t.known_places in
    let one : (raised (suc n) h).counts (suc n) ≡ 1 = raised_there (suc n) h ∙ ap (λ k. k + 1) none in
    let known = λ (refs : List ℕ) (old : All (λ q. q ≤ n) refs). All-cons (λ q. q ≤ length objects') (suc n) refs (omega (arith, longer)) (All-weaker (λ q. q ≤ n) (λ q. q ≤ length objects') (λ q b. omega (arith, longer, b)) refs old) in
    let words = λ (ws refs : List ℕ) (old : All (λ q. q ≤ n) refs) (e : ws ≡ map (place at) refs). ap (λ w. w ∷ ws) (sym (newest at n r)) ∙ ap (λ ws. at' n ∷ ws) (e ∙ same_places at n r refs old) in
    let made = ap (λ k. k + 1) t.made ∙ sym longer in
    let some = λ (k : ℕ). some_place at n r k (nat_eq k n) above (t.some k) in
    let kept : (j : ℕ) (o : Object) → slice_get objects' j ≡ Some o → Kept o.phase (place at') classes blocks' (at' j) (suc j) ((raised (suc n) h).counts (suc j)) o = λ j o e. elim (get_append h.objects object j o e) [
      | inl p ↦ subst (λ count. Kept o.phase (place at') classes blocks' (at' j) (suc j) count o)
          (sym (raised_else (suc n) (suc j) h (λ same. let below = p.0 in omega (arith, below, same))))
          (older_kept at classes m frames h t n refl class r out blocks' numbered o.phase j (h.counts (suc j)) o p.0 (λ here. subst (λ l. All (λ q. q ≤ n) l) (ap (λ (b : Bool). if b then o.strong else []) here) (known_fields at classes m frames h t j o p.1)) (t.kept j o p.1))
      | inr p ↦ subst (λ j. Kept o.phase (place at') classes blocks' (at' j) (suc j) ((raised (suc n) h).counts (suc j)) o) (sym p.0)
          (subst (λ (o : Object). Kept o.phase (place at') classes blocks' (at' n) (suc n) ((raised (suc n) h).counts (suc n)) o) (sym p.1)
          (newest_stored at classes m frames h t n refl class r out blocks' numbered counts ((raised (suc n) h).counts (suc n)) refl few one))
    ] in
    let others = others_more at classes m frames h t r out blocks' _ change object refl in
    let own = own_more at classes m frames h t r out blocks' _ change object refl in
    let places = words m.places (stacked h) (known_stacked n h t.known_places) t.places in
    let temporaries : m.temporaries + 1 ≡ suc (length h.temporaries) = (let few = t.temporaries in omega (arith, few)) in
    let names = words m.names h.names t.known_names t.names in
    let self = t.self ∙ same_place at n r h.self t.known_self in
    let waits = t.waits ∙ same_frames at n r frames t.known_frames in
    let P : ℕ → Type 0 = λ q. q ≤ length objects' in
    let weaker = λ (refs : List ℕ) (old : All (λ q. q ≤ n) refs). All-weaker (λ q. q ≤ n) P (λ q b. omega (arith, longer, b)) refs old in
    let known_rest = known_others n h t.known_places in
    let globals = all_left (λ q. q ≤ n) h.strong_globals (field_places h.objects) known_rest in
    let known_places = All-append P (suc n ∷ stacked h) (h.strong_globals ++ field_places objects') (known (stacked h) (known_stacked n h t.known_places))
    (All-append P h.strong_globals (field_places objects') (weaker h.strong_globals globals)
    (all_fields_more P h.objects object (weaker (field_places h.objects) (all_right (λ q. q ≤ n) h.strong_globals (field_places h.objects) known_rest)) (all_nils P counts.objects (omega arith)))) in
    let known_names = known h.names t.known_names in
    let known_self : h.self ≤ length objects' = (let known = t.known_self in omega (arith, longer, known)) in
    let known_frames = All-weaker (IsKnown n) (IsKnown (length objects')) (known_more n (length objects') (omega (arith, longer))) frames t.known_frames in
    let ends = ends_more classes h.objects (object ∷ []) frames t.ends in
    let strong_globals = t.strong_globals ∙ same_places at n r h.strong_globals globals in
    (at', assumption (made, some, kept, others, own, places, temporaries, names, self, waits, known_places, known_names, known_self, known_frames, ends, strong_globals))
