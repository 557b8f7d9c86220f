-- A field of an object that ends is set to nil: the machine's memory goes on standing for the objects.
use Rattle.std.proofs.Common.{◌≡◌, ℕ, zero, suc, ◌+◌, ◌<◌, ◌≤◌, ℤ, List, [], ◌∷◌, length, map, take, drop, Some, Bool, true, if◌then◌else◌, slice_get, slice_set, refl, sym, ap, ◌∙◌, subst, arith}
use Rattle.std.specs.Prelude.{All}
use Rattle.std.proofs.lemmas.List.{length-set}
use Rattle.std.proofs.lemmas.List.Elements.{All-cons, All-head, All-tail}
use Rattle.arc_spec.specs.Classes.{Class, field_order}
use Rattle.arc_spec.specs.Objects.{Object, Emptying, object_at, fields_of, with_strong_fields}
use Rattle.arc_spec.specs.HolderCounts.{Heap, ReturnFrame, Calling, Clearing, Waiter, is_there}
use Rattle.arc_cells.specs.declared.waiting.Waiting.{Waiting}
use Rattle.arc_cells.specs.declared.waiting.Waiting.TheVariants.{Clear}
use Rattle.arc_heap.specs.Blocks.{Blocks}
use Rattle.arc_cells.specs.Cells.{words, IsCell, Becomes, with_word}
use Rattle.arc_cells.specs.Fields.{name_index}
use Rattle.arc_cells.specs.Representation.{Memory, Stands, Stored, Values, Begin, Alters, Ends, IsKnown, IsEmptying, cell_of, place, waiter_words, waiting, with_store, with_frames}
use Rattle.arc_steps.proofs.RepresentationKept.{block_of, kept_of, set_here, changed_stands, known_fields}
use Rattle.arc_steps.proofs.EndFramesKept.{ends_else}
use Rattle.arc_steps.proofs.ObjectEndRepresented.{reframed_stands}
use Rattle.arc_steps.proofs.ObjectFieldWords.{slot_in}

-- ---- lists of which one element is another now

drop_set : (n i slot v : ℕ) (l : List ℕ) → slot ≡ n + i → drop n (slice_set l slot v) ≡ slice_set (drop n l) i v
drop_set zero i slot v l e = let same : slot ≡ i = omega (arith, e) in ap (λ s. slice_set l s v) same
drop_set (suc n) i zero v l e = absurd (omega (arith, e))
drop_set (suc n) i (suc slot) v [] e = refl
drop_set (suc n) i (suc slot) v (x ∷ l) e = drop_set n i slot v l (omega (arith, e))

values_set : (vs : List ℤ) (ws : List ℕ) (slot v : ℕ) → length vs ≤ slot → Values vs ws → Values vs (slice_set ws slot v)
values_set [] ws slot v past h = h
values_set (x ∷ vs) [] slot v past h = absurd h
values_set (x ∷ vs) (w ∷ ws) zero v past h = absurd (omega (arith, past))
values_set (x ∷ vs) (w ∷ ws) (suc slot) v past h = (h.0, values_set vs ws slot v (omega (arith, past)) h.1)

begin_set : (names ws : List ℕ) (i v : ℕ) → Begin names ws → Begin (slice_set names i v) (slice_set ws i v)
begin_set [] ws i v h = refl
begin_set (n ∷ names) [] i v h = absurd (cc)
begin_set (n ∷ names) (w ∷ ws) zero v h = let tail : take (length names) ws ≡ names = cc in ap (λ (l : List ℕ). v ∷ l) tail
begin_set (n ∷ names) (w ∷ ws) (suc i) v h =
    let head : w ≡ n = cc in
    let tail : take (length names) ws ≡ names = cc in
    let rest = begin_set names ws i v tail in
    ap (λ (x : ℕ). x ∷ take (length (slice_set names i v)) (slice_set ws i v)) head ∙ ap (λ (l : List ℕ). n ∷ l) rest

map_set : (f : ℕ → ℕ) (l : List ℕ) (i v : ℕ) → map f (slice_set l i v) ≡ slice_set (map f l) i (f v)
map_set f [] i v = refl
map_set f (x ∷ l) zero v = refl
map_set f (x ∷ l) (suc i) v = ap (λ (l : List ℕ). f x ∷ l) (map_set f l i v)

all_set : (P : ℕ → Type 0) (l : List ℕ) (i v : ℕ) → P v → All P l → All P (slice_set l i v)
all_set P [] i v is h = h
all_set P (x ∷ l) zero v is h = All-cons P v l is (All-tail P x l h)
all_set P (x ∷ l) (suc i) v is h = All-cons P x (slice_set l i v) (All-head P x l h) (all_set P l i v is (All-tail P x l h))

drop_rest : (l : List ℕ) (n x : ℕ) (rest : List ℕ) → x ∷ rest ≡ drop n l → rest ≡ drop (suc n) l
drop_rest [] zero x rest e = absurd (cc)
drop_rest [] (suc n) x rest e = absurd (cc)
drop_rest (y ∷ l) zero x rest e = let same : rest ≡ l = cc in same
drop_rest (y ∷ l) (suc n) x rest e = drop_rest l n x rest e

set_twice : (fs : List Waiting) (a b : Waiting) → slice_set (slice_set fs 0 a) 0 b ≡ slice_set fs 0 b
set_twice [] a b = refl
set_twice (f ∷ fs) a b = refl

-- ---- a field that names nothing any more

-- an object of which a field names nothing any more
abbrev pub unnamed : Object → (index : ℕ) → Object
unnamed o index = with_strong_fields o (slice_set o.strong index 0)

stored_set : (at : ℕ → ℕ) (classes : List Class) (blocks blocks' : Blocks) (block number count count' : ℕ) (o : Object) → (h : Stored (place at) classes blocks block number count o) → (index slot : ℕ) → slot ≡ length o.fields + index
    → Becomes blocks blocks' block (with_word (cell_of o count number h.fields) slot 0) → count ≡ count' → Stored (place at) classes blocks' block number count' (unnamed o index)
stored_set at classes blocks blocks' block number count count' o h index slot is change same = record {
  fields = slice_set h.fields slot 0;
  block = change.here ∙ ap (λ n. Some (words (cell_of (unnamed o index) n number (slice_set h.fields slot 0)))) same;
  values = values_set o.fields h.fields slot 0 (omega (arith, is)) h.values;
  names = subst (λ l. Begin (map (place at) (slice_set o.strong index 0)) l) (sym (drop_set (length o.fields) index slot 0 h.fields is))
      (subst (λ l. Begin l (slice_set (drop (length o.fields) h.fields) index 0)) (sym (map_set (place at) o.strong index 0)) (begin_set (map (place at) o.strong) (drop (length o.fields) h.fields) index 0 h.names));
  all = (h.all.0, length-set o.strong index 0 ∙ h.all.1, (let many = length-set o.strong index 0 in let most = h.all.2 in omega (arith, many, most)));
}

known_set : (n : ℕ) (o : Object) (index : ℕ) → is_there o.phase ≡ true → All (λ r. r ≤ n) (fields_of o) → All (λ r. r ≤ n) (fields_of (unnamed o index))
known_set n o index here known =
    let P : ℕ → Type 0 = λ r. r ≤ n in
    let was : fields_of o ≡ o.strong = ap (λ (b : Bool). if b then o.strong else []) here in
    let is : fields_of (unnamed o index) ≡ slice_set o.strong index 0 = ap (λ (b : Bool). if b then slice_set o.strong index 0 else []) here in
    subst (λ l. All P l) (sym is) (all_set P o.strong index 0 (omega arith) (subst (λ l. All P l) was known))

-- the next field names nothing any more, and one field less is left
module _ {foreign : Blocks} (at : ℕ → ℕ) (classes : List Class) (m : Memory) (h : Heap) (w : Waiter) (back k index : ℕ) (fields : List ℕ) (others : List ReturnFrame) (t : Stands foreign at classes m (Clearing back w (suc k) (index ∷ fields) ∷ others) h)
    (o : Object) (found : slice_get h.objects k ≡ Some o) (emptying : o.phase ≡ Emptying) (slot : ℕ) (is_slot : name_index (slice_get classes o.class) index ≡ Some slot) where
  pub cleared_stands : (word : ℕ) → word ≡ at k → (mid : Memory) → Alters m mid word (λ c. with_word c slot 0) → (counts' : ℕ → ℕ) → ((j : ℕ) → counts' (suc j) ≡ h.counts (suc j))
      → (m' : Memory) → m' ≡ with_frames mid (slice_set mid.frames 0 (Clear back (waiter_words at w) word (length fields)))
      → Stands foreign at classes m' (Clearing back w (suc k) fields ∷ others) (record h { objects = slice_set h.objects k (unnamed o index); counts = counts' })
  cleared_stands word is mid alters counts' same_counts m' now =
      let n = length h.objects in
      let frame : ReturnFrame = Clearing back w (suc k) (index ∷ fields) in
      let call : ReturnFrame = Calling back w in
      let called = waiting at call in
      let known = All-head (IsKnown n) frame others t.known_frames in
      let unended = t.ends.1 in
      let ends = t.ends.2 in
      let m1 = with_frames m (slice_set m.frames 0 called) in
      let t1 = reframed_stands at classes m h frame call others t refl known.0 ends called refl m1 refl in
      let here : is_there o.phase ≡ true = ap is_there emptying in
      let stored = block_of at classes m (frame ∷ others) h t k o found here in
      let cell = cell_of o (h.counts (suc k)) (suc k) stored.fields in
      let above : 0 < word = subst (λ w. 0 < w) (sym is) (t.some k) in
      let change : Becomes m.store mid.store (at k) (with_word cell slot 0) =
      subst (λ w. Becomes m.store mid.store w (with_word cell slot 0)) is (alters.block above cell (subst (λ w. IsCell m.store w cell) (sym is) stored.block)) in
      let x = unnamed o index in
      let s = slot_in (slice_get classes o.class) index slot is_slot in
      let all = stored.all in
      let slot_is : slot ≡ length o.fields + index = s.0 ∙ ap (λ n. n + index) (sym all.0) in
      let kept = kept_of x.phase (place at) classes mid.store (at k) (suc k) (counts' (suc k)) x here
      (stored_set at classes m.store mid.store (at k) (suc k) (h.counts (suc k)) (counts' (suc k)) o stored index slot slot_is change (sym (same_counts k))) in
      let ends_now : Ends classes (slice_set h.objects k x) others = ends_else classes h.objects k x others unended ends in
      let t2 = changed_stands at classes m1 (call ∷ others) h t1 k o x counts' found here (cell, stored.block, refl) mid.store _ change (λ gone. absurd (cc)) (λ j other. same_counts j) kept ends_now
      (known_set n o index here (known_fields at classes m (frame ∷ others) h t k o found)) in
      let h2 : Heap = record h { objects = slice_set h.objects k x; counts = counts' } in
      let same : length h.objects ≡ length h2.objects = sym (length-set h.objects k x) in
      let clearing : ReturnFrame = Clearing back w (suc k) fields in
      let clear = waiting at clearing in
      let was : IsEmptying classes (index ∷ fields) (Some o) = subst (λ f. IsEmptying classes (index ∷ fields) f) found t.ends.0 in
      let left : IsEmptying classes fields (object_at h2.objects (suc k)) =
      subst (λ f. IsEmptying classes fields f) (sym (set_here h.objects k x o found)) (emptying, suc was.1, drop_rest (field_order classes o.class) was.1 index fields was.2) in
      let t3 = reframed_stands at classes (with_store m1 mid.store) h2 call clearing others t2 refl (subst (λ n. (w.self ≤ n) × (suc k ≤ n)) same known) (left, unended, ends_now) clear refl
      (with_frames (with_store m1 mid.store) (slice_set (slice_set m.frames 0 called) 0 clear)) refl in
      let spelled : Clear back (waiter_words at w) word (length fields) ≡ clear = ap (λ w'. Clear back (waiter_words at w) w' (length fields)) is in
      let memory : m' ≡ with_frames (with_store m1 mid.store) (slice_set (slice_set m.frames 0 called) 0 clear) =
      now ∙ ap (λ (mm : Memory). with_frames mm (slice_set mm.frames 0 (Clear back (waiter_words at w) word (length fields)))) alters.others
      ∙ ap (λ f. with_frames (with_store m mid.store) (slice_set m.frames 0 f)) spelled ∙ ap (λ fs. with_frames (with_store m mid.store) fs) (sym (set_twice m.frames called clear)) in
      subst (λ (mm : Memory). Stands foreign at classes mm (clearing ∷ others) h2) (sym memory) t3
