-- One object is changed, or the places, references or global variables are: the machine's memory goes on standing for the objects.
use Rattle.std.proofs.Common.{◌≡◌, ◌≢◌, ◌⊎◌, inl, inr, ℕ, zero, suc, ◌+◌, ◌-◌, ◌≤◌, ℤ, List, [], ◌∷◌, ◌++◌, length, Option, Some, None, Bool, true, false, refl, sym, ap, ◌∙◌, subst, arith}
use Rattle.std.specs.Prelude.{All, map, slice_get, slice_set}
use Rattle.std.proofs.lemmas.Bool.Decides.{nat_tests}
use Rattle.std.proofs.lemmas.Grind.{common_steps}
use Rattle.std.proofs.lemmas.List.{length-set}
use Rattle.std.proofs.lemmas.List.Elements.{All-nil, All-cons, All-head, All-tail, All-append}
use Rattle.arc_spec.specs.Classes.{Class}
use Rattle.arc_spec.specs.Objects.{Object, Phase, Live, Dying, Emptying, Gone, fields_of, field_places}
use Rattle.arc_spec.specs.HolderCounts.{Heap, ReturnFrame, stacked, all_places, is_there, with_globals, with_strong_globals, raised, lowered}
use Rattle.arc_spec.specs.Statics.{Statics, with_numbers}
use Rattle.arc_heap.specs.Blocks.{Blocks}
use Rattle.arc_cells.specs.Cells.{Cell, words, IsCell, Sets, Becomes, with_count}
use Rattle.arc_cells.specs.Representation.{Memory, Stored, Kept, HasBlock, Stands, Ends, IsKnown, cell_of, place, waiting, waiting_places, with_store, with_names}

same_or_other : (i j : ℕ) → (i ≡ j) ⊎ (i ≢ j)
same_or_other i j = grind arith

-- ---- lists of objects of which one is another now

-- the object with this index is x, and the others are the same
abbrev pub Only : (old new : List Object) → (k : ℕ) → Object → Type 0
Only old new k x = (j : ℕ) (o : Object) → slice_get new j ≡ Some o → ((j ≡ k) × (o ≡ x)) ⊎ ((j ≢ k) × (slice_get old j ≡ Some o))

pub only_set : (xs : List Object) (k : ℕ) (x : Object) → Only xs (slice_set xs k x) k x
only_set [] k x j o e = absurd (cc)
only_set (y ∷ xs) zero x zero o e = inl (refl, cc)
only_set (y ∷ xs) zero x (suc j) o e = inr ((λ n. omega arith), e)
only_set (y ∷ xs) (suc k) x zero o e = inr ((λ n. omega arith), e)
only_set (y ∷ xs) (suc k) x (suc j) o e =
    elim (only_set xs k x j o e) [ inl p ↦ inl (ap suc p.0, p.1) | inr p ↦ inr ((λ n. p.0 (omega arith)), p.1) ]

pub only_same : (xs : List Object) (k : ℕ) (x : Object) → slice_get xs k ≡ Some x → Only xs xs k x
only_same xs k x e j o f = elim (same_or_other j k) [
  | inl same ↦ inl (same, (let both : Some o ≡ Some x = sym f ∙ ap (slice_get xs) same ∙ e in cc))
  | inr other ↦ inr (other, f)
]

-- all others are there still
abbrev pub Stay : (old new : List Object) → (k : ℕ) → Type 0
Stay old new k = (j : ℕ) (o : Object) → j ≢ k → slice_get old j ≡ Some o → slice_get new j ≡ Some o

pub stay_set : (xs : List Object) (k : ℕ) (x : Object) → Stay xs (slice_set xs k x) k
stay_set [] k x j o other e = absurd (cc)
stay_set (y ∷ xs) zero x zero o other e = absurd (other refl)
stay_set (y ∷ xs) zero x (suc j) o other e = e
stay_set (y ∷ xs) (suc k) x zero o other e = e
stay_set (y ∷ xs) (suc k) x (suc j) o other e = stay_set xs k x j o (λ same. other (ap suc same)) e

pub set_here : (xs : List Object) (k : ℕ) (x y : Object) → slice_get xs k ≡ Some y → slice_get (slice_set xs k x) k ≡ Some x
set_here [] k x y e = cc
set_here (z ∷ xs) zero x y e = refl
set_here (z ∷ xs) (suc k) x y e = set_here xs k x y e

-- ---- objects and their blocks

-- no blocks are out but those of the objects and the foreign ones
pub record Owned (foreign blocks : Blocks) (at : ℕ → ℕ) (objects : List Object) : Type 0 where
  pub others : (word : ℕ) → ((k : ℕ) → HasBlock objects k → at k ≢ word) → blocks word ≡ foreign word
  pub own : (k : ℕ) → HasBlock objects k → foreign (at k) ≡ None

-- every object stands in its block
abbrev pub KeptAll : List Class → Blocks → (at : ℕ → ℕ) → List Object → (counts : ℕ → ℕ) → Type 0
KeptAll classes blocks at objects counts = (k : ℕ) (o : Object) → slice_get objects k ≡ Some o → Kept o.phase (place at) classes blocks (at k) (suc k) (counts (suc k)) o

pub stored_of : (phase : Phase) (f : ℕ → ℕ) (classes : List Class) (blocks : Blocks) (at number count : ℕ) (o : Object) → is_there phase ≡ true → Kept phase f classes blocks at number count o → Stored f classes blocks at number count o
stored_of Live f classes blocks at number count o e h = h
stored_of Dying f classes blocks at number count o e h = h
stored_of Emptying f classes blocks at number count o e h = h
stored_of Gone f classes blocks at number count o e h = absurd (cc)

pub kept_of : (phase : Phase) (f : ℕ → ℕ) (classes : List Class) (blocks : Blocks) (at number count : ℕ) (o : Object) → is_there phase ≡ true → Stored f classes blocks at number count o → Kept phase f classes blocks at number count o
kept_of Live f classes blocks at number count o e h = h
kept_of Dying f classes blocks at number count o e h = h
kept_of Emptying f classes blocks at number count o e h = h
kept_of Gone f classes blocks at number count o e h = absurd (cc)

module _ (classes : List Class) (blocks blocks' : Blocks) (at : ℕ → ℕ) (k : ℕ) (cell : Cell) (now : Option (List ℕ)) (here : IsCell blocks (at k) cell) (number : cell.number ≡ suc k) (sets : Sets blocks blocks' (at k) now) where
  -- another object's block is another block, since a block has its object's number
  apart : (j : ℕ) (c : Cell) → IsCell blocks (at j) c → c.number ≡ suc j → j ≢ k → at j ≢ at k
  apart j c e is other same =
      let both : Some (words c) ≡ Some (words cell) = sym e ∙ ap blocks same ∙ here in
      let numbers : c.number ≡ cell.number = cc in
      other (omega (arith, numbers, is, number))

  still_stored : (j count : ℕ) (o : Object) → j ≢ k → Stored (place at) classes blocks (at j) (suc j) count o → Stored (place at) classes blocks' (at j) (suc j) count o
  still_stored j count o other h = record {
    fields = h.fields;
    block = sets.others (at j) (apart j (cell_of o count (suc j) h.fields) h.block refl other) ∙ h.block;
    values = h.values;
    names = h.names;
    all = h.all;
  }

  still : (phase : Phase) (j count : ℕ) (o : Object) → j ≢ k → Kept phase (place at) classes blocks (at j) (suc j) count o → Kept phase (place at) classes blocks' (at j) (suc j) count o
  still Live j count o other h = still_stored j count o other h
  still Dying j count o other h = still_stored j count o other h
  still Emptying j count o other h = still_stored j count o other h
  still Gone j count o other h = h

  -- one block is changed, as one object is
  pub kept_set : (objects objects' : List Object) (counts counts' : ℕ → ℕ) (x : Object) → Only objects objects' k x → ((j : ℕ) → j ≢ k → counts' (suc j) ≡ counts (suc j))
      → KeptAll classes blocks at objects counts → Kept x.phase (place at) classes blocks' (at k) (suc k) (counts' (suc k)) x → KeptAll classes blocks' at objects' counts'
  kept_set objects objects' counts counts' x only same all there j o e = elim (only j o e) [
    | inl p ↦ subst (λ j. Kept o.phase (place at) classes blocks' (at j) (suc j) (counts' (suc j)) o) (sym p.0) (subst (λ o. Kept o.phase (place at) classes blocks' (at k) (suc k) (counts' (suc k)) o) (sym p.1) there)
    | inr p ↦ subst (λ count. Kept o.phase (place at) classes blocks' (at j) (suc j) count o) (sym (same j p.0)) (still o.phase j (counts (suc j)) o p.0 (all j o p.1))
  ]

module _ {foreign blocks : Blocks} (blocks' : Blocks) (at : ℕ → ℕ) (k : ℕ) (now : Option (List ℕ)) (sets : Sets blocks blocks' (at k) now) (objects objects' : List Object) (o x : Object) (only : Only objects objects' k x)
    (stay : Stay objects objects' k) (there : HasBlock objects k) (found : slice_get objects' k ≡ Some x) (freed : is_there x.phase ≡ false → now ≡ None) (owned : Owned foreign blocks at objects) where
  own_set : (j : ℕ) → HasBlock objects' j → foreign (at j) ≡ None
  own_set j h = elim (only j h.0 h.1) [
    | inl p ↦ subst (λ j. foreign (at j) ≡ None) (sym p.0) (owned.own k there)
    | inr p ↦ owned.own j (h.0, p.1, h.2)
  ]

  -- where another object has its block none is changed
  others_else : (word : ℕ) → ((j : ℕ) → HasBlock objects' j → at j ≢ word) → at k ≢ word → blocks' word ≡ foreign word
  others_else word none other = sets.others word (λ same. other (sym same)) ∙ owned.others word (λ j h. elim (same_or_other j k) [
    | inl same ↦ (λ is. other (ap at (sym same) ∙ is))
    | inr differs ↦ none j (h.0, stay j h.0 differs h.1, h.2)
  ])

  -- and where this one has its block it has it still, or none is
  others_here : (word : ℕ) → ((j : ℕ) → HasBlock objects' j → at j ≢ word) → at k ≡ word → (b : Bool) → is_there x.phase ≡ b → blocks' word ≡ foreign word
  others_here word none same true here = absurd (none k (x, found, here) same)
  others_here word none same false gone = ap blocks' (sym same) ∙ sets.here ∙ freed gone ∙ sym (owned.own k there) ∙ ap foreign same

  -- one block is changed, as one object is, or is given back with it
  pub owned_set : Owned foreign blocks' at objects'
  owned_set = record {
    others = λ word none. elim (same_or_other (at k) word) [
      | inl same ↦ others_here word none same _ refl
      | inr other ↦ others_else word none other
    ];
    own = own_set;
  }

-- the block has this number
abbrev pub IsNumbered : Blocks → (place number : ℕ) → Type 0
IsNumbered blocks place number = (c : Cell) × IsCell blocks place c × (c.number ≡ number)

-- ---- counts

pub raised_there : (o : ℕ) (h : Heap) → (raised o h).counts o ≡ h.counts o + 1
raised_there o h = grind (arith, nat_tests, common_steps)

pub raised_else : (o k : ℕ) (h : Heap) → k ≢ o → (raised o h).counts k ≡ h.counts k
raised_else o k h other = grind (arith, nat_tests, common_steps)

pub lowered_there : (o : ℕ) (h : Heap) → (lowered o h).counts o ≡ h.counts o - 1
lowered_there o h = grind (arith, nat_tests, common_steps)

pub lowered_else : (o k : ℕ) (h : Heap) → k ≢ o → (lowered o h).counts k ≡ h.counts k
lowered_else o k h other = grind (arith, nat_tests, common_steps)

-- the same object with another count stands in the block that has this count
pub stored_counted : (f : ℕ → ℕ) (classes : List Class) (blocks blocks' : Blocks) (at number count count' : ℕ) (o : Object) → (h : Stored f classes blocks at number count o)
    → Becomes blocks blocks' at (with_count (cell_of o count number h.fields) count') → Stored f classes blocks' at number count' o
stored_counted f classes blocks blocks' at number count count' o h change = record { fields = h.fields; block = change.here; values = h.values; names = h.names; all = h.all }

-- ---- what fields name

-- what holds of two lists holds of the first, and of the second
pub all_left : (P : ℕ → Type 0) (xs ys : List ℕ) → All P (xs ++ ys) → All P xs
all_left P [] ys h = All-nil P
all_left P (x ∷ xs) ys h = All-cons P x xs (All-head P x (xs ++ ys) h) (all_left P xs ys (All-tail P x (xs ++ ys) h))

pub all_right : (P : ℕ → Type 0) (xs ys : List ℕ) → All P (xs ++ ys) → All P ys
all_right P [] ys h = h
all_right P (x ∷ xs) ys h = all_right P xs ys (All-tail P x (xs ++ ys) h)

-- one object is another now
pub all_fields_set : (P : ℕ → Type 0) (xs : List Object) (k : ℕ) (x : Object) → All P (field_places xs) → All P (fields_of x) → All P (field_places (slice_set xs k x))
all_fields_set P [] k x h n = h
all_fields_set P (y ∷ xs) zero x h n = All-append P (fields_of x) (field_places xs) n (all_right P (fields_of y) (field_places xs) h)
all_fields_set P (y ∷ xs) (suc k) x h n =
    All-append P (fields_of y) (field_places (slice_set xs k x)) (all_left P (fields_of y) (field_places xs) h) (all_fields_set P xs k x (all_right P (fields_of y) (field_places xs) h) n)

-- what the fields of one object name
pub all_fields_at : (P : ℕ → Type 0) (xs : List Object) (k : ℕ) (o : Object) → slice_get xs k ≡ Some o → All P (field_places xs) → All P (fields_of o)
all_fields_at P [] k o e h = absurd (cc)
all_fields_at P (y ∷ xs) zero o e h = let same : y ≡ o = cc in subst (λ o. All P (fields_of o)) same (all_left P (fields_of y) (field_places xs) h)
all_fields_at P (y ∷ xs) (suc k) o e h = all_fields_at P xs k o e (all_right P (fields_of y) (field_places xs) h)

-- ---- memories

-- a machine in which functions have what they have in this one
abbrev pub functions_of : Memory → Memory → Memory
functions_of f m = record m { places = f.places; temporaries = f.temporaries; variables = f.variables; names = f.names; self = f.self; frames = f.frames }

-- and a state
abbrev pub functions_in : Heap → Heap → Heap
functions_in f h = record h { temporaries = f.temporaries; variables = f.variables; self = f.self; places = f.places; names = f.names }

abbrev pub with_counts : Heap → (ℕ → ℕ) → Heap
with_counts h counts = record h { counts = counts }

-- the places and the references of functions, and their words
pub record Spelled (at : ℕ → ℕ) (classes : List Class) (m : Memory) (frames : List ReturnFrame) (h : Heap) : Type 0 where
  pub places : m.places ≡ map (place at) (stacked h)
  pub temporaries : m.temporaries ≡ length h.temporaries
  pub variables : m.variables ≡ length h.variables
  pub names : m.names ≡ map (place at) h.names
  pub self : m.self ≡ place at h.self
  pub waits : m.frames ≡ map (waiting at) frames
  pub all : length h.places ≡ waiting_places frames
  pub known_places : All (λ r. r ≤ length h.objects) (stacked h)
  pub known_names : All (λ r. r ≤ length h.objects) h.names
  pub known_self : h.self ≤ length h.objects
  pub known_frames : All (IsKnown (length h.objects)) frames
  pub ends : Ends classes h.objects frames

-- what isn't a place of functions
abbrev pub others_named : Heap → List ℕ
others_named h = h.strong_globals ++ field_places h.objects

pub known_stacked : (n : ℕ) (h : Heap) → All (λ r. r ≤ n) (all_places h) → All (λ r. r ≤ n) (stacked h)
known_stacked n h known = all_left (λ r. r ≤ n) (stacked h) (others_named h) known

pub known_others : (n : ℕ) (h : Heap) → All (λ r. r ≤ n) (all_places h) → All (λ r. r ≤ n) (others_named h)
known_others n h known = all_right (λ r. r ≤ n) (stacked h) (others_named h) known

-- the same blocks and objects, with these places and references
pub spelled_stands : {foreign : Blocks} (at : ℕ → ℕ) (classes : List Class) (m m' : Memory) (frames frames' : List ReturnFrame) (h h' : Heap) → Stands foreign at classes m frames h → Spelled at classes (functions_of m' m) frames' (functions_in h' h)
    → Stands foreign at classes (functions_of m' m) frames' (functions_in h' h)
spelled_stands at classes m m' frames frames' h h' t is =
    let known_places = All-append (λ r. r ≤ length h.objects) (stacked h') (others_named h) is.known_places (known_others (length h.objects) h t.known_places) in
    assumption known_places

module _ {foreign : Blocks} (at : ℕ → ℕ) (classes : List Class) (m : Memory) (frames : List ReturnFrame) (h : Heap) (t : Stands foreign at classes m frames h) where
  abbrev pub owned : Owned foreign m.store at h.objects
  owned = record { others = t.others; own = t.own }

  -- other blocks and counts, and other things that are kept from the start to the end
  stored_stands : (blocks' : Blocks) (counts' : ℕ → ℕ) (statics statics' : Statics) → KeptAll classes blocks' at h.objects counts' → Owned foreign blocks' at h.objects → statics ≡ statics'
      → Stands foreign at classes (record m { store = blocks'; statics = statics }) frames (record h { counts = counts'; statics = statics' })
  stored_stands blocks' counts' statics statics' kept own is = let others = own.others in let owns = own.own in assumption (others, owns)

  -- other numbers in the variables of the whole program
  pub globals_stands : (words globals : List ℤ) → words ≡ globals → Stands foreign at classes (record m { statics = with_numbers m.statics words }) frames (with_globals h globals)
  globals_stands words globals is = stored_stands m.store h.counts (with_numbers m.statics words) (with_numbers h.statics globals) t.kept owned (ap (λ s. with_numbers s words) t.statics ∙ ap (with_numbers h.statics) is)

  -- the count of nil says nothing
  pub recounted_nil : (counts' : ℕ → ℕ) → ((j : ℕ) → counts' (suc j) ≡ h.counts (suc j)) → Stands foreign at classes m frames (with_counts h counts')
  recounted_nil counts' same = stored_stands m.store counts' m.statics h.statics (λ k o e. subst (λ count. Kept o.phase (place at) classes m.store (at k) (suc k) count o) (sym (same k)) (t.kept k o e)) owned t.statics

  pub raised_nil : Stands foreign at classes m frames (raised 0 h)
  raised_nil = recounted_nil (raised 0 h).counts (λ j. raised_else 0 (suc j) h (λ e. omega arith))

  pub lowered_nil : Stands foreign at classes m frames (lowered 0 h)
  lowered_nil = recounted_nil (lowered 0 h).counts (λ j. lowered_else 0 (suc j) h (λ e. omega arith))

  module _ (k : ℕ) (o : Object) (there : slice_get h.objects k ≡ Some o) (is_here : is_there o.phase ≡ true) where
    pub block_of : Stored (place at) classes m.store (at k) (suc k) (h.counts (suc k)) o
    block_of = stored_of o.phase (place at) classes m.store (at k) (suc k) (h.counts (suc k)) o is_here (t.kept k o there)

    -- so many places are counted to name an object
    recounted : (counts' : ℕ → ℕ) (blocks' : Blocks) → ((j : ℕ) → j ≢ k → counts' (suc j) ≡ h.counts (suc j))
        → Becomes m.store blocks' (at k) (with_count (cell_of o (h.counts (suc k)) (suc k) block_of.fields) (counts' (suc k)))
        → Stands foreign at classes (with_store m blocks') frames (with_counts h counts')
    recounted counts' blocks' same change = stored_stands blocks' counts' m.statics h.statics
        (kept_set classes m.store blocks' at k (cell_of o (h.counts (suc k)) (suc k) block_of.fields) _ block_of.block refl change h.objects h.objects h.counts counts' o
        (only_same h.objects k o there) same t.kept
        (kept_of o.phase (place at) classes blocks' (at k) (suc k) (counts' (suc k)) o is_here (stored_counted (place at) classes m.store blocks' (at k) (suc k) (h.counts (suc k)) (counts' (suc k)) o block_of change)))
        (owned_set blocks' at k _ change h.objects h.objects o o (only_same h.objects k o there) (λ j y other e. e) (o, there, is_here) there (λ gone. absurd (cc)) owned) t.statics

    pub raised_stands : (blocks' : Blocks) → ((c : Cell) → IsCell m.store (at k) c → Becomes m.store blocks' (at k) (with_count c (c.count + 1)))
        → Stands foreign at classes (with_store m blocks') frames (raised (suc k) h)
    raised_stands blocks' change =
        let cell = cell_of o (h.counts (suc k)) (suc k) block_of.fields in
        let count : h.counts (suc k) + 1 ≡ (raised (suc k) h).counts (suc k) = sym (raised_there (suc k) h) in
        recounted (raised (suc k) h).counts blocks' (λ j other. raised_else (suc k) (suc j) h (λ same. other (omega arith)))
        (subst (λ n. Becomes m.store blocks' (at k) (with_count cell n)) count (change cell block_of.block))

    pub lowered_stands : (blocks' : Blocks) → ((c : Cell) → IsCell m.store (at k) c → Becomes m.store blocks' (at k) (with_count c (c.count - 1)))
        → Stands foreign at classes (with_store m blocks') frames (lowered (suc k) h)
    lowered_stands blocks' change =
        let cell = cell_of o (h.counts (suc k)) (suc k) block_of.fields in
        let count : h.counts (suc k) - 1 ≡ (lowered (suc k) h).counts (suc k) = sym (lowered_there (suc k) h) in
        recounted (lowered (suc k) h).counts blocks' (λ j other. lowered_else (suc k) (suc j) h (λ same. other (omega arith)))
        (subst (λ n. Becomes m.store blocks' (at k) (with_count cell n)) count (change cell block_of.block))

  -- other places and references of the running function, and other words for them
  pub placed_stands : (ts vs ns words names : List ℕ) (a b : ℕ) → words ≡ map (place at) ((ts ++ vs) ++ h.places) → a ≡ length ts → b ≡ length vs → names ≡ map (place at) ns
      → All (λ r. r ≤ length h.objects) ((ts ++ vs) ++ h.places) → All (λ r. r ≤ length h.objects) ns
      → Stands foreign at classes (record m { places = words; temporaries = a; variables = b; names = names }) frames (record h { temporaries = ts; variables = vs; names = ns })
  placed_stands ts vs ns words names a b is few fewer named known known_names =
      spelled_stands at classes m (record m { places = words; temporaries = a; variables = b; names = names }) frames frames h (record h { temporaries = ts; variables = vs; names = ns }) t (record {
        places = is;
        temporaries = few;
        variables = fewer;
        names = named;
        self = t.self;
        waits = t.waits;
        all = t.all;
        known_places = known;
        known_names = known_names;
        known_self = t.known_self;
        known_frames = t.known_frames;
        ends = t.ends;
      })

  -- other references
  pub named_stands : (ns names : List ℕ) → names ≡ map (place at) ns → All (λ r. r ≤ length h.objects) ns → Stands foreign at classes (with_names m names) frames (record h { names = ns })
  named_stands ns names is known = placed_stands h.temporaries h.variables ns m.places names m.temporaries m.variables t.places t.temporaries t.variables is (known_stacked (length h.objects) h t.known_places) known

  -- other words in the variables of the whole program that name objects
  pub strong_globals_stands : (words names : List ℕ) → words ≡ map (place at) names → All (λ r. r ≤ length h.objects) names → Stands foreign at classes (record m { strong_globals = words }) frames (with_strong_globals h names)
  strong_globals_stands words names is known =
      let n = length h.objects in
      let rest = all_right (λ r. r ≤ n) h.strong_globals (field_places h.objects) (known_others n h t.known_places) in
      let known_places = All-append (λ r. r ≤ n) (stacked h) (names ++ field_places h.objects) (known_stacked n h t.known_places) (All-append (λ r. r ≤ n) names (field_places h.objects) known rest) in
      assumption (is, known_places)

  -- one object is another now, and counted otherwise
  pub changed_stands : (k : ℕ) (o x : Object) (counts' : ℕ → ℕ) → slice_get h.objects k ≡ Some o → is_there o.phase ≡ true → (number : IsNumbered m.store (at k) (suc k)) (blocks' : Blocks) (now : Option (List ℕ)) → Sets m.store blocks' (at k) now
      → (is_there x.phase ≡ false → now ≡ None)
      → ((j : ℕ) → j ≢ k → counts' (suc j) ≡ h.counts (suc j)) → Kept x.phase (place at) classes blocks' (at k) (suc k) (counts' (suc k)) x → Ends classes (slice_set h.objects k x) frames → All (λ r. r ≤ length h.objects) (fields_of x)
      → Stands foreign at classes (with_store m blocks') frames (record h { objects = slice_set h.objects k x; counts = counts' })
  changed_stands k o x counts' there here number blocks' now sets freed else_same kept ends known =
      let n = length h.objects in
      let same : length h.objects ≡ length (slice_set h.objects k x) = sym (length-set h.objects k x) in
      let made = t.made ∙ same in
      let kept_all = kept_set classes m.store blocks' at k number.0 now number.1 number.2 sets h.objects (slice_set h.objects k x) h.counts counts' x
      (only_set h.objects k x) else_same t.kept kept in
      let owned_now = owned_set blocks' at k now sets h.objects (slice_set h.objects k x) o x (only_set h.objects k x) (stay_set h.objects k x) (o, there, here) (set_here h.objects k x o there) freed owned in
      let others = owned_now.others in
      let own = owned_now.own in
      let known_places = subst (λ n. All (λ r. r ≤ n) (stacked h ++ (h.strong_globals ++ field_places (slice_set h.objects k x)))) same
      (All-append (λ r. r ≤ n) (stacked h) (h.strong_globals ++ field_places (slice_set h.objects k x)) (known_stacked n h t.known_places)
      (All-append (λ r. r ≤ n) h.strong_globals (field_places (slice_set h.objects k x)) (all_left (λ r. r ≤ n) h.strong_globals (field_places h.objects) (known_others n h t.known_places))
      (all_fields_set (λ r. r ≤ n) h.objects k x (all_right (λ r. r ≤ n) h.strong_globals (field_places h.objects) (known_others n h t.known_places)) known))) in
      let known_names = subst (λ n. All (λ r. r ≤ n) h.names) same t.known_names in
      let known_self = subst (λ n. h.self ≤ n) same t.known_self in
      let known_frames = subst (λ n. All (IsKnown n) frames) same t.known_frames in
      assumption (made, kept_all, others, own, known_places, known_names, known_self, known_frames)

  -- what the fields of an object name
  pub known_fields : (k : ℕ) (o : Object) → slice_get h.objects k ≡ Some o → All (λ r. r ≤ length h.objects) (fields_of o)
  known_fields k o there =
      let n = length h.objects in
      all_fields_at (λ r. r ≤ n) h.objects k o there (all_right (λ r. r ≤ n) h.strong_globals (field_places h.objects) (known_others n h t.known_places))
