-- How many places name an object, and that each step keeps the counts right, what places name there, and the objects as they are whose ends are running.
use Rattle.std.proofs.Common.{◌≡◌, ℕ, suc, ◌<◌, true, false, ◌&&◌, nat_eq, if◌then◌else◌, List, ◌∷◌, length, Option, Some, None, slice_get, slice_set, refl, sym, ◌∙◌, subst, arith, zero, ◌+◌, ◌-◌, ◌≤◌, [], ◌++◌, drop, ap, not, nat_lt}
use Rattle.std.proofs.lemmas.Bool.Decides.{nat_tests}
use Rattle.std.proofs.lemmas.List.{length-set, length-replicate, take-append-drop}
use Rattle.std.proofs.lemmas.Option.{slice_get_within}
use Rattle.arc_spec.specs.Classes.{Class, strong_count, lesser, numbers_from, order_of_fields, field_order}
use Rattle.arc_spec.specs.Objects.{Object, Live, Dying, Gone, object_at, with_object, in_phase, with_strong_fields, is_live, is_there, fields_of, Emptying, nils, names, field_places}
use Rattle.arc_spec.specs.HolderCounts.{Heap, CountsAreExact, holders, all_places, with_things, raised, lowered, makes, ReturnFrame, Calling, Ending, Clearing, Waiter, is_there, resumed, all_nil, with_temporaries, with_variables, with_strong_globals}
use Rattle.arc_code.specs.Instructions.{State}
use Rattle.arc_spec.specs.World.{name_at}

-- 1 where the two are one object, else 0
abbrev pub tally : (k o : ℕ) → ℕ
tally k o = if nat_eq k o then 1 else 0

pub holders_head : (k o : ℕ) (places : List ℕ) → holders k (o ∷ places) ≡ tally k o + holders k places
holders_head k o places = grind arith

pub holders_append : (k : ℕ) (first next : List ℕ) → holders k (first ++ next) ≡ holders k first + holders k next
holders_append k [] next = omega arith
holders_append k (p ∷ first) next = grind (arith, holders_append k first next)

-- a place that names another object: one less for the old one, and one more for the new one
pub holders_set : (k depth old r : ℕ) (places : List ℕ) → slice_get places depth ≡ Some old → tally k old + holders k (slice_set places depth r) ≡ tally k r + holders k places
holders_set k depth old r [] e = cc
holders_set k zero old r (p ∷ places) e = grind arith
holders_set k (suc depth) old r (p ∷ places) e = grind (arith, holders_set k depth old r places e)

-- an object is named where it has a holder
names_holders : (o : ℕ) (places : List ℕ) → names o places ≡ nat_lt 0 (holders o places)
names_holders o [] = refl
names_holders o (p ∷ places) = grind (arith, nat_tests, names_holders o places)

-- a count of 1 more than the places is 1 where no place names the object
pub last_one : (o count : ℕ) (places : List ℕ) → count ≡ suc (holders o places) → nat_eq count 1 ≡ not (names o places)
last_one o count places e = grind (arith, nat_tests, names_holders o places)

-- a count of the places is 0 where no place names the object
pub no_one : (o count : ℕ) (places : List ℕ) → count ≡ holders o places → nat_eq count 0 ≡ not (names o places)
no_one o count places e = grind (arith, nat_tests, names_holders o places)

-- ---- all places

pub raised_count : (o : ℕ) (h : Heap) (k : ℕ) → (raised o h).counts k ≡ tally k o + h.counts k
raised_count o h k = grind arith

-- ---- fields

-- one object is changed
pub fields_set : (k : ℕ) (objects : List Object) (j : ℕ) (old x : Object) → slice_get objects j ≡ Some old
    → holders k (fields_of old) + holders k (field_places (slice_set objects j x)) ≡ holders k (fields_of x) + holders k (field_places objects)
fields_set k (a ∷ objects) (suc j) old x e = omega (arith, holders_append, fields_set k objects j old x e)
fields_set k _ j old x e = search (arith, holders_append)

-- one object more
pub fields_made : (k : ℕ) (objects : List Object) (x : Object) → holders k (field_places (objects ++ x ∷ [])) ≡ holders k (field_places objects) + holders k (fields_of x)
fields_made k [] x = omega (arith, holders_append)
fields_made k (a ∷ objects) x = omega (arith, holders_append, fields_made k objects x)

pub nils_holders : (k n : ℕ) → holders (suc k) (nils n) ≡ 0
nils_holders k zero = refl
nils_holders k (suc n) = grind (arith, nat_tests, nils_holders k n)

-- ---- a place names another object, or is dropped

-- a variable
pub variable_moves : (k : ℕ) (h : Heap) (i old r : ℕ) → slice_get h.variables i ≡ Some old → holders k (old ∷ all_places (with_variables h (slice_set h.variables i r))) ≡ tally k r + holders k (all_places h)
variable_moves k h i old r found = omega (arith, holders_append, holders_head, holders_set k i old r h.variables found)

-- a variable of the whole program
pub global_moves : (k : ℕ) (h : Heap) (i old r : ℕ) → slice_get h.strong_globals i ≡ Some old → holders k (old ∷ all_places (with_strong_globals h (slice_set h.strong_globals i r))) ≡ tally k r + holders k (all_places h)
global_moves k h i old r found = omega (arith, holders_append, holders_head, holders_set k i old r h.strong_globals found)

-- a field of an object that is there
pub field_moves : (k : ℕ) (h : Heap) (j : ℕ) (o : Object) (index old r : ℕ) → slice_get h.objects j ≡ Some o → is_there o.phase ≡ true → slice_get o.strong index ≡ Some old
    → holders k (old ∷ all_places (with_things h (slice_set h.objects j (with_strong_fields o (slice_set o.strong index r))))) ≡ tally k r + holders k (all_places h)
field_moves k h j o index old r found there named =
    grind (arith, holders_append, fields_set k h.objects j o (with_strong_fields o (slice_set o.strong index r)) found, holders_set k index old r o.strong named)

-- the temporary before the last one
pub second_moves : (k : ℕ) (h : Heap) (x r : ℕ) (others : List ℕ) → h.temporaries ≡ x ∷ r ∷ others → holders k (r ∷ all_places (with_temporaries h (x ∷ others))) ≡ holders k (all_places h)
second_moves k h x r others e = grind (arith, holders_append)

-- ---- What a place names is nil or an object that isn't gone.

-- nil, or an object that isn't gone
abbrev pub IsThere : List Object → ℕ → Type 0
IsThere objects zero = Unit {0}
IsThere objects (suc k) = (o : Object) × (object_at objects (suc k) ≡ Some o) × (is_there o.phase ≡ true)

-- each object that these places name is there
abbrev pub AllThere : List Object → List ℕ → Type 0
AllThere objects places = (k : ℕ) → 0 < holders (suc k) places → IsThere objects (suc k)

-- what a place names
pub place_there : (objects : List Object) (depth r : ℕ) (places : List ℕ) → slice_get places depth ≡ Some r → AllThere objects places → IsThere objects r
place_there objects depth zero places found all = tt
place_there objects depth (suc k) places found all = all k (grind (arith, nat_tests, holders_set (suc k) depth (suc k) 0 places found))

pub name_there : (objects : List Object) (places : List ℕ) (i : ℕ) → AllThere objects places → IsThere objects (name_at places i)
name_there objects (r ∷ places) (suc i) all = name_there objects places i (λ k some. all k (grind arith))
name_there objects _ i all = search (arith, place_there)

-- ---- lists of which one element is changed, or that have one more

pub set_same : {A : Type 0} (all : List A) (k : ℕ) (x a : A) → slice_get (slice_set all k x) k ≡ Some a → x ≡ a
set_same (b ∷ all) (suc k) x a e = set_same all k x a e
set_same _ _ x a e = cc

pub set_other : {A : Type 0} (all : List A) (j k : ℕ) (x : A) → (k ≡ j → ⊥) → slice_get (slice_set all j x) k ≡ slice_get all k
set_other (b ∷ all) (suc j) (suc k) x ne = set_other all j k x (λ e. ne (ap suc e))
set_other _ _ _ x ne = search arith

pub set_here : {A : Type 0} (all : List A) (k : ℕ) (x a : A) → slice_get all k ≡ Some a → slice_get (slice_set all k x) k ≡ Some x
set_here (b ∷ all) (suc k) x a e = set_here all k x a e
set_here _ k x a e = search arith

pub seam : {A : Type 0} (before later : List A) (x : A) → slice_get (before ++ x ∷ later) (length before) ≡ Some x
seam [] later x = refl
seam (b ∷ before) later x = seam before later x

pub get_other : {A : Type 0} (all : List A) (k : ℕ) (x : A) → (k ≡ length all → ⊥) → slice_get (all ++ x ∷ []) k ≡ slice_get all k
get_other (b ∷ all) (suc k) x ne = get_other all k x (λ h. ne (ap suc h))
get_other _ k x ne = search arith

-- ---- objects and their counts

-- an object with this count: it is there where a place names it, one does where its dealloc hasn't begun, and it has so
-- many fields that name objects as its class says
pub record Fits (classes : List Class) (count : ℕ) (o : Object) : Type 0 where
  pub there : 0 < count → is_there o.phase ≡ true
  pub held : o.phase ≡ Live → 0 < count
  pub sized : length o.strong ≡ strong_count (slice_get classes o.class)

-- the same, where there may be no object
abbrev pub Right : List Class → (count : ℕ) → Option Object → Type 0
Right classes count None = count ≡ 0
Right classes count (Some o) = Fits classes count o

-- each count is the number of these places that name the object
pub record Keeps (classes : List Class) (places : List ℕ) (counts : ℕ → ℕ) (objects : List Object) : Type 0 where
  pub counted : (k : ℕ) → counts (suc k) ≡ holders (suc k) places
  pub right : (k : ℕ) → Right classes (counts (suc k)) (slice_get objects k)

-- The counts are right, what a place names is there, and each object has its fields. References and numbers don't matter.
abbrev pub Sane : List Class → Heap → Type 0
Sane classes h = Keeps classes (all_places h) h.counts h.objects

-- the same but for a place that named this, and is dropped
abbrev pub Drops : List Class → ℕ → Heap → Type 0
Drops classes r h = Keeps classes (r ∷ all_places h) h.counts h.objects

module _ {classes : List Class} where
  -- what is found fits its count
  pub fits_at : {places : List ℕ} {counts : ℕ → ℕ} {objects : List Object} (k : ℕ) (o : Object) → slice_get objects k ≡ Some o
      → Keeps classes places counts objects → Fits classes (counts (suc k)) o
  fits_at {counts = counts} k o found c = subst (Right classes (counts (suc k))) found (c.right k)

  pub sane_counted : (h : Heap) → Sane classes h → CountsAreExact h
  sane_counted h c = record { counted = c.counted; held = λ k o found. (fits_at k o found c).held }

  -- ---- what places name

  -- what these places name is there
  pub keeps_there : {places : List ℕ} {counts : ℕ → ℕ} {objects : List Object} → Keeps classes places counts objects → AllThere objects places
  keeps_there c k some = grind (arith, c.counted k, c.right k)

  -- what the fields of an object name is there
  pub fields_there : (h : Heap) (j : ℕ) (o : Object) → object_at h.objects (suc j) ≡ Some o → is_there o.phase ≡ true → Sane classes h → AllThere h.objects o.strong
  fields_there h j o found there c k some = keeps_there c k (grind (arith, holders_append, fields_set (suc k) h.objects j o (in_phase Gone o) found))

  -- ---- places, where no object changes

  -- a place more names this
  pub gains : {places : List ℕ} {counts : ℕ → ℕ} {objects : List Object} (r : ℕ) → IsThere objects r → Keeps classes places counts objects
      → Keeps classes (r ∷ places) (λ k. if nat_eq k r then suc (counts k) else counts k) objects
  gains {places} {counts} {objects} r there c = search (arith, nat_tests)

  -- the same places, of another function
  pub sane_moved : {places places1 : List ℕ} {counts : ℕ → ℕ} {objects : List Object} → ((k : ℕ) → holders (suc k) places1 ≡ holders (suc k) places)
      → Keeps classes places counts objects → Keeps classes places1 counts objects
  sane_moved same c = record { counted = λ k. c.counted k ∙ sym (same k); right = c.right }

  -- ---- an object that changes

  changes : {places places1 : List ℕ} {counts : ℕ → ℕ} {objects : List Object} (j : ℕ) (o x : Object) → slice_get objects j ≡ Some o
      → ((k : ℕ) → holders (suc k) places1 ≡ holders (suc k) places)
      → (Fits classes (counts (suc j)) o → Fits classes (counts (suc j)) x) → Keeps classes places counts objects
      → Keeps classes places1 counts (slice_set objects j x)
  changes {counts = counts} {objects = objects} j o x found same fits c = search (arith, set_here, set_other)

  -- a field names another object, and what it named is dropped
  pub sane_store_field : (h : Heap) (j : ℕ) (o : Object) (index old r : ℕ) → object_at h.objects (suc j) ≡ Some o → is_there o.phase ≡ true → slice_get o.strong index ≡ Some old → IsThere h.objects r → Sane classes h
      → Drops classes old (raised r (with_things h (with_object h.objects (suc j) (with_strong_fields o (slice_set o.strong index r)))))
  sane_store_field h j o index old r found is_there_now named there c =
      changes j o (with_strong_fields o (slice_set o.strong index r)) found (λ k. field_moves (suc k) h j o index old r found is_there_now named ∙ sym (holders_head (suc k) r (all_places h)))
      (λ f. record { there = f.there; held = f.held; sized = length-set o.strong index r ∙ f.sized }) (gains r there c)

  -- an object is changed whose fields name the same
  pub sane_turned : (h : Heap) (j : ℕ) (o x : Object) → slice_get h.objects j ≡ Some o → ((k : ℕ) → holders (suc k) (fields_of x) ≡ holders (suc k) (fields_of o))
      → (Fits classes (h.counts (suc j)) o → Fits classes (h.counts (suc j)) x) → Sane classes h → Sane classes (with_things h (slice_set h.objects j x))
  sane_turned h j o x found same = changes j o x found (λ k. omega (arith, holders_append, same k, fields_set (suc k) h.objects j o x found))

  -- an object is made, and a place takes it
  pub sane_make : (h : Heap) (class : ℕ) → Sane classes h → Sane classes (makes classes class h)
  sane_make h class c = search (arith, nat_tests, holders_append, fields_made, nils_holders, length-replicate, seam, get_other)

  -- ---- a place that was dropped is counted no more

  -- it isn't the last place of an object whose dealloc hasn't begun
  pub lowers : (r : ℕ) (h : Heap) → (is_live (object_at h.objects r) && nat_eq (h.counts r) 1) ≡ false → Drops classes r h → Sane classes (lowered r h)
  lowers r h more c = search (arith, nat_tests)

  -- it is, and the end of that object begins
  pub sane_last : (h : Heap) (r : ℕ) (o : Object) → object_at h.objects (suc r) ≡ Some o → is_there o.phase ≡ true → Drops classes (suc r) h → Sane classes (with_things (lowered (suc r) h) (with_object h.objects (suc r) (in_phase Dying o)))
  sane_last h r o found there c =
      let x = in_phase Dying o in
      lowers (suc r) (with_things h (slice_set h.objects r x)) (let here = set_here h.objects r x o found in cc)
      (changes r o x found (λ k. grind (arith, holders_append, fields_set (suc k) h.objects r o x found)) (λ f. record { there = λ some. refl; held = λ live. cc; sized = f.sized }) c)

-- an end that is running: of this object, and which fields are still to be destroyed, where they are being
pub record End : Type 0 where
  pub object : ℕ
  pub fields : Option (List ℕ)

-- the ends that are running
abbrev pub ending : List ReturnFrame → List End
ending [] = []
ending (Calling back waits ∷ others) = ending others
ending (Ending back waits o next left ∷ others) = record { object = o; fields = None } ∷ ending others
ending (Clearing back waits o fields ∷ others) = record { object = o; fields = Some fields } ∷ ending others

-- all fields but these name nothing
abbrev pub NilBut : (fields strong : List ℕ) → Type 0
NilBut fields strong = (i k : ℕ) → slice_get strong i ≡ Some (suc k) → 0 < holders i fields

-- how far an object is on its way whose end is running
abbrev pub IsAsFar : Option (List ℕ) → Object → Type 0
IsAsFar None ob = ob.phase ≡ Dying
IsAsFar (Some fields) ob = (ob.phase ≡ Emptying) × NilBut fields ob.strong

abbrev pub IsDying : List Object → ℕ → Option (List ℕ) → Type 0
IsDying objects o fields = (ob : Object) × (object_at objects o ≡ Some ob) × IsAsFar fields ob

-- a fact of each of these ends
abbrev pub AllEnds : (End → Type 0) → List End → Type 0
AllEnds P [] = Unit {0}
AllEnds P (e ∷ others) = P e × AllEnds P others

ends_map : (P Q : End → Type 0) → ((e : End) → P e → Q e) → (all : List End) → AllEnds P all → AllEnds Q all
ends_map P Q f [] h = tt
ends_map P Q f (e ∷ others) h = (f e h.0, ends_map P Q f others h.1)

abbrev pub AllDying : List Object → List End → Type 0
AllDying objects = AllEnds (λ e. IsDying objects e.object e.fields)

-- the objects whose ends are running are there
abbrev pub EndsThere : List Object → List ReturnFrame → Type 0
EndsThere objects frames = AllEnds (λ e. IsThere objects e.object) (ending frames)

-- wherever what these places name is there, and what is ending is, this object is there, too
abbrev pub Alive : List ReturnFrame → (held : List ℕ) → ℕ → Type 0
Alive frames held o = (objects : List Object) → AllThere objects held → EndsThere objects frames → IsThere objects o

pub ends_there : (objects : List Object) (frames : List ReturnFrame) → AllDying objects (ending frames) → EndsThere objects frames
ends_there objects frames = ends_map _ _ (λ e d. grind arith) (ending frames)

-- what these references name one of those places names
abbrev pub AllHeld : (own places : List ℕ) → Type 0
AllHeld own places = (k : ℕ) → 0 < holders (suc k) own → 0 < holders (suc k) places

abbrev pub IsHeld : ℕ → List ℕ → Type 0
IsHeld r = AllHeld (r ∷ [])

-- what a temporary of the running function holds, or a place of one that waits, is there
pub held_there : (objects : List Object) (temporaries strong waiting : List ℕ) (r : ℕ) → IsHeld r (temporaries ++ waiting) → AllThere objects ((temporaries ++ strong) ++ waiting) → IsThere objects r
held_there objects temporaries strong waiting r h there = place_there objects 0 r (r ∷ []) refl (λ k some. there k (grind (arith, holders_append, h k)))

-- ---- objects that are ending

-- an object is made
pub made_dying : (objects : List Object) (x : Object) (all : List End) → AllDying objects all → AllDying (objects ++ x ∷ []) all
made_dying objects x = ends_map _ _ (λ e d. (d.0, grind (arith, get_other objects (e.object - 1) x, slice_get_within objects (e.object - 1) d.0), d.2))

-- an object is changed, which ends nowhere, or is afterwards as far as before
changed_dies : (objects : List Object) (k : ℕ) (x : Object) (o : ℕ) (fields : Option (List ℕ)) → (o ≡ suc k → IsAsFar fields x) → IsDying objects o fields → IsDying (slice_set objects k x) o fields
changed_dies objects k x o fields still d = grind (arith, nat_tests, still, set_here objects k x d.0, set_other objects k (o - 1) x)

-- this object isn't one of these
abbrev pub IsApart : ℕ → List End → Type 0
IsApart o = AllEnds (λ e. e.object ≡ o → ⊥)

pub apart_dying : (objects : List Object) (k : ℕ) (x : Object) (all : List End) → IsApart (suc k) all → AllDying objects all → AllDying (slice_set objects k x) all
apart_dying objects k x [] apart d = tt
apart_dying objects k x (e ∷ others) apart d = (changed_dies objects k x e.object e.fields (λ same. absurd (apart.0 same)) d.0, apart_dying objects k x others apart.1 d.1)

-- an object that is found is changed, which is as far as before
pub changed_dying : (objects : List Object) (k : ℕ) (ob x : Object) (all : List End) → object_at objects (suc k) ≡ Some ob → ((fields : Option (List ℕ)) → IsAsFar fields ob → IsAsFar fields x) → AllDying objects all → AllDying (slice_set objects k x) all
changed_dying objects k ob x all found still = search (arith, ends_map, changed_dies)

-- what isn't ending yet is none of those that are
pub live_apart : (objects : List Object) (k : ℕ) (ob : Object) (all : List End) → object_at objects (suc k) ≡ Some ob → is_live (Some ob) ≡ true → AllDying objects all → IsApart (suc k) all
live_apart objects k ob all found live = ends_map _ _ (λ e d same. grind (arith, d.2)) all

-- ---- fields that are destroyed

-- one field more names nothing
pub one_nil : (index : ℕ) (fields strong : List ℕ) → NilBut (index ∷ fields) strong → NilBut fields (slice_set strong index 0)
one_nil index fields strong but i k named = grind (arith, nat_tests, but i k, set_same strong index 0 (suc k), set_other strong index i 0)

-- where that field isn't there
pub no_field : (index : ℕ) (fields strong : List ℕ) → slice_get strong index ≡ None → NilBut (index ∷ fields) strong → NilBut fields strong
no_field index fields strong none but i k named = grind (arith, nat_tests, but i k)

-- fields that all are nil name nothing
pub nil_named : (strong : List ℕ) → NilBut [] strong → (k : ℕ) → holders (suc k) strong ≡ 0
nil_named [] but k = refl
nil_named (zero ∷ strong) but k = grind (arith, nat_tests, nil_named strong (λ i. but (suc i)) k)
nil_named (suc j ∷ strong) but k = absurd (omega (arith, but 0 j refl))

-- ---- all fields are destroyed

in_numbers : (i first count : ℕ) → first ≤ i → i < first + count → 0 < holders i (numbers_from first count)
in_numbers i first zero le lt = absurd (omega arith)
in_numbers i first (suc n) le lt = grind (arith, nat_tests, in_numbers i (suc first) n)

in_order : (above : List ℕ) (i count : ℕ) → i < count → 0 < holders i (order_of_fields count above)
in_order [] i count lt = in_numbers i 0 count (omega arith) (omega arith)
in_order (n ∷ above) i count lt =
    let least = lesser n count in
    grind (arith, holders_append, in_order above i least, in_numbers i least (count - least))

-- the order of an object's fields has all of them
pub all_in_order : (classes : List Class) (ob : Object) → length ob.strong ≡ strong_count (slice_get classes ob.class) → NilBut (field_order classes ob.class) ob.strong
all_in_order classes ob size i k named = search (arith, in_order, slice_get_within)

-- no two of these ends are of one object
abbrev pub AllApart : List End → Type 0
AllApart [] = Unit {0}
AllApart (e ∷ others) = IsApart e.object others × AllApart others

pub resumed_holders : (k : ℕ) (w : Waiter) (h : Heap) → holders k (resumed w h).temporaries + holders k (resumed w h).variables + holders k (resumed w h).places ≡ holders k h.places
resumed_holders k w h = omega (arith, holders_append, ap (holders k) (take-append-drop w.temporaries h.places), ap (holders k) (take-append-drop w.variables (drop w.temporaries h.places)))

pub none_named : (k : ℕ) (variables : List ℕ) → all_nil variables ≡ true → holders (suc k) variables ≡ 0
none_named k [] nil = refl
none_named k (r ∷ variables) nil = grind (arith, nat_tests, none_named k variables)

-- the function that is left has no temporary, and its variables are nil
pub resumed_sane : {classes : List Class} (w : Waiter) (h : Heap) → h.temporaries ≡ [] → ((k : ℕ) → holders (suc k) h.variables ≡ 0) → Sane classes h → Sane classes (resumed w h)
resumed_sane w h none nil sane = sane_moved (λ k. grind (arith, holders_append, resumed_holders (suc k) w h, nil k)) sane

-- the counts are right, what ends is as far as it should be, and no two of the ends are of one object
abbrev pub Counted : List Class → State → Type 0
Counted classes s = Sane classes s.held × AllDying s.held.objects (ending s.frames) × AllApart (ending s.frames)
