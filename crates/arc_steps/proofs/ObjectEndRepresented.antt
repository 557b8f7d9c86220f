-- An object begins to end, its end goes on with a dealloc, and it is gone: each time the machine's memory goes on standing for the objects.
use Rattle.std.proofs.Common.{◌≡◌, ℕ, zero, suc, ◌-◌, ◌≤◌, Bool, true, if◌then◌else◌, List, [], ◌∷◌, ◌+◌, length, drop, Option, Some, None, map, slice_get, slice_set, refl, sym, ap, ◌∙◌, subst, arith}
use Rattle.std.specs.Prelude.{All, unwrap_or}
use Rattle.std.proofs.lemmas.List.{length-set}
use Rattle.std.proofs.lemmas.List.Elements.{All-nil, All-cons, All-head, All-tail}
use Rattle.std.proofs.lemmas.Option.{slice_get_within}
use Rattle.arc_spec.specs.Classes.{Class, field_order}
use Rattle.arc_spec.specs.Objects.{Object, Live, Dying, Emptying, Gone, object_at, in_phase, fields_of}
use Rattle.arc_spec.specs.HolderCounts.{Heap, ReturnFrame, Calling, Ending, Clearing, Waiter, is_there, lowered, waiter_of, entered, resumed, with_variables, with_things, turned_in}
use Rattle.arc_spec.specs.SmallSteps.{Goes}
use Rattle.arc_code.specs.CodeSteps.{Program, State, end_goes_on, ends_class, after_deallocs, runs_dealloc}
use Rattle.arc_heap.specs.Blocks.{Blocks}
use Rattle.arc_cells.specs.declared.waiting.Waiter.{Waiter as Words}
use Rattle.arc_cells.specs.declared.waiting.Waiting.TheVariants.{End, Clear}
use Rattle.arc_cells.specs.Cells.{Cell, words, IsCell, Sets, Becomes, with_count, with_phase}
use Rattle.arc_cells.specs.declared.waiting.Waiting.{Waiting}
use Rattle.arc_cells.specs.Representation.{Memory, Stands, Stored, Ends, EndsOther, IsKnown, IsDying, IsEmptying, cell_of, place, waiter_words, waiting, waiting_places, with_store, with_frames, words_of, entering, undeclaring, resuming}
use Rattle.arc_steps.specs.Releases.{class_up}
use Rattle.arc_steps.proofs.EndFramesKept.{ends_else, live_unended}
use Rattle.arc_steps.proofs.RepresentationKept.{block_of, known_fields, known_stacked, lowered_there, lowered_else, set_here, spelled_stands, changed_stands}
use Rattle.arc_steps.proofs.CallFramesRepresented.{waiter_is, entered_stands, undeclared_stands, resumed_stands}

-- an object that isn't gone names what it named
pub there_fields : (h : Heap) (k : ℕ) (o x : Object) → slice_get h.objects k ≡ Some o → is_there o.phase ≡ true → x.strong ≡ o.strong → is_there x.phase ≡ true → All (λ r. r ≤ length h.objects) (fields_of o) → All (λ r. r ≤ length h.objects) (fields_of x)
there_fields h k o x there here same stays known =
    let P : ℕ → Type 0 = λ r. r ≤ length h.objects in
    let was : fields_of o ≡ o.strong = ap (λ (b : Bool). if b then o.strong else []) here in
    let is : fields_of x ≡ x.strong = ap (λ (b : Bool). if b then x.strong else []) stays in
    subst (λ l. All P l) (was ∙ sym same ∙ sym is) known

-- ---- an end begins

abbrev pub dying_held : Heap → ℕ → Object → Heap
dying_held h k o = entered (suc k) (with_things (lowered (suc k) h) (slice_set h.objects k (in_phase Dying o)))

pub dying_stands : {foreign : Blocks} (at : ℕ → ℕ) (classes : List Class) (m : Memory) (frames : List ReturnFrame) (h : Heap) → Stands foreign at classes m frames h → (k : ℕ) (o : Object) → slice_get h.objects k ≡ Some o → o.phase ≡ Live → (w : ℕ) → w ≡ at k → (m' : Memory)
    → ((c : Cell) → IsCell m.store w c → Becomes m.store m'.store w (with_phase (with_count c (c.count - 1)) 1)) → (back : ℕ) (next : Option ℕ) (left : ℕ) → m' ≡ entering (with_store m m'.store) w (End back (words_of m) w next left)
    → Stands foreign at classes m' (Ending back (waiter_of h) (suc k) next left ∷ frames) (dying_held h k o)
dying_stands {foreign = foreign} at classes m frames h t k o there live w word m' block back next left waits =
    let stored = block_of at classes m frames h t k o there (ap is_there live) in
    let cell = cell_of o (h.counts (suc k)) (suc k) stored.fields in
    let change : Becomes m.store m'.store (at k) (with_phase (with_count cell (cell.count - 1)) 1) =
    subst (λ w. Becomes m.store m'.store w (with_phase (with_count cell (cell.count - 1)) 1)) word (block cell (subst (λ w. IsCell m.store w cell) (sym word) stored.block)) in
    let x = in_phase Dying o in
    let counts' = (lowered (suc k) h).counts in
    let now : Stored (place at) classes m'.store (at k) (suc k) (counts' (suc k)) x = record {
      fields = stored.fields;
      block = change.here ∙ ap (λ n. Some (words (cell_of x n (suc k) stored.fields))) (sym (lowered_there (suc k) h));
      values = stored.values;
      names = stored.names;
      all = stored.all;
    } in
    let unended = live_unended classes h.objects k o frames there live t.ends in
    let h1 : Heap = with_things (lowered (suc k) h) (slice_set h.objects k x) in
    let u : Stands foreign at classes (with_store m m'.store) frames h1 = changed_stands at classes m frames h t k o x counts' there (ap is_there live) (cell, stored.block, refl) m'.store _ change (λ gone. absurd (cc))
    (λ j other. lowered_else (suc k) (suc j) h (λ equal. other (omega arith))) now (ends_else classes h.objects k x frames unended t.ends)
    (there_fields h k o x there (ap is_there live) refl refl (known_fields at classes m frames h t k o there)) in
    let below = slice_get_within h.objects k o there in
    let same : length h.objects ≡ length h1.objects = sym (length-set h.objects k x) in
    let within : suc k ≤ length h1.objects = omega arith in
    let frame = Ending back (waiter_of h) (suc k) next left in
    let wait : End back (words_of m) w next left ≡ waiting at frame = (let waiter = waiter_is at classes m frames h t in cc) in
    subst (λ m. Stands foreign at classes m (frame ∷ frames) (dying_held h k o)) (sym waits)
    (entered_stands at classes (with_store m m'.store) frames h1 u (suc k) w frame (End back (words_of m) w next left) word wait refl within
    (All-cons (IsKnown (length h1.objects)) frame frames (u.known_self, within) u.known_frames)
    (subst (λ found. IsDying found) (sym (set_here h.objects k x o there)) refl, unended, u.ends))

-- ---- an end goes on

-- what waits is the end of an object
pub record Ended (at : ℕ → ℕ) (frames : List ReturnFrame) (back : ℕ) (waiter : Words) (object : ℕ) (next : Option ℕ) (left : ℕ) : Type 0 where
  pub waits : Waiter
  pub number : ℕ
  pub others : List ReturnFrame
  pub is : frames ≡ Ending back waits number next left ∷ others
  pub words_are : waiter ≡ waiter_words at waits
  pub object_is : object ≡ place at number

pub ended : (at : ℕ → ℕ) (frames : List ReturnFrame) (back : ℕ) (waiter : Words) (object : ℕ) (next : Option ℕ) (left : ℕ) → slice_get (map (waiting at) frames) 0 ≡ Some (End back waiter object next left) → Ended at frames back waiter object next left
ended at [] back waiter object next left e = absurd (cc)
ended at (Calling b w ∷ others) back waiter object next left e = absurd (cc)
ended at (Clearing b w o fields ∷ others) back waiter object next left e = absurd (cc)
ended at (Ending b w o n l ∷ others) back waiter object next left e = record { waits = w; number = o; others = others; is = cc; words_are = cc; object_is = cc }

-- what waits is the end of an object whose fields are destroyed
pub record Cleared (at : ℕ → ℕ) (frames : List ReturnFrame) (back : ℕ) (waiter : Words) (object left : ℕ) : Type 0 where
  pub waits : Waiter
  pub number : ℕ
  pub fields : List ℕ
  pub others : List ReturnFrame
  pub is : frames ≡ Clearing back waits number fields ∷ others
  pub words_are : waiter ≡ waiter_words at waits
  pub object_is : object ≡ place at number
  pub left_is : left ≡ length fields

pub cleared : (at : ℕ → ℕ) (frames : List ReturnFrame) (back : ℕ) (waiter : Words) (object left : ℕ) → slice_get (map (waiting at) frames) 0 ≡ Some (Clear back waiter object left) → Cleared at frames back waiter object left
cleared at [] back waiter object left e = absurd (cc)
cleared at (Calling b w ∷ others) back waiter object left e = absurd (cc)
cleared at (Ending b w o n l ∷ others) back waiter object left e = absurd (cc)
cleared at (Clearing b w o fields ∷ others) back waiter object left e = record { waits = w; number = o; fields = fields; others = others; is = cc; words_are = cc; object_is = cc; left_is = cc }

-- it goes on with the dealloc of a class
pub goes_on : (p : Program) (s : State) (back : ℕ) (w : Waiter) (o : ℕ) (next : Option ℕ) (left : ℕ) (others : List ReturnFrame) (c : Class) → class_up p.classes next left ≡ Some c
    → end_goes_on p s (Ending back w o next left ∷ others) ≡ runs_dealloc c.dealloc s (Ending back w o c.superclass (left - 1) ∷ others)
goes_on p s back w o next zero others c e = absurd (cc)
goes_on p s back w o None (suc left) others c e = absurd (cc)
goes_on p s back w o (Some class) (suc left) others c e =
    let less : left ≡ suc left - 1 = omega arith in
    ap (λ found. ends_class p s back w o found left others) e ∙ ap (λ n. runs_dealloc c.dealloc s (Ending back w o c.superclass n ∷ others)) less

-- it goes on to its last step
pub goes_out : (p : Program) (s : State) (back : ℕ) (w : Waiter) (o : ℕ) (next : Option ℕ) (left : ℕ) (others : List ReturnFrame) → class_up p.classes next left ≡ None → end_goes_on p s (Ending back w o next left ∷ others) ≡ after_deallocs p s back w o others
goes_out p s back w o None left others e = refl
goes_out p s back w o (Some class) zero others e = refl
goes_out p s back w o (Some class) (suc left) others e = ap (λ found. ends_class p s back w o found left others) e

pub runs : (to : Option ℕ) (s : State) (frames : List ReturnFrame) → runs_dealloc to s frames ≡ Goes (record { at = unwrap_or to s.at; stack = s.stack; frames = frames; held = s.held }) []
runs None s frames = refl
runs (Some to) s frames = refl

-- the places and words stay where the end of the same object waits for the same otherwise
pub reframed_stands : {foreign : Blocks} (at : ℕ → ℕ) (classes : List Class) (m : Memory) (h : Heap) (old new : ReturnFrame) (others : List ReturnFrame) → Stands foreign at classes m (old ∷ others) h → waiting_places (new ∷ others) ≡ waiting_places (old ∷ others) → IsKnown (length h.objects) new
    → Ends classes h.objects (new ∷ others) → (wait : Waiting) → wait ≡ waiting at new → (m' : Memory) → m' ≡ with_frames m (slice_set m.frames 0 wait) → Stands foreign at classes m' (new ∷ others) h
reframed_stands {foreign = foreign} at classes m h old new others t places known ends wait is m' e =
    let n = length h.objects in
    let words = slice_set m.frames 0 wait in
    subst (λ m. Stands foreign at classes m (new ∷ others) h) (sym e) (spelled_stands at classes m (with_frames m words) (old ∷ others) (new ∷ others) h h t (record {
      places = t.places;
      temporaries = t.temporaries;
      variables = t.variables;
      names = t.names;
      self = t.self;
      waits = ap (λ fs. slice_set fs 0 wait) t.waits ∙ ap (λ x. x ∷ map (waiting at) others) is;
      all = t.all ∙ sym places;
      known_places = known_stacked n h t.known_places;
      known_names = t.known_names;
      known_self = t.known_self;
      known_frames = All-cons (IsKnown n) new others known (All-tail (IsKnown n) old others t.known_frames);
      ends = ends;
    }))

pub goes_on_stands : {foreign : Blocks} (at : ℕ → ℕ) (classes : List Class) (m : Memory) (h : Heap) (back : ℕ) (w : Waiter) (o : ℕ) (next : Option ℕ) (left : ℕ) (others : List ReturnFrame) → Stands foreign at classes m (Ending back w o next left ∷ others) h
    → (next' : Option ℕ) (left' : ℕ) (m' : Memory) → m' ≡ with_frames m (slice_set m.frames 0 (End back (waiter_words at w) (place at o) next' left')) → Stands foreign at classes m' (Ending back w o next' left' ∷ others) h
goes_on_stands at classes m h back w o next left others t next' left' m' e =
    let n = length h.objects in
    let old : ReturnFrame = Ending back w o next left in
    reframed_stands at classes m h old (Ending back w o next' left') others t refl (All-head (IsKnown n) old others t.known_frames) (t.ends.0, t.ends.1, t.ends.2) (End back (waiter_words at w) (place at o) next' left') refl m' e

-- ---- an object is gone

dying_found : (found : Option Object) → IsDying found → (o : Object) × (found ≡ Some o) × (o.phase ≡ Dying)
dying_found None d = absurd d
dying_found (Some o) d = (o, refl, d)

pub dying_object : (objects : List Object) (o : ℕ) → IsDying (object_at objects o) → (k : ℕ) × (o ≡ suc k) × ((ob : Object) × (slice_get objects k ≡ Some ob) × (ob.phase ≡ Dying))
dying_object objects zero d = absurd d
dying_object objects (suc k) d = (k, refl, dying_found (slice_get objects k) d)

emptying_found : (classes : List Class) (fields : List ℕ) (found : Option Object) → IsEmptying classes fields found → (o : Object) × (found ≡ Some o) × (o.phase ≡ Emptying) × (n : ℕ) × (fields ≡ drop n (field_order classes o.class))
emptying_found classes fields None d = absurd d
emptying_found classes fields (Some o) d = (o, refl, d.0, d.1, d.2)

pub emptying_object : (classes : List Class) (fields : List ℕ) (objects : List Object) (o : ℕ) → IsEmptying classes fields (object_at objects o)
    → (k : ℕ) × (o ≡ suc k) × ((ob : Object) × (slice_get objects k ≡ Some ob) × (ob.phase ≡ Emptying) × (n : ℕ) × (fields ≡ drop n (field_order classes ob.class)))
emptying_object classes fields objects zero d = absurd d
emptying_object classes fields objects (suc k) d = (k, refl, emptying_found classes fields (slice_get objects k) d)

gone_is : (objects : List Object) (k : ℕ) (o : Object) → slice_get objects k ≡ Some o → turned_in Gone objects (suc k) ≡ slice_set objects k (in_phase Gone o)
gone_is objects k o there = rw there refl

pub turned_is : (objects : List Object) (k : ℕ) (o : Object) → slice_get objects k ≡ Some o → turned_in Emptying objects (suc k) ≡ slice_set objects k (in_phase Emptying o)
turned_is objects k o there = rw there refl

-- the end of an object, which waits so, makes its last step
module _ {foreign : Blocks} (at : ℕ → ℕ) (classes : List Class) (m : Memory) (h : Heap) (frame : ReturnFrame) (w : Waiter) (k : ℕ) (others : List ReturnFrame) (t : Stands foreign at classes m (frame ∷ others) h) (places : waiting_places (frame ∷ others) ≡ w.temporaries + w.variables + waiting_places others)
    (known : w.self ≤ length h.objects) (unended : All (EndsOther (suc k)) others) (ends : Ends classes h.objects others) where
  pub gone_stands : h.temporaries ≡ [] → (o : Object) → slice_get h.objects k ≡ Some o → is_there o.phase ≡ true → h.counts (suc k) ≡ 0 → (word : ℕ) → word ≡ at k → (m' : Memory) → Sets m.store m'.store word None
      → m' ≡ resuming (undeclaring (with_store m m'.store)) (waiter_words at w) → Stands foreign at classes m' others (resumed w (with_things (with_variables h []) (turned_in Gone h.objects (suc k))))
  gone_stands bare o there here none word is m' sets e =
      let n = length h.objects in
      let stored = block_of at classes m (frame ∷ others) h t k o there here in
      let cell = cell_of o (h.counts (suc k)) (suc k) stored.fields in
      let popped = undeclared_stands at classes m (frame ∷ others) h t bare in
      let left_h : Heap = with_variables h [] in
      let resumes = resumed_stands at classes (undeclaring m) frame others left_h popped bare refl w places known (All-tail (IsKnown n) frame others t.known_frames) ends in
      let freed = changed_stands at classes (resuming (undeclaring m) (waiter_words at w)) others (resumed w left_h) resumes k o (in_phase Gone o) h.counts there here (cell, stored.block, refl) m'.store None
      (subst (λ word. Sets m.store m'.store word None) is sets) (λ gone. refl) (λ j other. refl) none (ends_else classes h.objects k (in_phase Gone o) others unended ends) (All-nil (λ r. r ≤ n)) in
      subst (λ objects. Stands foreign at classes m' others (resumed w (with_things left_h objects))) (sym (gone_is h.objects k o there))
      (subst (λ m. Stands foreign at classes m others (resumed w (with_things left_h (slice_set h.objects k (in_phase Gone o))))) (sym e) freed)
