-- No action lacks what it takes, whatever is read, and the counts are right: what runs and what waits have as many
-- numbers, references and places as the heights of a program say. So a run shows what it shows where counts are made anew after each step.
use Rattle.std.proofs.Common.{◌≡◌, ◌⊎◌, inl, inr, ℕ, zero, suc, ◌+◌, ◌-◌, ◌<◌, ◌≤◌, ℤ, Bool, true, false, nat_eq, if◌then◌else◌, List, [], ◌∷◌, ◌++◌, length, take, drop, Option, Some, None, ⊎_elim, refl, sym, ap, ◌∙◌, subst, arith, append_assoc, length-append, length-drop, slice_get, slice_set}
use Rattle.std.proofs.Math.Seq.{take-append_seam, drop-append_seam}
use Rattle.std.proofs.lemmas.Bool.{eqb-true}
use Rattle.std.proofs.lemmas.Bool.Decides.{nat_tests}
use Rattle.std.proofs.lemmas.List.{length-set, nil_from_length, take-append-drop, length-take-le}
use Rattle.std.proofs.lemmas.Option.{slice_get_cases}
use Rattle.arc_ast.specs.declared.tree.Sign.{Sign}
use Rattle.arc_ast.specs.declared.tree.Sign.TheVariants as signs
use Rattle.arc_spec.specs.declared.class.Gives.{Gives}
use Rattle.arc_spec.specs.declared.class.Gives.TheVariants as gives
use Rattle.arc_spec.specs.Classes.{Class, class_at, lookup, is_root_init, field_order}
use Rattle.arc_spec.specs.World.{name_at}
use Rattle.arc_spec.specs.Meaning.{chosen}
use Rattle.arc_spec.specs.Number.{is_zero}
use Rattle.arc_spec.specs.Objects.{Object, Dying, with_object, with_strong_fields, in_phase, is_emptying, object_at, is_live, with_fields, Gone, Emptying}
use Rattle.arc_spec.specs.Resolved as resolved
use Rattle.arc_spec.specs.HolderCounts.{Heap, all_places, ReturnFrame, Calling, Ending, Clearing, Waiter, CountsAreExact, is_there, stacked, with_strong_field, on_place, with_temporaries, with_variables, with_names, with_things, lowered, raised, named, on_named, on_field, lets_go, on_object, all_nil, on_left, on_last, on_result, stores_field, turned_in, holders}
use Rattle.arc_spec.specs.SmallSteps.{Next, Goes, Along, Safe, Sound, on_top, on_found, Reached, Running, Wedged, follow, further, after_steps}
use Rattle.arc_ir.specs.ActionSteps.{Program, State, linked, lands, start, step, entry, goes, has_level, enters, ends_object, answers, taken, sends, operates, begins_end, releases, runs_dealloc, clears, after_deallocs, clears_next, ends_class, end_goes_on, Action, keeps, drops_all, executes, IsSound, seen}
use Rattle.arc_code.specs.declared.effect.Height.{Height}
use Rattle.arc_code.specs.declared.instr.Op.{Op}
use Rattle.arc_code.specs.declared.instr.Op.TheVariants.{Declare, ReadField, Alloc, SetField, NotSame}
use Rattle.arc_code.specs.declared.instr.Instr.TheVariants.{Plain, PrintText, Jump, JumpZero, Call, Send, SendSuper, SendTo, SendToSuper, StoreStrong, StoreGlobal, StoreField, Empty, DropAll, Settle, Give, Return, EndStep}
use Rattle.arc_code.specs.Effects.{passes, as_object, giving, operation_effect, Follows, room_for, NeverHasMore}
use Rattle.arc_code.proofs.EffectsFollowed.{operation_follows}
use Rattle.arc_code.proofs.StepOutcomes.{along_both}
use Rattle.arc_code.specs.Instructions as instructions
use Rattle.arc_lower.proofs.CountsKept.{Counted, sane_counted, keeps_there, fields_there, ending, AllDying, Alive, ends_there, IsHeld, AllHeld, held_there, Drops, Sane, gains, sane_make, made_dying, sane_turned, changed_dying, lowers, sane_moved, AllApart, resumed_holders, resumed_sane, none_named, sane_store_field, apart_dying, all_in_order, fits_at, IsDying, IsAsFar, NilBut, one_nil, no_field, nil_named, live_apart, sane_last, AllThere, IsThere, place_there, name_there, set_here, set_same, set_other, nils_holders, holders_append, second_moves, variable_moves, global_moves, tally, holders_head}
use Rattle.arc_lower.specs.PlainActions.{PlainAction, plain_actions}
use Rattle.arc_lower.specs.Lowered.{slots_of, parameters_of, entries_of, end_step_of, lowered as lowered_actions, classes_linked}
use Rattle.arc_lower.specs.Heights.{height, after_effect, greatest_height, places_in, height_at, result_at}
use Rattle.arc_lower.proofs.CaseAnalysis.{by_test}
use Rattle.arc_lower.proofs.RecountedSteps.{at, bare, does, executes_at, fresh, recount, moves}
use Rattle.arc_lower.proofs.StackEffect.{Reaches, enough, IsCalled}
use Rattle.arc_lower.proofs.StepHeights.{some_same, Stays, Ends, role, role_of, Clears, inside_clears, Stands, Quiet, Free, calm_free, Steps}
use Rattle.arc_lower.proofs.StepHeights as stepping
use Rattle.arc_lower.proofs.ProgramHeights.{all, table, methods_go, dealloc_goes, start_goes, end_is, steps_at, entry_goes, heights_fit}
use Rattle.arc_code.specs.Instructions.{operates}
use Rattle.arc_code.proofs.HeightsKept.{never_more, sound_with_room}
use Rattle.arc_spec.specs.declared.event.Event.{Event}
use Rattle.arc_spec.specs.Correctness.{run_seen}

-- ---- variables that name nothing

-- none after the first n names an object, but for the place of an object that is given, which is the last one
abbrev Shut : Gives → ℕ → List ℕ → Type 0
Shut given n variables = (i k : ℕ) → n ≤ i → i + as_object given < length variables → slice_get variables i ≡ Some (suc k) → ⊥

shut_end : (mine : Gives) (variables : List ℕ) (n : ℕ) → length variables ≤ n + as_object mine → Shut mine n variables
shut_end mine variables n le i k above lt named = omega (arith, le, above, lt)

shut_set : (mine : Gives) (n : ℕ) (variables : List ℕ) → Shut mine (suc n) variables → Shut mine n (slice_set variables n 0)
shut_set mine n variables h i k above lt named = grind (arith, length-set variables n 0, set_same variables n 0 (suc k), set_other variables n i 0, h i k)

nil_seen : (variables : List ℕ) → Shut gives.Number 0 variables → all_nil variables ≡ true
nil_seen [] nil = refl
nil_seen (zero ∷ rest) nil = nil_seen rest (λ i k above lt. nil (suc i) k (omega arith) (omega (arith, lt)))
nil_seen (suc k ∷ rest) nil = absurd (nil 0 k (omega arith) (omega arith) refl)

-- ---- references

-- above the last of them these places name each one that isn't nil
record Refs (deeper places names : List ℕ) : Type 0 where
  own : List ℕ
  is : names ≡ own ++ deeper
  held : AllHeld own places

held_here : (r : ℕ) (places : List ℕ) → IsHeld r (r ∷ places)
held_here r places k some = grind arith

module _ {deeper places : List ℕ} where
  refs_none : (names : List ℕ) → names ≡ deeper → Refs deeper places names
  refs_none names is = record { own = []; is = is; held = λ k some. omega arith }

  refs_more : (r : ℕ) (names : List ℕ) → IsHeld r places → Refs deeper places names → Refs deeper places (r ∷ names)
  refs_more r names now refs = record { own = r ∷ refs.own; is = ap (λ l. r ∷ l) refs.is; held = λ k some. grind (arith, nat_tests, now k, refs.held k) }

  -- a temporary takes this
  refs_taken : (r : ℕ) (names : List ℕ) → Refs deeper places names → Refs deeper (r ∷ places) names
  refs_taken r names refs = record { own = refs.own; is = refs.is; held = λ k some. grind (arith, refs.held k) }

  refs_split : (own : List ℕ) (r : ℕ) (names : List ℕ) → r ∷ names ≡ own ++ deeper → AllHeld own places → length deeper ≤ length names → IsHeld r places × Refs deeper places names
  refs_split [] r names is held some = absurd (omega (arith, ap length is))
  refs_split (a ∷ own) r names is held some = let same : r ≡ a = cc in (λ k now. held k (grind arith), record { own = own; is = cc; held = λ k now. held k (grind arith) })

  refs_take : (n : ℕ) (names : List ℕ) → n + length deeper ≤ length names → Refs deeper places names → AllHeld (take n names) places × Refs deeper places (drop n names)
  refs_take zero names le refs = (λ k some. omega arith, refs)
  refs_take (suc n) [] le refs = absurd (omega arith)
  refs_take (suc n) (r ∷ names) le refs =
      let first = refs_split refs.own r names refs.is refs.held (omega (arith, le)) in
      let rest = refs_take n names (omega (arith, le)) first.1 in (λ k some. grind (arith, nat_tests, first.0 k, rest.0 k), rest.1)

  refs_at : (i r : ℕ) (names : List ℕ) → i + length deeper < length names → slice_get names i ≡ Some r → Refs deeper places names → IsHeld r places
  refs_at zero r (a ∷ names) lt found refs = let same : a ≡ r = cc in subst (λ x. IsHeld x places) same (refs_split refs.own a names refs.is refs.held (omega (arith, lt))).0
  refs_at (suc i) r (a ∷ names) lt found refs = refs_at i r names (omega (arith, lt)) found (refs_split refs.own a names refs.is refs.held (omega (arith, lt))).1
  refs_at i r [] lt found refs = absurd (omega (arith, lt))

-- ---- what is there once what is wanted of a call is there

-- so many numbers, and this reference, which is the last temporary
abbrev pub with_number : Gives → ℕ → ℕ
with_number gives.Number n = suc n
with_number gives.Object n = n

abbrev pub result_names : Gives → (r : ℕ) → List ℕ
result_names gives.Number r = []
result_names gives.Object r = r ∷ []

-- only of a function that gives a number
abbrev pub Numbers : Gives → Type 0 → Type 0
Numbers gives.Number A = A
Numbers gives.Object A = ⊥

-- the last temporary holds an object that was made, which the last reference names; the others hold the other references
abbrev Made : (deeper names temporaries places : List ℕ) → Type 0
Made deeper names temporaries places = (1 ≤ length temporaries) × Refs deeper (drop 1 temporaries ++ places) (drop 1 names)

-- what its `init` gives is there before it
abbrev Initialized : (deeper names temporaries places : List ℕ) → Type 0
Initialized deeper names temporaries places = (1 ≤ length names) × (2 ≤ length temporaries) × (take 1 names ≡ take 1 temporaries) × Refs deeper (drop 2 temporaries ++ places) (drop 1 names)

along_map : {S : Type 0} (P Q : S → Type 0) → ((s : S) → P s → Q s) → (next : Next S) → Along P next → Along Q next
along_map P Q f next p = grind (arith, f, p)

-- what runs again has its own places
as_waits : (P : (temporaries variables places : List ℕ) → Type 0) (h : Heap) → P h.temporaries h.variables h.places
    → P (take (length h.temporaries) (stacked h)) (take (length h.variables) (drop (length h.temporaries) (stacked h))) (drop (length h.variables) (drop (length h.temporaries) (stacked h)))
as_waits P h own = simp (append_assoc, take-append_seam, drop-append_seam) own

-- ---- steps that lead to states of which a fact holds, and aren't missing

module _ {S : Type 0} (P : S → Type 0) where
  top_leads : (stack : List ℤ) (go : ℤ → List ℤ → Next S) → 1 ≤ length stack → ((v : ℤ) (rest : List ℤ) → length stack ≡ suc (length rest) → Along P (go v rest)) → Along P (on_top stack go)
  top_leads stack go some h = grind (arith, h)

  taken_leads : (takes : ℕ) (stack : List ℤ) (go : List ℤ → Next S) → takes ≤ length stack → ((rest : List ℤ) → length stack ≡ takes + length rest → Along P (go rest)) → Along P (taken takes stack go)
  taken_leads (suc takes) (v ∷ rest) go le h = taken_leads takes rest go (omega (arith, le)) (λ rest1 e. h rest1 (omega (arith, e)))
  taken_leads _ stack go le h = search arith

  found_leads : {A : Type 0} (list : List A) (i : ℕ) (go : A → Next S) → i < length list → ((a : A) → slice_get list i ≡ Some a → Along P (go a)) → Along P (on_found (slice_get list i) go)
  found_leads list i go lt h = grind (arith, h, slice_get_cases list i)

  named_leads : (r : ℕ) (held : Heap) (next : Next S) → IsThere held.objects r → Along P next → Along P (on_named r held next)
  named_leads r held next there h = grind arith

  object_leads : (objects : List Object) (k : ℕ) (go : Object → Next S) → IsThere objects (suc k) → ((ob : Object) → slice_get objects k ≡ Some ob → is_there ob.phase ≡ true → Along P (go ob)) → Along P (on_object (slice_get objects k) go)
  object_leads objects k go there h = grind (arith, h)

  place_leads : (found : Option ℕ) (none : Next S) (go : ℕ → Next S) → (found ≡ None → Along P none) → ((old : ℕ) → found ≡ Some old → Along P (go old)) → Along P (on_place found none go)
  place_leads found none go h g = grind (arith, h, g)

  if_leads : (b : Bool) (first next : Next S) → (b ≡ true → Along P first) → (b ≡ false → Along P next) → Along P (if b then first else next)
  if_leads b first next h g = grind (arith, h, g)

  field_leads : (classes : List Class) (class r : ℕ) (held : Heap) (go : Object → Next S) → IsThere held.objects r → ((j : ℕ) (o : Object) → r ≡ suc j → slice_get held.objects j ≡ Some o → is_there o.phase ≡ true → Along P (go o)) → Along P (on_field classes class r held go)
  field_leads classes class zero held go there h = tt
  field_leads classes class (suc j) held go there h = search (arith, object_leads, if_leads)

  -- the last reference, which is held, and the others
  reference_leads : {deeper places : List ℕ} (names : List ℕ) (go : ℕ → List ℕ → Next S) → Refs deeper places names → length deeper < length names → ((r : ℕ) (rest : List ℕ) → length names ≡ suc (length rest) → IsHeld r places → Refs deeper places rest → Along P (go r rest)) → Along P (on_top names go)
  reference_leads [] go refs some h = absurd (omega (arith, some))
  reference_leads (r ∷ rest) go refs some h = let parts = refs_split refs.own r rest refs.is refs.held (omega (arith, some)) in h r rest refl parts.0 parts.1

  left_leads : (held : Heap) (go : Heap → Next S) → held.temporaries ≡ [] → all_nil held.variables ≡ true → Along P (go (with_variables held [])) → Along P (on_left held.temporaries held go)
  left_leads held go none nil h = grind arith

  -- all variables but the last one are nil
  last_leads : (variables : List ℕ) (go : ℕ → Next S) → 1 ≤ length variables → Shut gives.Object 0 variables → ((r : ℕ) → ((k : ℕ) → holders (suc k) variables ≡ holders (suc k) (r ∷ [])) → Along P (go r)) → Along P (on_last variables go)
  last_leads (suc k ∷ q ∷ rest) go some shut h = absurd (shut 0 k (omega arith) (omega arith) refl)
  last_leads (zero ∷ q ∷ rest) go some shut h = last_leads (q ∷ rest) go (omega arith) (λ i k above lt. shut (suc i) k (omega arith) (omega (arith, lt))) (λ r is. h r (λ k. grind (arith, nat_tests, is k)))
  last_leads _ go some shut h = search arith

  result_leads : (held : Heap) (go : ℕ → Heap → Next S) → held.temporaries ≡ [] → 1 ≤ length held.variables → Shut gives.Object 0 held.variables → ((r : ℕ) → ((k : ℕ) → holders (suc k) held.variables ≡ holders (suc k) (r ∷ [])) → Along P (go r (with_variables held []))) → Along P (on_result held.temporaries held go)
  result_leads held go none some shut h = search (arith, last_leads)

module _ (p : Program) (R : resolved.Program) where
  -- in a function that gives this
  abbrev Goes_to : Gives → ℕ → Height → Type 0
  Goes_to mine = stepping.Goes R (all R) (table R) mine

  abbrev Clear : ℕ → ℕ → Type 0
  Clear = Clears R (all R) (table R)

  abbrev Is_free : ℕ → Type 0
  Is_free = Free R (all R) (table R)

  -- where the temporary before the last one is dropped, or the made object gets `init`, the last references and the
  -- last temporaries are those of that object
  abbrev Ready : ℕ → (deeper names temporaries places : List ℕ) → Type 0
  Ready pc deeper names temporaries places = Is_free pc ⊎ ((Quiet R (all R) (table R) pc × Made deeper names temporaries places) ⊎ ((slice_get (all R) pc ≡ Some Settle) × Initialized deeper names temporaries places))

  -- ---- what runs, and what waits

  -- a function runs above none of whose fields are destroyed
  abbrev Runs : List ReturnFrame → Type 0
  Runs (Clearing back w o fields ∷ others) = ⊥
  Runs _ = Unit {0}

  abbrev pub IsEnding : List ReturnFrame → Type 0
  IsEnding (Ending back w o next left ∷ others) = Unit {0}
  IsEnding (Clearing back w o fields ∷ others) = Unit {0}
  IsEnding _ = ⊥

  -- there is as much as a height says, above so many numbers and these references
  pub record Sized (h : Height) (below : ℕ) (deeper : List ℕ) (numbers : ℕ) (names temporaries variables : List ℕ) : Type 0 where
    count : numbers ≡ h.numbers + below
    size : length names ≡ h.names + length deeper
    few : length temporaries ≤ h.temporaries
    many : length variables ≡ h.variables

  -- a function that gives this goes on at a place, with so many numbers and these references and places, above what waits
  pub record Level (Below : Gives → ℕ → (names places : List ℕ) → Type 0) (at self : ℕ) (frames : List ReturnFrame) (numbers : ℕ) (names temporaries variables places : List ℕ) : Type 0 where
    mine : Gives
    below : ℕ
    deeper : List ℕ
    high : Height
    stands : Stands R (all R) (table R) mine at high
    sized : Sized high below deeper numbers names temporaries variables
    refs : Refs deeper (temporaries ++ places) names
    nil : (k : ℕ) → Clear k at → Shut mine k variables
    ready : Ready at deeper names temporaries places
    alive : Alive frames places self
    runs : Runs frames
    waits : Below mine below deeper places

  -- A function or the end of an object goes on, above what waits for a function that gives a number or an object.
  abbrev pub GoesOn : (Below : Gives → ℕ → (names places : List ℕ) → Type 0) → (at self : ℕ) → List ReturnFrame → (numbers : ℕ) → (names temporaries variables places : List ℕ) → Type 0
  GoesOn Below at self frames numbers names temporaries variables places =
      Level Below at self frames numbers names temporaries variables places
      ⊎ ((at ≡ p.end_step) × (temporaries ≡ []) × (variables ≡ []) × IsEnding frames × Alive frames places self × Below gives.Number numbers names places)

  -- what waits goes on, with these references and temporaries more
  abbrev pub Resumed : (Below : Gives → ℕ → (names places : List ℕ) → Type 0) → (back : ℕ) → Waiter → List ReturnFrame → ℕ → (more names places : List ℕ) → Type 0
  Resumed Below back w others n more names places = GoesOn Below back w.self others n (more ++ names) (more ++ take w.temporaries places) (take w.variables (drop w.temporaries places)) (drop w.variables (drop w.temporaries places))

  -- so many numbers, and these references and places, wait for a function that gives this; what a call gives isn't there yet
  abbrev pub Waits : List ReturnFrame → Gives → ℕ → (names places : List ℕ) → Type 0
  Waits [] given n names places = Numbers given (Unit {0})
  Waits (Calling back w ∷ others) given n names places = (r : ℕ) → Resumed (Waits others) back w others (with_number given n) (result_names given r) names places
  Waits (Ending back w o next left ∷ others) given n names places = Numbers given (Resumed (Waits others) back w others n [] names places)
  Waits (Clearing back w o fields ∷ others) given n names places = Numbers given (Resumed (Waits others) back w others n [] names places)

  abbrev pub Typed : State → Type 0
  Typed s = GoesOn (Waits s.frames) s.at s.held.self s.frames (length s.stack) s.held.names s.held.temporaries s.held.variables s.held.places

  -- and the counts are right
  abbrev pub Good : State → Type 0
  Good s = Typed s × Counted p.classes s

  abbrev Leads : Next State → Type 0
  Leads = Along Good

  -- a function begins with so many numbers and these references
  begins : {Below : Gives → ℕ → (names places : List ℕ) → Type 0} {mine : Gives} {to self takes objects numbers : ℕ} {frames : List ReturnFrame} {names places : List ℕ} (below : ℕ) (given deeper : List ℕ) → Goes_to mine to (height takes objects 0 0) → names ≡ given ++ deeper → length given ≡ objects → numbers ≡ takes + below → AllHeld given places → Alive frames places self → Runs frames → Below mine below deeper places
      → Level Below to self frames numbers names [] [] places
  begins {mine = mine} below given deeper g is some count held alive runs waits = record { mine = mine; below = below; deeper = deeper; high = _; stands = g.0; sized = grind (arith, length-append {A = ℕ}); refs = record { own = given; is = is; held = held }; nil = λ k c. shut_end mine [] k (omega arith); ready = inl g.2; alive = alive; runs = runs; waits = waits }

  -- the end of an object begins, after which what runs goes on
  begins_leads : (s : State) (b : Bool) (back k : ℕ) (ob : Object) (h : Heap) → object_at h.objects (suc k) ≡ Some ob → is_live (Some ob) ≡ true → Drops p.classes (suc k) h → AllDying h.objects (ending s.frames) → AllApart (ending s.frames) → GoesOn (Waits s.frames) back h.self s.frames (length s.stack) h.names h.temporaries h.variables h.places
      → Leads (begins_end p s back (suc k) ob.class (with_things (lowered (suc k) h) (with_object h.objects (suc k) (in_phase Dying ob))) b)
  begins_leads s false back k ob h found live drops dying distinct later = tt
  begins_leads s true back k ob h found live drops dying distinct later =
      let x = in_phase Dying ob in
      let apart = live_apart h.objects k ob (ending s.frames) found live dying in (
        inr (refl, refl, refl, tt, λ objects there ends. ends.0, as_waits (GoesOn (Waits s.frames) back h.self s.frames (length s.stack) h.names) h later),
        (sane_last h k ob found (grind arith) drops, ((x, set_here h.objects k x ob found, refl), apart_dying h.objects k x (ending s.frames) apart dying), (apart, distinct)),
      )

  -- a place that named this is dropped, after which the run goes on, or comes back
  drops_leads : (s : State) (r back : ℕ) (h : Heap) (stays : Heap → Next State) → Drops p.classes r h → AllDying h.objects (ending s.frames) → AllApart (ending s.frames) → GoesOn (Waits s.frames) back h.self s.frames (length s.stack) h.names h.temporaries h.variables h.places → (Sane p.classes (lowered r h) → Leads (stays (lowered r h)))
      → Leads (lets_go r h stays (λ o class h1. begins_end p s back o class h1 (has_level s)))
  drops_leads s r back h stays drops dying distinct later on = search (arith, lowers, begins_leads, keeps_there, nat_tests)

  -- ---- one step of a function

  module _ (s : State) (r : Level (Waits s.frames) s.at s.held.self s.frames (length s.stack) s.held.names s.held.temporaries s.held.variables s.held.places) (c : Counted p.classes s) (classes : p.classes ≡ classes_linked R) where
    -- what temporaries and the places of those that wait name
    abbrev stays_held : List ℕ
    stays_held = s.held.temporaries ++ s.held.places

    places_there : AllThere s.held.objects (all_places s.held)
    places_there = keeps_there c.0

    self_there : IsThere s.held.objects s.held.self
    self_there = r.alive s.held.objects (λ k some. places_there k (omega (arith, holders_append, some))) (ends_there s.held.objects s.frames c.1)

    is_held : (q : ℕ) → IsHeld q stays_held → IsThere s.held.objects q
    is_held q h = held_there s.held.objects s.held.temporaries s.held.variables s.held.places q h (λ k some. places_there k (omega (arith, holders_append, some)))

    variable_there : (i q : ℕ) → slice_get s.held.variables i ≡ Some q → IsThere s.held.objects q
    variable_there i q found = place_there s.held.objects i q s.held.variables found (λ k some. places_there k (omega (arith, holders_append, some)))

    global_there : (i : ℕ) → IsThere s.held.objects (name_at s.held.strong_globals i)
    global_there i = name_there s.held.objects s.held.strong_globals i (λ k some. places_there k (omega (arith, holders_append, some)))

    -- the variables once an operation is done
    abbrev declared : Op → List ℕ → List ℕ
    declared Declare variables = 0 ∷ variables
    declared _ variables = variables

    -- an object that it makes is the last reference, and the last temporary
    abbrev IsMade : Op → (names temporaries : List ℕ) → Type 0
    IsMade Alloc names temporaries = Made r.deeper names temporaries s.held.places
    IsMade _ names temporaries = Unit {0}

    -- the last reference, which is held and is there, and the others
    last_is : (P : State → Type 0) (go : ℕ → List ℕ → Next State) → 1 ≤ r.high.names → ((q : ℕ) (rest : List ℕ) → length s.held.names ≡ suc (length rest) → IsHeld q stays_held → IsThere s.held.objects q → Refs r.deeper stays_held rest → Along P (go q rest)) → Along P (on_top s.held.names go)
    last_is P go some h = reference_leads P s.held.names go r.refs (omega (arith, some)) (λ q rest e now. h q rest e now (is_held q now))

    -- what an operation leaves; how much that is the table of effects says
    record Kept (x : Op) (t : State) : Type 0 where
      refs1 : Refs r.deeper (t.held.temporaries ++ s.held.places) t.held.names
      self1 : t.held.self ≡ s.held.self
      variables1 : t.held.variables ≡ declared x s.held.variables
      made1 : IsMade x t.held.names t.held.temporaries
      counted1 : Counted p.classes t

    ruleset operations = (top_leads, found_leads, named_leads, object_leads, field_leads, refs_more, refs_taken, held_here, gains, sane_make, made_dying, nat_tests)

    operation_keeps : (x : Op) → Reaches x r.high → Along (Kept x) (operates p.classes x s)
    operation_keeps (ReadField class index) needs = last_is _ _ (omega arith) (λ q rest _ _ there refs. field_leads _ p.classes class q s.held _ there (λ j ob same found now.
        let named = name_there s.held.objects ob.strong index (fields_there s.held j ob found now c.0) in search (arith, operations, named, c.0, c.1, c.2)))
    operation_keeps NotSame needs = last_is _ _ (omega arith) (λ q rest e now there refs. reference_leads _ rest _ refs (omega arith) (λ q1 others _ also refs1. search (arith, operations, is_held, c.0, c.1, c.2)))
    operation_keeps (SetField class index) needs = last_is _ _ (omega arith) (λ q rest _ _ there refs. top_leads _ s.stack _ (omega arith) (λ v _ _. field_leads _ p.classes class q s.held _ there (λ j ob same found _.
        let x = with_fields ob (slice_set ob.fields index v) in
        let set : Sane p.classes (with_things s.held (slice_set s.held.objects j x)) = sane_turned s.held j ob x found (λ k. refl) (λ f. record { there = f.there; held = f.held; sized = f.sized }) c.0 in
        rw same (record { refs1 = refs; self1 = refl; variables1 = refl; made1 = tt; counted1 = (set, changed_dying s.held.objects j ob x (ending s.frames) found (λ fields far. grind arith) c.1, c.2) }))))
    operation_keeps x needs = first_of (search (arith, top_leads, found_leads (Kept x)) depth 8, search (arith, operations, self_there, global_there, variable_there, found_leads (Kept x), c.0, c.1, c.2) depth 8, search (arith, operations, last_is (Kept x), field_leads (Kept x), c.0, c.1, c.2) depth 8)

    -- ---- the function goes on

    level : {to numbers : ℕ} {names temporaries variables : List ℕ} {h : Height} → Stands R (all R) (table R) r.mine to h → Sized h r.below r.deeper numbers names temporaries variables → Refs r.deeper (temporaries ++ s.held.places) names → ((k : ℕ) → Clear k to → Shut r.mine k variables) → Ready to r.deeper names temporaries s.held.places
        → GoesOn (Waits s.frames) to s.held.self s.frames numbers names temporaries variables s.held.places
    level stands sized refs nil ready = inl (record { mine = r.mine; below = r.below; deeper = r.deeper; high = _; stands = stands; sized = sized; refs = refs; nil = nil; ready = ready; alive = r.alive; runs = r.runs; waits = r.waits })

    -- with any variables
    go_on : {to numbers : ℕ} {names temporaries variables : List ℕ} {h : Height} → Goes_to r.mine to h → Sized h r.below r.deeper numbers names temporaries variables → Refs r.deeper (temporaries ++ s.held.places) names
        → GoesOn (Waits s.frames) to s.held.self s.frames numbers names temporaries variables s.held.places
    go_on {variables = variables} g sized refs = level g.0 sized refs (λ k c. let le = g.1 k c in shut_end r.mine variables k (omega (arith, le, sized.many))) (inl g.2)

    shut_before : (x : Op) → slice_get (all R) s.at ≡ Some (Plain x) → (k : ℕ) → Clear k s.at → Shut r.mine k s.held.variables → Shut r.mine k (declared x s.held.variables)
    shut_before Declare is k before shut = absurd (inside_clears R (all R) (table R) s.at Stays tt (ap role_of is) k before)
    shut_before _ is k before shut = shut

    operation_leads : (x : Op) → slice_get (all R) s.at ≡ Some (Plain x) → Steps R (all R) (table R) r.mine r.high s.at (Plain x) → Leads (operates p.classes x s)
    operation_leads x is st = along_both (Kept x) (Follows (operation_effect x) s) Good (λ t kept f. (
      rw (f.frames, f.at, f.places, kept.self1) (level st.1.0 (omega (arith, enough x r.high st.0, f)) kept.refs1
          (λ k c. ⊎_elim (λ before. subst (Shut r.mine k) (sym kept.variables1) (shut_before x is k before (r.nil k before))) (λ le. shut_end r.mine t.held.variables k (omega (arith, f.variables, le))) (st.1.1 k c))
          (⊎_elim (λ free. inl free) (λ q. inr (inl (q.1, subst (λ y. IsMade y t.held.names t.held.temporaries) q.0 kept.made1))) st.2)),
      kept.counted1,
    ))
        (operates p.classes x s) (operation_keeps x st.0) (operation_follows p.classes s x)

    -- ---- what begins the end of an object, or leaves the function

    releases_lead : (q : ℕ) (h : Heap) → Drops p.classes q h → AllDying h.objects (ending s.frames) → GoesOn (Waits s.frames) (s.at + 1) h.self s.frames (length s.stack) h.names h.temporaries h.variables h.places → Leads (releases p s q h)
    releases_lead q h drops dying on = drops_leads s q (s.at + 1) h _ drops dying c.2 on (λ sane. (on, (sane, dying, c.2)))

    names_none : r.high.names ≡ 0 → s.held.names ≡ r.deeper
    names_none none = let own = nil_from_length r.refs.own (omega (arith, none, ap length r.refs.is, length-append {A = ℕ})) in grind arith

    -- the temporaries are dropped, where there is no reference
    drops_lead : (temporaries : List ℕ) (counts : ℕ → ℕ) → Is_free s.at → r.high.names ≡ 0 → Goes_to r.mine (s.at + 1) (record r.high { temporaries = 0 }) → length temporaries ≤ r.high.temporaries → Sane p.classes (record s.held { temporaries = temporaries; counts = counts }) → Leads (instructions.drops_all (bare p) s temporaries (record s.held { temporaries = temporaries; counts = counts }))
    drops_lead [] counts free none g few sane = (go_on g (omega arith) (refs_none s.held.names (names_none none)), (sane, c.1, c.2))
    drops_lead (q ∷ others) counts free none g few sane =
        drops_leads s q s.at (record s.held { temporaries = others; counts = counts }) _ (sane_moved (λ k. grind (arith, holders_append)) sane) c.1 c.2
        (level r.stands (omega (arith, few)) (refs_none s.held.names (names_none none)) r.nil (inl free)) (drops_lead others _ free none g (omega (arith, few)))

    -- what waits for the function is given one number, or none
    handed_on : (n : ℕ) → r.high.numbers ≡ 1 → r.high.names ≡ 0 → length s.stack ≡ suc n → Waits s.frames r.mine n s.held.names s.held.places
    handed_on n one none e =
        let below : r.below ≡ n = omega arith in
        rw (names_none none) (subst (λ m. Waits s.frames r.mine m r.deeper s.held.places) below r.waits)

    leaves_lead : (frames : List ReturnFrame) (v : ℤ) (rest : List ℤ) → length s.stack ≡ suc (length rest) → s.held.temporaries ≡ [] → ((k : ℕ) → holders (suc k) s.held.variables ≡ 0) → AllDying s.held.objects (ending frames) → AllApart (ending frames) → Alive frames s.held.places s.held.self → Runs frames → Waits frames gives.Number (length rest) s.held.names s.held.places
        → Leads (instructions.leaves (bare p) (record s { frames = frames }) frames v rest (with_variables s.held []))
    leaves_lead (Calling back w ∷ others) v rest size none nil dying distinct alive runs waits = rw size (waits 0, (resumed_sane w s.held none nil c.0, dying, distinct))
    leaves_lead _ v rest size none nil dying distinct alive runs waits = search (arith, sane_moved, holders_append)

    hands_lead : (frames : List ReturnFrame) (q : ℕ) (rest : List ℤ) → s.held.temporaries ≡ [] → ((k : ℕ) → holders (suc k) s.held.variables ≡ holders (suc k) (q ∷ [])) → AllDying s.held.objects (ending frames) → AllApart (ending frames) → Waits frames gives.Object (length rest) s.held.names s.held.places
        → Leads (instructions.hands_over (bare p) (record s { frames = frames }) frames q rest (with_variables s.held []))
    hands_lead (Calling back w ∷ others) q rest none last dying distinct waits = (waits q, (sane_moved (λ k. grind (arith, holders_append, resumed_holders (suc k) w s.held, last k)) c.0, dying, distinct))
    hands_lead _ q rest none last dying distinct waits = absurd waits

    -- ---- calls

    -- where a run stands after a call that takes so many numbers and references
    abbrev After_call : (wanted : Gives) → (taken objects : ℕ) → Type 0
    After_call wanted taken objects =
        let x = after_effect r.high (giving wanted taken objects) in
        Stands R (all R) (table R) r.mine (s.at + 1) x × ((k : ℕ) → Clear k (s.at + 1) → x.variables ≤ k + as_object r.mine)

    -- what is there after a call that takes the references before these
    abbrev Ready_after : (wanted : Gives) → (rest : List ℕ) → Type 0
    Ready_after wanted rest = (q : ℕ) → Ready (s.at + 1) r.deeper (result_names wanted q ++ rest) (result_names wanted q ++ s.held.temporaries) s.held.places

    -- the function goes on once so many numbers and the references before these are taken, and what is wanted is there
    abbrev Home : (wanted : Gives) → (numbers : ℕ) → List ℕ → Type 0
    Home wanted numbers rest = (q : ℕ) → GoesOn (Waits s.frames) (s.at + 1) s.held.self s.frames (with_number wanted numbers) (result_names wanted q ++ rest) (result_names wanted q ++ s.held.temporaries) s.held.variables s.held.places

    home : (wanted : Gives) (taken objects n : ℕ) (rest : List ℕ) → (taken ≤ r.high.numbers) × (objects ≤ r.high.names) → After_call wanted taken objects → Ready_after wanted rest → Refs r.deeper stays_held rest → length s.stack ≡ taken + n → length s.held.names ≡ objects + length rest → Home wanted n rest
    home gives.Number taken objects n rest needs g ready refs numbers names q = level g.0 (omega (arith, needs)) refs (λ k c. let le = g.1 k c in shut_end r.mine s.held.variables k (omega (arith, le))) (ready q)
    home gives.Object taken objects n rest needs g ready refs numbers names q = level g.0 (omega (arith, needs)) (refs_more q rest (held_here q stays_held) (refs_taken q rest refs)) (λ k c. let le = g.1 k c in shut_end r.mine s.held.variables k (omega (arith, le))) (ready q)

    -- what is wanted is given without a call
    at_once_leads : (wanted : Gives) (object : ℕ) (stack1 : List ℤ) (names0 rest : List ℕ) → Home wanted (length stack1) rest → IsThere s.held.objects object → Leads (instructions.gives_at_once (bare p) (record s { held = with_names s.held names0 }) wanted object stack1 rest)
    at_once_leads gives.Number object stack1 names0 rest home1 there = (home1 object, c)
    at_once_leads gives.Object object stack1 names0 rest home1 there = named_leads Good object (with_names s.held (object ∷ rest)) _ there (home1 object, (gains object there c.0, c.1, c.2))

    -- what is found is entered with so many numbers, and with the references before these
    answers_lead : (found : Option ℕ) (wanted : Gives) (self1 taken : ℕ) (given rest names1 : List ℕ) → names1 ≡ given ++ rest → ((to : ℕ) → found ≡ Some to → Goes_to wanted to (height taken (length given) 0 0)) → taken ≤ length s.stack → AllHeld given stays_held → Alive s.frames (stacked s.held) self1 → Home wanted (length s.stack - taken) rest
        → Leads (answers (record s { held = with_names s.held names1 }) self1 found)
    answers_lead None wanted self1 takes given rest names1 is begun le kept alive home1 = tt
    answers_lead (Some to) wanted self1 takes given rest names1 is begun le kept alive home1 =
        let waits = λ (q : ℕ). as_waits (λ temporaries. GoesOn (Waits s.frames) (s.at + 1) s.held.self s.frames (with_number wanted (length s.stack - takes)) (result_names wanted q ++ rest) (result_names wanted q ++ temporaries)) s.held (home1 q) in
        by_test (λ b. Leads (enters (record s { held = with_names s.held names1 }) to self1 b)) (has_level s) (λ _. (inl (begins (length s.stack - takes) given rest (begun to refl) is refl (omega arith) (λ k some. grind (arith, holders_append, kept k)) alive tt waits), c)) (λ _. tt)

    finds : (from : Option ℕ) (sign : Sign) (selector takes objects : ℕ) (wanted : Gives) (to : ℕ) → lookup p.classes from sign selector takes objects wanted ≡ Some to → Goes_to wanted to (height (passes sign takes) objects 0 0)
    finds from sign selector takes objects wanted to e = methods_go R from sign selector takes objects wanted to (subst (λ cs. lookup cs from sign selector takes objects wanted ≡ Some to) classes e)

    -- what is found is called with the last so many references
    calls_lead : (found : Option ℕ) (wanted : Gives) (takes objects : ℕ) → ((to : ℕ) → found ≡ Some to → Goes_to wanted to (height takes objects 0 0)) → (takes ≤ r.high.numbers) × (objects ≤ r.high.names) → Goes_to r.mine (s.at + 1) (after_effect r.high (giving wanted takes objects)) → Leads (answers s 0 found)
    calls_lead found wanted takes objects begun needs g =
        let parts = refs_take objects s.held.names (omega (arith, needs.1)) r.refs in
        let some = length-take-le objects s.held.names (omega (arith, needs.1)) in
        answers_lead found wanted 0 takes (take objects s.held.names) (drop objects s.held.names) s.held.names (sym (take-append-drop objects s.held.names)) (λ to e. rw some (begun to e)) (omega (arith, needs.0)) parts.0 (λ things there ends. tt)
        (home wanted takes objects (length s.stack - takes) (drop objects s.held.names) needs (g.0, g.1) (λ q. inl g.2) parts.1 (omega (arith, needs.0)) (omega (arith, needs.1, length-drop objects s.held.names)))

    -- a message to the object of the reference below so many others
    message_leads : (wanted : Gives) (from : Object → ℕ) (selector takes objects : ℕ) → (takes ≤ r.high.numbers) × (suc objects ≤ r.high.names) → After_call wanted takes (suc objects) → Ready_after wanted (drop (suc objects) s.held.names)
        → Leads (instructions.on_receiver objects s.held.names (λ q rest. sends p s wanted from q selector takes objects rest))
    message_leads wanted from selector takes objects needs g ready = found_leads Good s.held.names objects _ (omega (arith, needs.1)) (λ q found. message_sent q (refs_at objects q s.held.names (omega (arith, needs.1)) found r.refs))
      where
        given : List ℕ
        given = take objects s.held.names

        rest : List ℕ
        rest = drop (suc objects) s.held.names

        some : length given ≡ objects
        some = length-take-le objects s.held.names (omega (arith, needs.1))

        home1 : (n : ℕ) → length s.stack ≡ takes + n → Home wanted n rest
        home1 n m = home wanted takes (suc objects) n rest needs g ready (refs_take (suc objects) s.held.names (omega (arith, needs.1)) r.refs).1 m (omega (arith, needs.1, length-drop (suc objects) s.held.names))

        -- by what it finds; the root's own `init` takes no argument
        object_answers : (q : ℕ) (found : Option ℕ) → IsHeld q stays_held → ((to : ℕ) → found ≡ Some to → Goes_to wanted to (height takes objects 0 0)) → Leads (instructions.answers_object (bare p) (record s { held = with_names s.held (given ++ rest) }) wanted q selector takes objects found)
        object_answers q None now begun = if_leads Good (is_root_init selector takes objects wanted) _ _
            (λ root.
            let nothing : (takes ≡ 0) × (objects ≡ 0) = grind (arith, nat_tests) in
            let none = nil_from_length given (omega (arith, some, nothing.1)) in
            at_once_leads wanted q s.stack (given ++ rest) (given ++ rest) (subst (λ l. Home wanted (length s.stack) (l ++ rest)) (sym none) (home1 (length s.stack) (omega (arith, nothing.0)))) (is_held q now))
            (λ other. tt)
        object_answers q (Some to) now begun =
            answers_lead (Some to) wanted q takes given rest (given ++ rest) refl (λ to1 e. rw some (begun to1 e)) (omega (arith, needs.0)) (refs_take objects s.held.names (omega (arith, needs.1)) r.refs).0
            (λ things there ends. held_there things s.held.temporaries s.held.variables s.held.places q now there) (home1 (length s.stack - takes) (omega (arith, needs.0)))

        message_sent : (q : ℕ) → IsHeld q stays_held → Leads (sends p s wanted from q selector takes objects (given ++ rest))
        message_sent zero now = taken_leads Good takes s.stack _ (omega (arith, needs.0)) (λ numbers m.
            subst (λ l. Leads (instructions.gives_at_once (bare p) s wanted 0 numbers l)) (sym (ap (λ n. drop n (given ++ rest)) (sym some) ∙ drop-append_seam given rest))
            (at_once_leads wanted 0 numbers s.held.names rest (home1 (length numbers) m) tt))
        message_sent (suc j) now = object_leads Good s.held.objects j _ (is_held (suc j) now) (λ ob found there. object_answers (suc j) _ now (finds (Some (from ob)) signs.Instance selector takes objects wanted))

    -- after a message to a made object what `init` gives is there, and elsewhere nothing matters
    init_ready : (wanted : Gives) (selector takes objects : ℕ) → slice_get (all R) s.at ≡ Some (SendTo selector takes objects wanted) → Ready s.at r.deeper s.held.names s.held.temporaries s.held.places
        → Is_free (s.at + 1) ⊎ ((takes ≡ 0) × (objects ≡ 0) × (wanted ≡ gives.Object) × (slice_get (all R) (s.at + 1) ≡ Some Settle)) → Ready_after wanted (drop (suc objects) s.held.names)
    init_ready wanted selector takes objects is ready (inl f) q = inl f
    init_ready wanted selector takes objects is (inl f) (inr i) q = absurd (f.1 (ap role_of is) (ap role_of i.3))
    init_ready wanted selector takes objects is (inr (inr over)) (inr i) q = absurd (cc)
    init_ready wanted selector takes objects is (inr (inl made)) (inr i) q =
        rw (i.1, i.2) (inr (inr (i.3, (omega arith, omega (arith, made.1.0), refl, made.1.1))))

    settles_lead : (names temporaries : List ℕ) → s.held.names ≡ names → s.held.temporaries ≡ temporaries → Ready s.at r.deeper names temporaries s.held.places → slice_get (all R) s.at ≡ Some Settle → Goes_to r.mine (s.at + 1) (record r.high { temporaries = r.high.temporaries - 1 }) → Leads (instructions.settles (bare p) s temporaries)
    settles_lead names temporaries same held (inl free) is g = absurd (free.0 (ap role_of is))
    settles_lead names temporaries same held (inr (inl made)) is g = absurd (made.0 (ap role_of is))
    settles_lead (q ∷ rest) (given ∷ made ∷ others) same held (inr (inr over)) is g =
        let last : q ≡ given = cc in
        releases_lead made (with_temporaries s.held (given ∷ others)) (sane_moved (λ k. second_moves (suc k) s.held given made others held) c.0) c.1
        (go_on g (omega (arith, ap length held)) (rw (same, last) (refs_more given rest (held_here given _) (refs_taken given rest over.1.3))))
    settles_lead _ _ same held (inr (inr over)) is g = absurd (grind arith)

    -- a variable, or one of the whole program, takes this
    takes_lead : (variables strong_globals : List ℕ) (old q : ℕ) → IsThere s.held.objects q → ((k : ℕ) → holders k (old ∷ all_places (record s.held { variables = variables; strong_globals = strong_globals })) ≡ tally k q + holders k (all_places s.held))
        → GoesOn (Waits s.frames) (s.at + 1) s.held.self s.frames (length s.stack) s.held.names s.held.temporaries variables s.held.places → Leads (releases p s old (raised q (record s.held { variables = variables; strong_globals = strong_globals })))
    takes_lead variables strong_globals old q there moves on = releases_lead old _ (sane_moved (λ k. omega (arith, holders_head, moves (suc k))) (gains q there c.0)) c.1 on

    action_leads : (x : PlainAction) → slice_get (all R) s.at ≡ Some x → (role x ≡ Ends → ⊥) → Steps R (all R) (table R) r.mine r.high s.at x → ((wanted : Gives) (f : ℕ) → IsCalled R wanted f → Goes_to wanted (entry p f) (height (slots_of R wanted f) (parameters_of R wanted f) 0 0)) → Leads (does p x s)
    action_leads (Plain x) is no_end st calls = operation_leads x is st
    action_leads (PrintText bytes) is no_end st calls = top_leads Good s.stack _ (omega (arith, st.0)) (λ v rest e. (go_on st.1 (omega (arith, st.0, e)) r.refs, c))
    action_leads (Jump to) is no_end st calls = (go_on st.2 (omega (arith, st.1)) r.refs, c)
    action_leads (JumpZero to) is no_end st calls = top_leads Good s.stack _ (omega (arith, st.0)) (λ v rest e.
        by_test (λ b. Leads (chosen b (goes s rest) (Goes (record s { at = lands s.at to; stack = rest }) []))) (is_zero v)
        (λ _. (go_on st.2.2 (omega (arith, st.0, st.2.1, e)) r.refs, c))
        (λ _. (go_on st.1 (omega (arith, st.0, e)) r.refs, c)))
    action_leads (Call f wanted) is no_end st calls = calls_lead (Some (entry p f)) wanted (slots_of R wanted f) (parameters_of R wanted f)
        (λ to e. subst (λ q. Goes_to wanted q (height (slots_of R wanted f) (parameters_of R wanted f) 0 0)) (some_same (entry p f) to e) (calls wanted f st.0.1)) (st.0.0, st.0.2) st.1
    action_leads (Send selector takes objects wanted) is no_end st calls = found_leads Good s.stack takes _ (omega (arith, st.0.0)) (λ class _. calls_lead _ wanted (suc takes) objects (finds (class_at class) signs.Class selector takes objects wanted) st.0 st.1)
    action_leads (SendSuper from selector takes objects wanted) is no_end st calls = calls_lead _ wanted (suc takes) objects (finds (Some from) signs.Class selector takes objects wanted) st.0 st.1
    action_leads (SendTo selector takes objects wanted) is no_end st calls = message_leads wanted (λ ob. ob.class) selector takes objects st.0 st.1 (init_ready wanted selector takes objects is r.ready st.2)
    action_leads (SendToSuper from selector takes objects wanted) is no_end st calls = message_leads wanted (λ ob. from) selector takes objects st.0 (st.1.0, st.1.1) (λ q. inl st.1.2)
    action_leads (StoreStrong i) is no_end st calls =
        last_is Good _ st.0.0 (λ q rest _ _ there _. found_leads Good s.held.variables i _ (omega (arith, st.0.1)) (λ old found. named_leads Good q s.held _ there
        (takes_lead _ _ old q there (λ k. variable_moves k s.held i old q found) (go_on st.1 (omega (arith, st.0.0, length-set s.held.variables i q)) r.refs))))
    action_leads (StoreGlobal i) is no_end st calls =
        last_is Good _ st.0 (λ q rest _ _ there _. named_leads Good q s.held _ there (place_leads Good (slice_get s.held.strong_globals i) _ _ (λ _. (go_on st.1 (omega (arith, st.0)) r.refs, c))
        (λ old found. takes_lead _ _ old q there (λ k. global_moves k s.held i old q found) (go_on st.1 (omega (arith, st.0)) r.refs))))
    action_leads (StoreField class index) is no_end st calls =
        last_is Good _ (omega (arith, st.0)) (λ q rest e now there refs. reference_leads Good rest _ refs (omega (arith, st.0, e)) (λ q1 others f also refs1.
        named_leads Good q s.held _ there (field_leads Good p.classes class q1 s.held _ (is_held q1 also) (λ j ob same found alive. if_leads Good (is_emptying ob.phase) _ _ (λ _. tt) (λ calm.
        let on = go_on st.1 (omega (arith, st.0, e, f)) (refs_more q others now refs1) in
        place_leads Good (slice_get ob.strong index) _ _ (λ _. (on, c)) (λ old named.
        rw same (releases_lead old _ (sane_store_field (with_names s.held (q ∷ others)) j ob index old q found alive named there c.0) (changed_dying s.held.objects j ob (with_strong_fields ob (slice_set ob.strong index q)) (ending s.frames) found (λ fields far. grind arith) c.1) on)))))))
    action_leads (Empty i) is no_end st calls = found_leads Good s.held.variables i _ (omega (arith, st.0)) (λ q found.
        let variables = slice_set s.held.variables i 0 in
        let long = length-set s.held.variables i 0 in
        takes_lead _ _ q 0 tt (λ k. variable_moves k s.held i q 0 found) (level st.1 (omega (arith, long)) r.refs
        (λ k cl. ⊎_elim (λ same. subst (λ j. Shut r.mine j variables) (sym same) (shut_set r.mine i s.held.variables (r.nil (suc i) (ap role_of is, subst (λ j. Clear j (s.at + 1)) same cl)))) (λ le. shut_end r.mine variables k (omega (arith, long, le))) (st.2 k cl))
        (inl st.3)))
    action_leads DropAll is no_end st calls = drops_lead s.held.temporaries s.held.counts (calm_free R (all R) (table R) s.at Stays tt (ap role_of is)) (omega (arith, st.0)) st.1 (omega arith) c.0
    action_leads Settle is no_end st calls = settles_lead s.held.names s.held.temporaries refl refl r.ready is st
    action_leads Give is no_end st calls = top_leads Good s.stack _ (omega (arith, st.0)) (λ v rest e.
        let none = nil_from_length s.held.temporaries (omega (arith, st.2)) in
        result_leads Good s.held _ none (omega (arith, st.4)) (subst (λ g. Shut g 0 s.held.variables) st.3 (r.nil 0 (0, ap role_of is)))
        (λ q last. hands_lead s.frames q rest none last c.1 c.2 (subst (λ g. Waits s.frames g (length rest) s.held.names s.held.places) st.3 (handed_on (length rest) st.0 st.1 e))))
    action_leads Return is no_end st calls = top_leads Good s.stack _ (omega (arith, st.0)) (λ v rest e.
        let none = nil_from_length s.held.temporaries (omega (arith, st.2)) in
        let nil = nil_seen s.held.variables (subst (λ g. Shut g 0 s.held.variables) st.3 (r.nil 0 (0, ap role_of is))) in
        left_leads Good s.held _ none nil
        (leaves_lead s.frames v rest e none (λ k. none_named k s.held.variables nil) c.1 c.2 r.alive r.runs (subst (λ g. Waits s.frames g (length rest) s.held.names s.held.places) st.3 (handed_on (length rest) st.0 st.1 e))))
    action_leads EndStep is no_end st calls = absurd (no_end refl)

  -- ---- the end of an object goes on

  module _ (s : State) (at_end : s.at ≡ p.end_step) (none : s.held.temporaries ≡ []) (empty : s.held.variables ≡ []) (sane : Sane p.classes s.held) (classes : p.classes ≡ classes_linked R) where
    module _ (back : ℕ) (w : Waiter) (k : ℕ) (others : List ReturnFrame) (alive : Alive (Ending back w (suc k) None 0 ∷ others) s.held.places s.held.self) (later : Resumed (Waits others) back w others (length s.stack) [] s.held.names s.held.places) (dying : AllDying s.held.objects (ending others)) (distinct : AllApart (record { object = suc k; fields = None } ∷ ending others)) where
      -- what else ends is as far as before once the object is changed
      still : (x : Object) → AllDying (slice_set s.held.objects k x) (ending others)
      still x = apart_dying s.held.objects k x (ending others) distinct.0 dying

      module _ (ob : Object) (found : slice_get s.held.objects k ≡ Some ob) where
        -- it is gone, and its fields name nothing
        ends_leads : is_there ob.phase ≡ true → NilBut [] ob.strong → Leads (ends_object s back w (suc k) others)
        ends_leads there but = if_leads Good (nat_eq (s.held.counts (suc k)) 0) _ _ (λ e.
            let x = in_phase Gone ob in
            let gone = sane_turned s.held k ob x found (λ i. grind (arith, nil_named ob.strong but i)) (λ f. record { there = λ some. absurd (omega (arith, eqb-true (s.held.counts (suc k)) 0 e)); held = λ live. cc; sized = f.sized }) sane in
            left_leads Good s.held _ none (rw empty refl) (rw found (later, (resumed_sane w (with_things s.held (slice_set s.held.objects k x)) none (λ i. rw empty refl) gone, still x, distinct.1)))) (λ _. tt)

        -- its deallocs are done, and its fields are destroyed
        clears_leads : (fields : List ℕ) → ob.phase ≡ Dying → NilBut fields ob.strong → Leads (clears p s back w (suc k) fields others)
        clears_leads [] phase but = ends_leads (ap is_there phase) but
        clears_leads (index ∷ fields) phase but =
            let x = in_phase Emptying ob in
            let emptying = sane_turned s.held k ob x found (λ i. grind arith) (λ f. record { there = λ some. refl; held = λ live. cc; sized = f.sized }) sane in
            let turned : slice_set s.held.objects k x ≡ turned_in Emptying s.held.objects (suc k) = rw found refl in
            subst (λ l. Good (record s { frames = Clearing back w (suc k) (index ∷ fields) ∷ others; held = with_things s.held l })) turned (inr (at_end, none, empty, tt, alive, later), (emptying, ((x, set_here s.held.objects k x ob found, (refl, but)), still x), distinct))

        -- the next field lets go of what it names
        next_leads : (index : ℕ) (fields : List ℕ) → is_there ob.phase ≡ true → IsAsFar (Some (index ∷ fields)) ob → Leads (clears_next p (record s { frames = Clearing back w (suc k) fields ∷ others }) (suc k) index)
        next_leads index fields there far =
            let t = record s { frames = Clearing back w (suc k) fields ∷ others } in
            let on : Typed t = inr (at_end, none, empty, tt, alive, later) in
            let x = with_strong_fields ob (slice_set ob.strong index 0) in
            let dying1 : AllDying (slice_set s.held.objects k x) (ending t.frames) = ((x, set_here s.held.objects k x ob found, (far.0, one_nil index fields ob.strong far.1)), still x) in
            rw (found, there) (place_leads Good (slice_get ob.strong index) _ _
            (λ none. (on, (sane, ((ob, found, (far.0, no_field index fields ob.strong none far.1)), dying), distinct)))
            (λ old named. drops_leads t old s.at (raised 0 (with_strong_field s.held (suc k) ob index 0)) _ (sane_store_field s.held k ob index old 0 found there named tt sane) dying1 distinct on (λ sane1. (on, (sane1, dying1, distinct)))))

      module _ (dies : IsDying s.held.objects (suc k) None) where
        after_leads : Leads (after_deallocs p s back w (suc k) others)
        after_leads = rw (dies.1, ap is_there dies.2) (clears_leads dies.0 dies.1 (field_order p.classes dies.0.class) dies.2 (all_in_order p.classes dies.0 (fits_at k dies.0 dies.1 sane).sized))

        class_leads : (i : ℕ) (found : Option Class) (left : ℕ) → slice_get p.classes i ≡ found → Leads (ends_class p s back w (suc k) found left others)
        class_leads i None left e = after_leads
        class_leads i (Some d) left e = dealloc_leads d.dealloc (λ to f. dealloc_goes R i d to (ap (λ cs. slice_get cs i) (sym classes) ∙ e) f)
          where
            dealloc_leads : (to : Option ℕ) → ((at : ℕ) → to ≡ Some at → Goes_to gives.Number at (height 0 0 0 0)) → Leads (runs_dealloc to s (Ending back w (suc k) d.superclass left ∷ others))
            dealloc_leads None begun = (inr (at_end, none, empty, tt, alive, later), (sane, (dies, dying), distinct))
            dealloc_leads (Some at) begun = (rw (none, empty) (inl (begins (length s.stack) [] s.held.names (begun at refl) refl refl (omega arith) (λ i some. omega arith) alive tt later)), (sane, (dies, dying), distinct))

    goes_on_leads : (frames : List ReturnFrame) → IsEnding frames → Alive frames s.held.places s.held.self → Waits frames gives.Number (length s.stack) s.held.names s.held.places → AllDying s.held.objects (ending frames) → AllApart (ending frames) → Leads (end_goes_on p s frames)
    goes_on_leads (Ending back w (suc k) (Some i) (suc left) ∷ others) is alive waits dying distinct = class_leads back w k others alive waits dying.1 distinct dying.0 i (slice_get p.classes i) left refl
    goes_on_leads (Ending back w (suc k) next left ∷ others) is alive waits dying distinct = after_leads back w k others alive waits dying.1 distinct dying.0
    goes_on_leads (Clearing back w (suc k) [] ∷ others) is alive waits dying distinct = search (arith, ends_leads)
    goes_on_leads (Clearing back w (suc k) (index ∷ fields) ∷ others) is alive waits dying distinct = next_leads back w k others alive waits dying.1 distinct dying.0.0 dying.0.1 index fields (ap is_there dying.0.2.0) dying.0.2
    goes_on_leads _ is alive waits dying distinct = first_of (cc, grind arith)

  -- ---- the program

  module _ (is : plain_actions p.actions ≡ lowered_actions R) (entries : p.entries ≡ entries_of R) (classes : p.classes ≡ classes_linked R) (end : p.end_step ≡ end_step_of R) where
    step_does : (s : State) (x : PlainAction) → slice_get (lowered_actions R) s.at ≡ Some x → step p s ≡ does p x s
    step_does s x e = executes_at p p.actions s.at x s (ap (λ l. slice_get l s.at) is ∙ e)

    pub step_leads : (s : State) → Good s → Leads (step p s)
    step_leads s (inl r, c) =
        let x = r.stands.plain_action in
        let st = steps_at R s.at x r.stands.is in
        let mark : Height × Gives = (r.high, r.mine) in
        let same : st.0 ≡ mark = some_same st.0 mark (sym st.1 ∙ r.stands.height) in
        rw (step_does s x r.stands.is) (action_leads s r c classes x r.stands.is r.stands.no_end (subst (λ (m : Height × Gives). Steps R (all R) (table R) m.1 m.0 s.at x) same st.2) (λ wanted g called. entry_goes p R is entries wanted g called))
    step_leads s (inr (at_end, none, empty, is_ending, alive, waits), c) =
        rw (step_does s EndStep (ap (slice_get (lowered_actions R)) (at_end ∙ end) ∙ end_is R)) (goes_on_leads s at_end none empty c.0 classes s.frames is_ending alive waits c.1 c.2)

    safe : (n : ℕ) (s : State) → Good s → Safe (step p) (λ t. CountsAreExact t.held) n s
    safe zero s good = sane_counted s.held good.1.0
    safe (suc n) s good = along_map Good (Safe (step p) (λ t. CountsAreExact t.held) n) (safe n) (step p s) (step_leads s good)

    pub start_good : Good (start p)
    start_good = (
      inl (begins 0 [] [] (start_goes R) refl refl refl (λ k some. omega arith) (λ objects there ends. tt) tt tt),
      (record { counted = λ k. grind (arith, holders_append, nils_holders k p.strong_globals); right = λ k. refl }, tt, tt),
    )

    -- the actions of a lowered program are never stuck, and their counts are right
    pub lowered_never_stuck : Sound (step p) (λ s. CountsAreExact s.held) (start p)
    lowered_never_stuck = record { safe = λ n. safe n (start p) start_good }

-- ---- A step doesn't depend on what is counted for nil.

-- two steps lead to the same but for counts
abbrev Agree : Next State → Next State → Type 0
Agree a b = recount a ≡ recount b

object_agrees : (found : Option Object) (go go' : Object → Next State) → ((o : Object) → Agree (go o) (go' o)) → Agree (on_object found go) (on_object found go')
object_agrees found go go' h = grind (arith, h)

taken_agrees : (n : ℕ) (stack : List ℤ) (go go' : List ℤ → Next State) → ((rest : List ℤ) → Agree (go rest) (go' rest)) → Agree (taken n stack go) (taken n stack go')
taken_agrees (suc n) (v ∷ rest) go go' h = taken_agrees n rest go go' h
taken_agrees _ stack go go' h = search arith

last_agrees : (variables : List ℕ) (go go' : ℕ → Next State) → ((r : ℕ) → Agree (go r) (go' r)) → Agree (on_last variables go) (on_last variables go')
last_agrees (zero ∷ q ∷ others) go go' h = last_agrees (q ∷ others) go go' h
last_agrees _ go go' h = search arith

module _ (p : Program) (s : State) (right : CountsAreExact s.held) where
  abbrev t : State
  t = fresh s

  -- a message, by what it has found
  answers_agree : (self : ℕ) (found : Option ℕ) → Agree (answers s self found) (answers t self found)
  answers_agree self found = grind arith

  object_answers_agree : (wanted : Gives) (self selector takes objects : ℕ) (names : List ℕ) (found : Option ℕ) → Agree (instructions.answers_object (linked p) (record s { held = with_names s.held names }) wanted self selector takes objects found) (instructions.answers_object (linked p) (record t { held = with_names t.held names }) wanted self selector takes objects found)
  object_answers_agree wanted self selector takes objects names found = grind arith

  sends_agree : (wanted : Gives) (from : Object → ℕ) (self selector takes objects : ℕ) (names : List ℕ) → Agree (sends p s wanted from self selector takes objects names) (sends p t wanted from self selector takes objects names)
  sends_agree wanted from self selector takes objects names = search (arith, taken_agrees, object_agrees, object_answers_agree)

  -- the temporaries are dropped, with counts that are the same but for nil
  drops_agree : (ts : List ℕ) (h : Heap) (c : ℕ → ℕ) → ((k : ℕ) → h.counts (suc k) ≡ c (suc k)) → Agree (drops_all p s ts h) (drops_all p t ts (record h { counts = c }))
  drops_agree [] h c same = refl
  drops_agree (zero ∷ others) h c same = drops_agree others (lowered 0 (with_temporaries h others)) _ (λ k. grind (arith, same k))
  drops_agree (suc r ∷ others) h c same =
      let rest = drops_agree others (lowered (suc r) (with_temporaries h others)) (λ k. if nat_eq k (suc r) then c k - 1 else c k) (λ k. grind (arith, same k)) in
      grind (arith, same r)

  field_agrees : (class r : ℕ) (go go' : Object → Next State) → ((o : Object) → Agree (go o) (go' o)) → Agree (on_field p.classes class r s.held go) (on_field p.classes class r t.held go')
  field_agrees class r go go' h = search (arith, object_agrees, by_test)

  -- a field of an object is set
  stores_agree : (r x index : ℕ) (names : List ℕ) (o : Object) → Agree (stores_field x o index r (with_names s.held names) (keeps s s.stack) (instructions.ends_after (linked p) s)) (stores_field x o index r (with_names t.held names) (keeps t t.stack) (instructions.ends_after (linked p) t))
  stores_agree r x index names o = grind (arith, right.counted)

  -- an end of an object goes on
  after_agrees : (back : ℕ) (waits : Waiter) (k : ℕ) (others : List ReturnFrame) → Agree (after_deallocs p s back waits (suc k) others) (after_deallocs p t back waits (suc k) others)
  after_agrees back waits k others = search (arith, object_agrees, right.counted)

  end_goes_on_agrees : (frames : List ReturnFrame) → AllDying s.held.objects (ending frames) → Agree (end_goes_on p s frames) (end_goes_on p t frames)
  end_goes_on_agrees frames dying = search (arith, after_agrees)

  -- a place of the running function or of the program takes this
  releases_agree : (r old : ℕ) (variables strong_globals : List ℕ) → Agree (releases p s old (raised r (record s.held { variables = variables; strong_globals = strong_globals }))) (releases p t old (raised r (record t.held { variables = variables; strong_globals = strong_globals })))
  releases_agree r old variables strong_globals = grind (arith, right.counted)

  operation_agrees : (o : Op) → Agree (operates p.classes o s) (operates p.classes o t)
  operation_agrees _ = search (arith, field_agrees)

  pub acts_agree : (action : Option Action) → AllDying s.held.objects (ending s.frames) → Agree (executes p action s) (executes p action t)
  acts_agree (Some EndStep) dying = end_goes_on_agrees s.frames dying
  acts_agree _ dying = search (arith, operation_agrees, sends_agree, answers_agree, releases_agree, field_agrees, stores_agree, last_agrees, drops_agree, right.counted)

-- ---- No run of a program has more numbers, references and places than the heights of its actions say; with room for these it is sound.

module _ (p : Program) (R : resolved.Program) (is : plain_actions p.actions ≡ lowered_actions R) (entries : p.entries ≡ entries_of R) (classes : p.classes ≡ classes_linked R) where
  -- no run has more numbers, references and places than the greatest heights on all levels
  pub lowered_bounded : NeverHasMore (linked p) (room_for (greatest_height R).numbers) (room_for (greatest_height R).names) (room_for (places_in (greatest_height R)))
  lowered_bounded = never_more (linked p) (height_at R) (result_at R) (greatest_height R).numbers (greatest_height R).names (places_in (greatest_height R)) (heights_fit p R is entries classes)

  -- sound with these rooms
  pub room_suffices : p.end_step ≡ end_step_of R → room_for (greatest_height R).numbers ≤ p.room → room_for (greatest_height R).names ≤ p.names → room_for (places_in (greatest_height R)) ≤ p.places → IsSound p
  room_suffices end numbers_room names_room places_room =
      sound_with_room (linked p) (height_at R) (result_at R) (greatest_height R).numbers (greatest_height R).names (places_in (greatest_height R)) (heights_fit p R is entries classes) numbers_room names_room places_room (lowered_never_stuck p R is entries classes end)

-- ---- Runs of a lowered program show what they show where each count is the number of places.

abbrev pub freshened : Reached State → Reached State
freshened (Running s i t) = Running (fresh s) i t
freshened r = r

follow_fresh : (next : Next State) (i : List ℕ) (t : List Event) → follow (recount next) i t ≡ freshened (follow next i t)
follow_fresh next i t = grind arith

-- a run that is wedged with its counts made anew is wedged
wedged_fresh : (r : Reached State) (i : List ℕ) (t : List Event) → freshened r ≡ Wedged i t → r ≡ Wedged i t
wedged_fresh r i t e = grind arith

module _ (p : Program) (R : resolved.Program) (is : plain_actions p.actions ≡ lowered_actions R) (entries : p.entries ≡ entries_of R) (classes : p.classes ≡ classes_linked R) (end : p.end_step ≡ end_step_of R) where
  -- each state of a run is good
  abbrev KeptGood : Reached State → Type 0
  KeptGood (Running s i t) = Good p R s
  KeptGood (Wedged i t) = ⊥
  KeptGood _ = Unit {0}

  follow_kept : (next : Next State) (i : List ℕ) (t : List Event) → Along (Good p R) next → KeptGood (follow next i t)
  follow_kept next i t kept = grind (arith, kept)

  one_more : (r : Reached State) → KeptGood r → KeptGood (further (step p) r) × (further (moves p) (freshened r) ≡ freshened (further (step p) r))
  one_more (Running s i t) k = (follow_kept (step p s) i t (step_leads p R is entries classes end s k), ap (λ next. follow next i t) (sym (acts_agree p s (sane_counted s.held k.1.0) (slice_get p.actions s.at) k.1.1)) ∙ follow_fresh (step p s) i t)
  one_more _ k = (k, refl)

  more : (n : ℕ) (r : Reached State) → KeptGood r → KeptGood (after_steps (step p) n r) × (after_steps (moves p) n (freshened r) ≡ freshened (after_steps (step p) n r))
  more zero r k = (k, refl)
  more (suc n) r k = let h = more n r k in let one = one_more (after_steps (step p) n r) h.0 in (one.0, ap (further (moves p)) h.1 ∙ one.1)

  -- what is seen of the steps
  pub seen_moves : (input : List ℕ) (n : ℕ) → seen p input n ≡ run_seen (after_steps (moves p) n (Running (fresh (start p)) input []))
  seen_moves input n = sym (grind arith) ∙ ap run_seen (sym ((more n (Running (start p) input []) (start_good p R is entries classes end)).1))

  -- no run comes to a step that it hasn't
  pub never_wedged : (input i : List ℕ) (t : List Event) (n : ℕ) → after_steps (moves p) n (Running (fresh (start p)) input []) ≡ Wedged i t → ⊥
  never_wedged input i t n e =
      let h = more n (Running (start p) input []) (start_good p R is entries classes end) in
      subst KeptGood (wedged_fresh _ i t (sym h.1 ∙ e)) h.0
