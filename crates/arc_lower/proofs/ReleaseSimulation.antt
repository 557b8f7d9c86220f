-- A run drops places, and ends the objects that these were the last to hold.
use Rattle.std.proofs.Common.{inl, ◌≡◌, ℕ, zero, suc, ◌+◌, ◌≤◌, ℤ, Bool, true, not, ◌&&◌, nat_lt, if◌then◌else◌, List, [], ◌∷◌, ◌++◌, length, Option, Some, slice_get, slice_set, refl, sym, ap, ◌∙◌, subst, arith, length-append}
use Rattle.std.proofs.lemmas.Bool.{ltb-true, ltb-false}
use Rattle.std.proofs.lemmas.Bool.Decides.{nat_tests}
use Rattle.std.proofs.lemmas.List.{length-set, get_or_past, set_past}
use Rattle.std.proofs.lemmas.Option.{get_or_from_slice_get, slice_get-get_or, slice_get_cases}
use Rattle.arc_spec.specs.declared.event.Event.{Event}
use Rattle.arc_spec.specs.declared.event.Fault.{Fault}
use Rattle.arc_spec.specs.declared.location.Location.TheVariants.{Local}
use Rattle.arc_spec.specs.Objects.{Object, Dying, object_at, with_object, in_phase, is_live, names}
use Rattle.arc_spec.specs.World as world
use Rattle.arc_spec.specs.World.{World, Outcome, Done, Faulted, Cut, finished, Finished, then_do, places, stacked, with_temporaries, with_strong, stores, name_at}
use Rattle.arc_spec.specs.Meaning.{Callees, released, temporaries_dropped, second_dropped, all_dropped, assigned, variables_dropped}
use Rattle.arc_spec.specs.HolderCounts.{Heap, ReturnFrame, holders, is_there, on_object, on_named, with_things, with_variables, on_place, raised, lowered, lets_go}
use Rattle.arc_spec.specs.SmallSteps.{Next, Stuck, Reached, only_if}
use Rattle.arc_code.specs.Instructions as instructions
use Rattle.arc_ir.specs.ActionSteps.{Program, State, has_level, begins_end, releases}
use Rattle.arc_code.specs.declared.instr.Instr.TheVariants.{DropAll, Settle, Empty}
use Rattle.arc_lower.specs.PlainActions.{PlainAction}
use Rattle.arc_lower.specs.Lowered.{empty_actions, all_empty_actions}
use Rattle.arc_lower.proofs.CountsKept.{last_one, raised_count, variable_moves, second_moves}
use Rattle.arc_lower.proofs.RunsCompose.{leads_same, running, Follows, After, ends, on, quietly, steps, through, next, better}
use Rattle.arc_lower.proofs.CaseAnalysis.{by_test}
use Rattle.arc_lower.proofs.RecountedSteps.{moves, at, counting, held_of, bare, HasAt, has_front, has_back}

-- the places of the functions are as they were
pub record Kept (w w1 : World) : Type 0 where
  pub frame : w1.frame ≡ w.frame
  pub waiting : w1.waiting ≡ w.waiting

pub kept_same : (w : World) → Kept w w
kept_same w = record { frame = refl; waiting = refl }

-- what a world holds, where the end of an object has begun
abbrev pub dying_in : List ℕ → World → (k : ℕ) → Object → (ℕ → ℕ) → Heap
dying_in rs w k ob c = with_things (counting rs w c) (with_object w.objects (suc k) (in_phase Dying ob))

-- after actions that leave the stack as it is
abbrev pub Stays : List ReturnFrame → (rs : List ℕ) → List ℤ → (pc : ℕ) → (before : World) → Finished → World → Reached State → Type 0
Stays frames rs stack pc before done w to = (to ≡ running frames rs pc stack w) × Kept before w

-- a world with this running function, and these places of those that wait
abbrev pub laid : World → world.Activation → List ℕ → World
laid w f waiting = record w { frame = f; waiting = waiting }

kept_laid : (w w1 : World) → Kept w w1 → laid w1 w.frame w.waiting ≡ w1
kept_laid w w1 k = rw (← k.frame, ← k.waiting) refl

-- The ends of objects do what is meant, and go on at a place. The places of the functions are laid out between the one
-- that runs and those that wait as in this activation.
abbrev pub Ends : Program → List ReturnFrame → (bound : ℕ) → Callees → Type 0
Ends p frames bound D = (f : world.Activation) (waiting : List ℕ) (k : ℕ) (ob : Object) (c : ℕ → ℕ) (h0 : Heap) (rs : List ℕ) (stack : List ℤ) (w : World)
    (pc back : ℕ) → world.frame_places f ++ waiting ≡ stacked w → object_at w.objects (suc k) ≡ Some ob
    → After p bound (begins_end p (at frames pc stack h0) back (suc k) ob.class (dying_in rs (laid w f waiting) k ob c) (has_level (at frames pc stack h0)))
    w.input w.trace (λ done w1 to. (to ≡ running frames rs back stack (laid w1 f waiting)) × Kept w w1) (D.end_of (suc k) w)

module _ {p : Program} {bound : ℕ} {A : Type 0} {i : List ℕ} {t : List Event} {end : A → World → Reached State → Type 0} {o : Outcome A} where
  pub stuck : After p bound Stuck i t end o
  stuck = record { follows = record { runs = inl (i, t, leads_same (moves p) _ _ refl) } }

  pub after_only : (b : Bool) {next : Next State} → After p bound next i t end o → After p bound (only_if b next) i t end o
  after_only b h = search (arith, stuck)

  pub after_object : (found : Option Object) {go : Object → Next State}
      → ((ob : Object) → found ≡ Some ob → is_there ob.phase ≡ true → After p bound (go ob) i t end o)
      → After p bound (on_object found go) i t end o
  after_object found h = search (arith, stuck)

  pub after_named : (r : ℕ) (h : Heap) {next : Next State} → After p bound next i t end o → After p bound (on_named r h next) i t end o
  after_named r h go = search (arith, after_object)

module _ {p : Program} {bound : ℕ} (D : Callees) {w : World} {A : Type 0} {end : A → World → Reached State → Type 0}
    (meant : Outcome Finished → Outcome A) where
  -- a place of some takes another object, where there is such a place
  pub after_place : (places' : List ℕ) (i r : ℕ) {none : Next State} {go : ℕ → Next State} (with : List ℕ → World) → with places' ≡ w
      → After p bound none w.input w.trace end (meant (Done finished w))
      → ((old : ℕ) → slice_get places' i ≡ Some old → After p bound (go old) w.input w.trace end (meant (released D old (with (slice_set places' i r)))))
      → After p bound (on_place (slice_get places' i) none go) w.input w.trace end (meant (released D (name_at places' i) (with (slice_set places' i r))))
  after_place places' i r with is stay release = search (arith, slice_get_cases, get_or_past, set_past, get_or_from_slice_get)

-- variables that are emptied, from the first one on, the last one first
abbrev pub empties : (first count : ℕ) → List ℕ → List ℕ
empties first zero strong = strong
empties first (suc n) strong = empties first n (slice_set strong (first + n) 0)

abbrev pub emptied : (first count : ℕ) → World → World
emptied first count w = with_strong w (empties first count w.frame.strong)

module _ (p : Program) (frames : List ReturnFrame) (bound : ℕ) (rs : List ℕ) (D : Callees) (all_ends : Ends p frames bound D) where
  -- from a place, and from where a step leads there, a run drops what is meant and keeps the rest
  abbrev pub Drops : List ℤ → (pc to : ℕ) → (w before : World) → Outcome Finished → Type 0
  Drops stack pc to w before o = Follows p bound (running frames rs pc stack w) (Stays frames rs stack to before) o

  abbrev Dropping : List ℤ → (to : ℕ) → Next State → (w before : World) → Outcome Finished → Type 0
  Dropping stack to next w before o = After p bound next w.input w.trace (Stays frames rs stack to before) o

  -- A place named this and doesn't any more, where the places of the functions are laid out so: the run stays, or the end of the object goes on at a place.
  pub let_go_runs : {A : Type 0} {w : World} {end : A → World → Reached State → Type 0} (f : world.Activation) (waiting : List ℕ) → world.frame_places f ++ waiting ≡ stacked w
      → (meant : Outcome Finished → Outcome A) → ((e : Fault) (w1 : World) → meant (Faulted e w1) ≡ Faulted e w1) × ((w1 : World) → meant (Cut w1) ≡ Cut w1)
      → (r : ℕ) (c : ℕ → ℕ) (h0 : Heap) (stack : List ℤ) (pc back : ℕ) (stays : Heap → Next State) → ((k : ℕ) → c (suc k) ≡ holders (suc k) (r ∷ places w))
      → ((less : ℕ → ℕ) → ((k : ℕ) → less (suc k) ≡ holders (suc k) (places w))
      → After p bound (stays (counting rs (laid w f waiting) less)) w.input w.trace end (meant (Done finished w)))
      → ((done : Finished) (w1 : World) → Kept w w1 → Follows p bound (running frames rs back stack (laid w1 f waiting)) end (meant (Done done w1)))
      → After p bound (lets_go r (counting rs (laid w f waiting) c) stays (λ o class h. begins_end p (at frames pc stack h0) back o class h (has_level (at frames pc stack h0))))
      w.input w.trace end (meant (released D r w))
  let_go_runs {w} f waiting layout meant strict zero c h0 stack pc back stays count stay go = stay (lowered 0 (counting rs (laid w f waiting) c)).counts (λ k. grind (arith, count k))
  let_go_runs {w} {end} f waiting layout meant strict (suc k) c h0 stack pc back stays count stay go =
      let less = (lowered (suc k) (counting rs (laid w f waiting) c)).counts in
      let ends = λ (ob : Object). begins_end p (at frames pc stack h0) back (suc k) ob.class (dying_in rs (laid w f waiting) k ob less) (has_level (at frames pc stack h0)) in
      let one : c (suc k) ≡ suc (holders (suc k) (places w)) = grind (arith, nat_tests, count k) in
      after_object (object_at w.objects (suc k)) (λ ob found is.
      rw (found, last_one (suc k) (c (suc k)) (places w) one)
      (by_test (λ b. After p bound (if b then ends ob else stays (counting rs (laid w f waiting) less)) w.input w.trace end (meant (if b then D.end_of (suc k) w else Done finished w)))
      (is_live (Some ob) && not (names (suc k) (places w)))
      (λ _. record { follows = through meant strict (all_ends f waiting k ob less h0 rs stack w pc back layout found).follows (λ done w1 to m. on m.0 (go done w1 m.1)) })
      (λ _. stay less (λ j. grind (arith, nat_tests, count j)))))

  -- a place names this no more
  pub release_runs : (r : ℕ) (c : ℕ → ℕ) (h0 : Heap) (stack : List ℤ) (w : World) (pc : ℕ) → ((k : ℕ) → c (suc k) ≡ holders (suc k) (r ∷ places w))
      → Dropping stack (pc + 1) (releases p (at frames pc stack h0) r (counting rs w c)) w w (released D r w)
  release_runs r c h0 stack w pc count =
      let_go_runs w.frame w.waiting refl (λ o. o) (λ e w1. refl, λ w1. refl) r c h0 stack pc (pc + 1) _ count (λ less _. quietly (ends (refl, kept_same w)))
      (λ done w1 k. ends (ap (running frames rs (pc + 1) stack) (kept_laid w w1 k), k))

  -- the instruction is met again after each end of an object
  drops_run : (ts : List ℕ) (stack : List ℤ) (pc : ℕ) → HasAt p pc (DropAll ∷ []) → (c : ℕ → ℕ) (h0 : Heap) (w : World)
      → ((k : ℕ) → c (suc k) ≡ holders (suc k) (places (with_temporaries w ts)))
      → Dropping stack (pc + 1) (instructions.drops_all (bare p) (at frames pc stack h0) ts (counting rs (with_temporaries w ts) c)) w (with_temporaries w [])
      (temporaries_dropped D ts (with_temporaries w ts))
  drops_run [] stack pc has c h0 w count = quietly (ends (refl, kept_same (with_temporaries w [])))
  drops_run (r ∷ others) stack pc has c h0 w count =
      let w1 = with_temporaries w others in
      let_go_runs w1.frame w1.waiting refl (λ o. then_do o (λ _ w2. temporaries_dropped D others w2)) (λ e w2. refl, λ w2. refl) r c h0 stack pc pc _ count
      (λ less left. drops_run others stack pc has less h0 w left)
      (λ done w2 k.
      let w3 = laid w2 w1.frame w1.waiting in
      subst (λ v. Drops stack pc (pc + 1) w3 (with_temporaries w []) (temporaries_dropped D others v)) (kept_laid w1 w2 k)
      (better (steps DropAll has.0 (drops_run others stack pc has (held_of rs w3).counts (held_of rs w3) w3 (λ _. refl)))
      (λ done w4 to n. (n.0, record { frame = n.1.frame; waiting = n.1.waiting }))))

  -- all temporaries
  pub dropped_runs : (stack : List ℤ) (w : World) (pc : ℕ) → HasAt p pc (DropAll ∷ [])
      → Drops stack pc (pc + 1) w (with_temporaries w []) (all_dropped D w)
  dropped_runs stack w pc has = steps DropAll has.0 (drops_run w.frame.temporaries stack pc has (held_of rs w).counts (held_of rs w) w (λ _. refl))

  -- the temporary before the last one
  pub settled_runs : (x r : ℕ) (ts : List ℕ) (stack : List ℤ) (w : World) (pc : ℕ) → w.frame.temporaries ≡ x ∷ r ∷ ts → HasAt p pc (Settle ∷ [])
      → Drops stack pc (pc + 1) w (with_temporaries w (x ∷ ts)) (second_dropped D w.frame.temporaries w)
  settled_runs x r ts stack w pc these has =
      let w1 = with_temporaries w (x ∷ ts) in
      steps Settle has.0 (subst (λ l. Dropping stack (pc + 1) (instructions.settles (bare p) (at frames pc stack (held_of rs w)) l) w w1 (second_dropped D l w)) (sym these)
      (release_runs r (held_of rs w).counts (held_of rs w) stack w1 pc (λ k. sym (second_moves (suc k) (held_of rs w) x r ts these))))

  -- a variable that there isn't
  pub no_variable : (i r : ℕ) (stack : List ℤ) (w : World) (pc : ℕ) → length w.frame.strong ≤ i
      → Drops stack pc (pc + 0) w (stores (Local i) r w) (assigned D (Local i) r w)
  no_variable i r stack w pc le = search (arith, set_past, get_or_past, kept_same)

  -- a variable takes this
  pub changes_runs : (i r old : ℕ) (stack : List ℤ) (w : World) (pc : ℕ) → slice_get w.frame.strong i ≡ Some old
      → Dropping stack (pc + 1) (releases p (at frames pc stack (held_of rs w)) old
      (raised r (with_variables (held_of rs w) (slice_set w.frame.strong i r)))) w (stores (Local i) r w) (released D old (stores (Local i) r w))
  changes_runs i r old stack w pc found = release_runs old (raised r (held_of rs w)).counts (held_of rs w) stack (stores (Local i) r w) pc (λ k. raised_count r (held_of rs w) (suc k) ∙ sym (variable_moves (suc k) (held_of rs w) i old r found))

  empty_runs : (count i : ℕ) (stack : List ℤ) (w : World) (pc : ℕ) → length w.frame.strong ≡ count → HasAt p pc (empty_actions count i)
      → Drops stack pc (pc + length (empty_actions count i)) w (stores (Local i) 0 w) (assigned D (Local i) 0 w)
  empty_runs count i stack w pc size = rw (← size)
      (by_test (λ b. HasAt p pc (if b then Empty i ∷ [] else []) → Drops stack pc (pc + length {A = PlainAction} (if b then Empty i ∷ [] else [])) w (stores (Local i) 0 w) (assigned D (Local i) 0 w)) (nat_lt i (length w.frame.strong))
      (λ e has. let found = slice_get-get_or w.frame.strong i 0 (ltb-true i (length w.frame.strong) e) in steps (Empty i) has.0
      (rw found (changes_runs i 0 (name_at w.frame.strong i) stack w pc found)))
      (λ e has. no_variable i 0 stack w pc (ltb-false i (length w.frame.strong) e)))

  -- variables from the first one on, the last one first
  pub empties_by : (names' first count : ℕ) (stack : List ℤ) (w : World) (pc : ℕ) → length w.frame.strong ≡ names'
      → HasAt p pc (all_empty_actions names' first count)
      → Drops stack pc (pc + length (all_empty_actions names' first count)) w (emptied first count w) (variables_dropped D first count w)
  empties_by names' first zero stack w pc size has = let e : pc + 0 ≡ pc = omega arith in rw e (ends (refl, kept_same w))
  empties_by names' first (suc n) stack w pc size has =
      let i = first + n in
      let xs = empty_actions names' i in
      let ys = all_empty_actions names' first n in
      let e : pc + length (xs ++ ys) ≡ pc + length xs + length ys = omega (arith, length-append xs ys) in
      rw e (next (empty_runs names' i stack w pc size (has_front p pc xs ys has)) (λ done w2 to m. on m.0
      (better (empties_by names' first n stack w2 (pc + length xs) (ap (λ (f : world.Activation). length f.strong) m.1.frame ∙ length-set w.frame.strong i 0 ∙ size)
      (has_back p pc xs ys has))
      (λ done w3 to k. (k.0, record { frame = k.1.frame ∙ ap (λ f. (emptied first n (record w { frame = f })).frame) m.1.frame; waiting = k.1.waiting ∙ m.1.waiting })))))
