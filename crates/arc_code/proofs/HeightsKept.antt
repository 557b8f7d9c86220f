-- No run has more numbers, references or places than a table of heights that fits the program allows.
use Rattle.std.proofs.Common.{◌≡◌, ℕ, zero, suc, ◌+◌, ◌-◌, ◌*◌, ◌≤◌, Bool, ℤ, List, [], ◌∷◌, length, Some, arith, slice_get, length-append, length-take, length-drop}
use Rattle.std.proofs.lemmas.Bool.{ltb-true, eqb-true, and_parts}
use Rattle.std.proofs.lemmas.List.{length-set}
use Rattle.arc_ast.specs.declared.tree.Sign.TheVariants as signs
use Rattle.arc_spec.specs.declared.event.Event.{Event}
use Rattle.arc_spec.specs.declared.class.Gives.{Gives}
use Rattle.arc_spec.specs.Classes.{class_at}
use Rattle.arc_spec.specs.Objects.{Object, object_at}
use Rattle.arc_spec.specs.declared.limits.TheConstants.{MOST_LEVELS}
use Rattle.arc_spec.specs.SmallSteps.{Next, Safe, Sound, Reached, Running, follow, after_steps}
use Rattle.arc_spec.specs.HolderCounts.{Heap, ReturnFrame, Calling, Ending, Clearing, Waiter, CountsAreExact, stacked}
use Rattle.arc_code.specs.declared.instr.Instr.{Instr}
use Rattle.arc_code.specs.declared.instr.Instr.TheVariants.{Plain, Send, SendSuper, StoreField, Give}
use Rattle.arc_code.specs.Instructions.{Program, State, start, has_level, sends, begins_end, releases, drops_all, end_goes_on, executes, step, Fits, IsSound}
use Rattle.arc_code.specs.Effects.{Height, on_numbers, as_number, as_object, giving, operation_effect, no_height, FitsBetween, FitsCall, SameResult, Follows, After, HeightsFit, FitsAt, GivesAt, room_for, NeverHasMore}
use Rattle.arc_code.proofs.StepOutcomes.{along_both, after_map, top_after, taken_after, found_after, object_after, named_after, reference_after, field_after, result_after, receiver_after}
use Rattle.arc_code.proofs.EffectsFollowed.{operation_follows}

all_length : (h : Heap) → length (stacked h) ≡ length h.temporaries + length h.variables + length h.places
all_length h = omega (arith, length-append {A = ℕ})

-- what the lengths of a heap's lists are after a step
ruleset lengths = (all_length, ltb-true, length-take, length-drop, length-set)

module _ {J F T : Type 0} (p : Program J F T) (height : ℕ → Height) (result : ℕ → Gives) (most_numbers most_names most_places : ℕ) (fits : HeightsFit p height result most_numbers most_names most_places) where
  -- where a function that waits goes on, and its places
  abbrev back_of : ReturnFrame → ℕ
  back_of (Calling back w) = back
  back_of (Ending back w o next left) = back
  back_of (Clearing back w o fields) = back

  abbrev waiter_of : ReturnFrame → Waiter
  waiter_of (Calling back w) = w
  waiter_of (Ending back w o next left) = w
  waiter_of (Clearing back w o fields) = w

  -- a call gives a number or an object, which isn't there yet: what the function gives that the first of them waits for
  abbrev awaited : (Gives → ℕ) → Gives → ReturnFrame → ℕ
  awaited of g (Calling back w) = of g
  awaited of g x = 0

  -- the numbers, references and places of all that wait
  abbrev waiting : Gives → List ReturnFrame → Height
  waiting g [] = no_height
  waiting g (x ∷ others) =
      let rest = waiting (result (back_of x)) others in
      record {
        numbers = (height (back_of x)).numbers - awaited as_number g x + rest.numbers;
        names = (height (back_of x)).names - awaited as_object g x + rest.names;
        temporaries = (waiter_of x).temporaries + rest.temporaries;
        variables = (waiter_of x).variables + rest.variables;
      }

  -- a function that waits goes on with no more places than it may have, of which the result is one where it is an object, and there is room for the result
  record Waits (g : Gives) (x : ReturnFrame) : Type 0 where
    temporaries : (waiter_of x).temporaries + awaited as_object g x ≤ (height (back_of x)).temporaries
    variables : (waiter_of x).variables ≤ (height (back_of x)).variables
    numbers : awaited as_number g x ≤ (height (back_of x)).numbers
    names : awaited as_object g x ≤ (height (back_of x)).names

  abbrev AllWait : Gives → List ReturnFrame → Type 0
  AllWait g [] = Unit {0}
  AllWait g (x ∷ others) = Waits g x × AllWait (result (back_of x)) others

  -- the running function, which gives this, has no more than this height above what waits
  abbrev Above : Height → Gives → List ReturnFrame → List ℤ → Heap → Type 0
  Above h g frames stack held =
      let w = waiting g frames in
      (length stack ≤ h.numbers + w.numbers) × (length held.names ≤ h.names + w.names) × (length held.temporaries ≤ h.temporaries) × (length held.variables ≤ h.variables)
      × (length held.places ≤ w.temporaries + w.variables)

  -- a state within the tables
  record Within (s : State) : Type 0 where
    above : Above (height s.at) (result s.at) s.frames s.stack s.held
    levels : length s.frames ≤ MOST_LEVELS
    waits : AllWait (result s.at) s.frames

  start_within : Within (start p)
  start_within = search arith

  -- ---- one step

  module _ (s : State) (w : Within s) where
    sends_within : (g : Gives) (from : Object → ℕ) (self selector takes objects : ℕ) (names : List ℕ) → FitsCall p height s.at (giving g takes (suc objects)) → SameResult p result s.at (s.at + 1) → length names + 1 ≡ length s.held.names
        → objects ≤ length names → After Within (sends p s g from self selector takes objects names)
    sends_within g from zero selector takes objects names fit same e l = taken_after Within takes s.stack _ (λ rest m. search (arith, length-drop objects names))
    sends_within g from (suc k) selector takes objects names fit same e l =
        object_after Within (object_at s.held.objects (suc k)) _ (λ o. search (arith, lengths, and_parts, eqb-true, fits.methods (Some (from o)) signs.Instance selector takes objects g))

    -- the end of an object begins, after which the function goes on here
    begins_end_within : (back o class : ℕ) (h : Heap) (b : Bool) → has_level s ≡ b → Above (height back) (result back) s.frames s.stack h → AllWait (result back) s.frames → After Within (begins_end p s back o class h b)
    begins_end_within back o class h b is a waits = search (arith, lengths)

    -- a place lets go of what it named
    releases_within : SameResult p result s.at (s.at + 1) → (r : ℕ) (h : Heap) → Above (height (s.at + 1)) (result (s.at + 1)) s.frames s.stack h → After Within (releases p s r h)
    releases_within same r h a = search (arith, lengths)

    -- the temporaries are dropped
    drops_within : SameResult p result s.at (s.at + 1) → (temporaries : List ℕ) (h : Heap) → h.temporaries ≡ temporaries → Above (height s.at) (result s.at) s.frames s.stack h → FitsBetween (record (height s.at) { temporaries = 0 }) (height (s.at + 1)) (on_numbers 0 0) → After Within (drops_all p s temporaries h)
    drops_within same [] h is above fit = search arith
    drops_within same (r ∷ others) h is a fit = search (arith, drops_within same others, begins_end_within)

  -- what an end does, where nothing of the running function is left
  end_goes_on_within : (s : State) (frames : List ReturnFrame) → Above no_height (result s.at) frames s.stack s.held → length frames ≤ MOST_LEVELS → AllWait (result s.at) frames → After Within (end_goes_on p s frames)
  end_goes_on_within s (Ending back w o (Some c) (suc left) ∷ others) a levels waits = search (arith, lengths)
  end_goes_on_within s _ a levels waits = search (arith, lengths)

  ruleset steps = (lengths, found_after, receiver_after, releases_within, sends_within, drops_within, end_goes_on_within)

  executes_within : (x : Instr J F T) (s : State) → Within s → FitsAt p height s.at x → GivesAt p result s.at x → After Within (executes p (Some x) s)
  executes_within (Plain o) s w fit same = search (arith, after_map (Follows (operation_effect o) s), operation_follows)
  executes_within (Send selector takes objects wanted) s w fit same =
      found_after Within (slice_get s.stack takes) _ (λ self _. search (arith, fits.methods (class_at self) signs.Class selector takes objects wanted, lengths))
  executes_within (SendSuper from selector takes objects wanted) s w fit same = search (arith, fits.methods (Some from) signs.Class selector takes objects wanted, lengths)
  executes_within (StoreField class index) s w fit same =
      reference_after Within s.held.names _ (λ r rest e. reference_after Within rest _ (λ x below f. named_after Within r s.held _ (field_after Within p.classes class x s.held _ (λ o. search (arith, lengths)))))
  executes_within Give s w fit same = top_after Within s.stack _ (λ v rest e. result_after Within s.held.temporaries s.held _ (λ none r. search (arith, lengths)))
  executes_within _ s w fit same = search (arith, fit, same, steps)

  step_within : (s : State) → Within s → After Within (step p s)
  step_within s w = search (arith, executes_within)

  -- ---- the room

  -- all levels together have no more than the room
  together : (levels : ℕ) (g : Gives) (frames : List ReturnFrame) → length frames ≤ levels → AllWait g frames
      → let w = waiting g frames in (w.numbers ≤ levels * most_numbers) × (w.names ≤ levels * most_names) × (w.temporaries + w.variables ≤ levels * most_places)
  together levels g [] few waits = omega arith
  together zero g (x ∷ others) few waits = omega arith
  together (suc levels) g (x ∷ others) few waits =
      let at = back_of x in
      omega (arith, together levels (result at) others (omega arith) waits.1, fits.numbers_most at, fits.names_most at, fits.places_most at)

  room_suffices : (s : State) → Within s → (length s.stack ≤ room_for most_numbers) × (length s.held.names ≤ room_for most_names) × (length (stacked s.held) ≤ room_for most_places)
  room_suffices s w =
      omega (arith, all_length s.held, together MOST_LEVELS (result s.at) s.frames w.levels w.waits, fits.numbers_most s.at, fits.names_most s.at, fits.places_most s.at)

  -- ---- runs

  abbrev RunsWithin : Reached State → Type 0
  RunsWithin (Running s input trace) = Within s
  RunsWithin _ = Unit {0}

  follow_within : (next : Next State) (input : List ℕ) (trace : List Event) → After Within next → RunsWithin (follow next input trace)
  follow_within next input trace h = search arith

  steps_within : (n : ℕ) (r : Reached State) → RunsWithin r → RunsWithin (after_steps (step p) n r)
  steps_within zero r h = h
  steps_within (suc n) r h = search (arith, follow_within, step_within, steps_within n r h)

  -- no run has more than the room
  pub never_more : NeverHasMore p (room_for most_numbers) (room_for most_names) (room_for most_places)
  never_more input n = search (arith, room_suffices, steps_within n (Running (start p) input []) start_within)

  -- ---- soundness

  module _ (numbers_room : room_for most_numbers ≤ p.room) (names_room : room_for most_names ≤ p.names) (places_room : room_for most_places ≤ p.places) where
    safe_within : (n : ℕ) (s : State) → Within s → Safe (step p) (λ t. CountsAreExact t.held) n s → Safe (step p) (Fits p) n s
    safe_within zero s w counts = search (arith, room_suffices)
    safe_within (suc n) s w safe = search (along_both, step_within, safe_within n)

    -- a program that never is stuck, and whose counts are right, is sound with the room that its heights ask for
    pub sound_with_room : Sound (step p) (λ t. CountsAreExact t.held) (start p) → IsSound p
    sound_with_room sound = record { safe = λ n. safe_within n (start p) start_within (sound.safe n) }
