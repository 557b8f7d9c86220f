-- When steps do what a program means.
use Rattle.std.specs.Prelude.{◌≡◌, ◌⊎◌, ℕ, ◌+◌, ◌≤◌, ◌<◌, ℤ, List, ◌++◌, Option, Some, None}
use Rattle.arc_spec.specs.declared.event.Event.{Event}
use Rattle.arc_spec.specs.declared.event.Fault as faults
use Rattle.arc_spec.specs.World.{Outcome, Done, Faulted, Cut}
use Rattle.arc_spec.specs.SmallSteps as stepping
use Rattle.arc_spec.specs.SmallSteps.{Reached, Running}

-- a starts b
abbrev pub IsPrefix : {A : Type 0} → List A → List A → Type 0
IsPrefix {A} a b = (c : List A) × (b ≡ a ++ c)

-- why a run is over
pub data Stop : Type 0 where
  Ends : ℤ → Stop
  Faults : faults.Fault → Stop

-- what a watcher sees: the events so far, and the stop, where the run is over
pub record Observation : Type 0 where
  pub trace : List Event
  pub stop : Option Stop

-- what is seen of a meaning, which goes on where it is cut
abbrev pub meaning_seen : Outcome ℤ → Observation
meaning_seen (Done v w) = record { trace = w.trace; stop = Some (Ends v) }
meaning_seen (Faulted f w) = record { trace = w.trace; stop = Some (Faults f) }
meaning_seen (Cut w) = record { trace = w.trace; stop = None }

-- what is seen of a run; no sound code comes to a stuck one
abbrev pub run_seen : {S : Type 0} → Reached S → Observation
run_seen (Running s i t) = record { trace = t; stop = None }
run_seen (stepping.Ended n i t) = record { trace = t; stop = Some (Ends n) }
run_seen (stepping.Faulted f i t) = record { trace = t; stop = Some (Faults f) }
run_seen (stepping.Wedged i t) = record { trace = t; stop = None }

-- Runs do what is meant: `meant input n` is seen of the meaning with n turns for each loop, `seen input k` of k steps.
pub record Behaves (meant seen : List ℕ → ℕ → Observation) : Type 0 where
  -- after k steps the events are the first ones of the meaning with bound k
  pub follows : (input : List ℕ) (k : ℕ) → IsPrefix (seen input k).trace (meant input k).trace
  -- a run that is over has the events and the stop of the meaning
  pub stops : (input : List ℕ) (k : ℕ) (s : Stop) → (seen input k).stop ≡ Some s → meant input k ≡ seen input k
  -- for each bound some steps show all events of the meaning, and its stop, where it has one
  pub comes : (input : List ℕ) (n : ℕ) → (m : ℕ) × IsPrefix (meant input n).trace (seen input m).trace × ((s : Stop) → (meant input n).stop ≡ Some s → seen input m ≡ meant input n)

-- More steps show more, and a run that is over stays as it is.
pub record Steady (seen : List ℕ → ℕ → Observation) : Type 0 where
  pub grows : (input : List ℕ) (j k : ℕ) → j ≤ k → IsPrefix (seen input j).trace (seen input k).trace
  pub stays : (input : List ℕ) (j k : ℕ) (s : Stop) → j ≤ k → (seen input j).stop ≡ Some s → seen input k ≡ seen input j

-- What is seen after k steps is what the other steps show after j of them, or it goes on and has some of the events of their next one.
abbrev pub Amid : (List ℕ → ℕ → Observation) → List ℕ → (j k : ℕ) → Observation → Type 0
Amid a input j k b = (b ≡ a input j) ⊎ ((j < k) × (b.stop ≡ None) × IsPrefix (a input j).trace b.trace × IsPrefix b.trace (a input (j + 1)).trace)

-- Runs of other steps, b, do what runs of a do, where one step of a is one or more of b.
pub record Refines (a b : List ℕ → ℕ → Observation) : Type 0 where
  pub follows : (input : List ℕ) (k : ℕ) → (j : ℕ) × (j ≤ k) × Amid a input j k (b input k)
  pub comes : (input : List ℕ) (j : ℕ) → (k : ℕ) × IsPrefix (a input j).trace (b input k).trace × ((s : Stop) → (a input j).stop ≡ Some s → b input k ≡ a input j)
