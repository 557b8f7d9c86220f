-- Small steps over any kind of state, and runs of them on an input.
use Rattle.std.specs.Prelude.{ℕ, zero, suc, ℤ, List, [], ◌∷◌, ◌++◌, Bool, true, false, Option, Some, None}
use Rattle.arc_spec.specs.declared.event.Event.{Event}
use Rattle.arc_spec.specs.declared.event.Fault as faults

-- what a step leads to: a state with the events that it gave, a state that depends on the next byte of the input (None: its end), an end, a fault, or nothing, where the state has no step
pub data Next (S : Type 0) : Type 0 where
  Goes : S → List Event → Next S
  Asks : (Option ℕ → S) → Next S
  Ends : ℤ → Next S
  Faults : faults.Fault → Next S
  Stuck : Next S

-- a step that needs a number or a reference on its stack, and the rest of that
abbrev pub on_top : {S A : Type 0} → List A → (A → List A → Next S) → Next S
on_top [] go = Stuck
on_top (v ∷ rest) go = go v rest

-- a step that needs two numbers, the top one first
abbrev pub on_two : {S : Type 0} → List ℤ → (ℤ → ℤ → List ℤ → Next S) → Next S
on_two stack go = on_top stack (λ v rest. on_top rest (λ u below. go v u below))

-- a step that needs something that may be missing, and one that only goes on if something holds
abbrev pub on_found : {S A : Type 0} → Option A → (A → Next S) → Next S
on_found None go = Stuck
on_found (Some a) go = go a

abbrev pub only_if : {S : Type 0} → Bool → Next S → Next S
only_if true next = next
only_if false next = Stuck

-- where a run is, with the input that is left and the events so far; it is wedged where its state was stuck
pub data Reached (S : Type 0) : Type 0 where
  Running : S → (input : List ℕ) → (trace : List Event) → Reached S
  Ended : ℤ → (input : List ℕ) → (trace : List Event) → Reached S
  Faulted : faults.Fault → (input : List ℕ) → (trace : List Event) → Reached S
  Wedged : (input : List ℕ) → (trace : List Event) → Reached S

-- after a step that asked for a byte: it gets the next one of the input, or its end
abbrev pub fed : {S : Type 0} → (Option ℕ → S) → List ℕ → List Event → Reached S
fed k [] t = Running (k None) [] t
fed k (b ∷ i) t = Running (k (Some b)) i t

-- where a run is after a step that leads there
abbrev pub follow : {S : Type 0} → Next S → List ℕ → List Event → Reached S
follow (Goes s es) i t = Running s i (t ++ es)
follow (Asks k) i t = fed k i t
follow (Ends n) i t = Ended n i t
follow (Faults f) i t = Faulted f i t
follow Stuck i t = Wedged i t

-- one step more, where the run isn't over
abbrev pub further : {S : Type 0} → (S → Next S) → Reached S → Reached S
further step (Running s i t) = follow (step s) i t
further step over = over

-- n steps more
abbrev pub after_steps : {S : Type 0} → (S → Next S) → ℕ → Reached S → Reached S
after_steps step zero r = r
after_steps step (suc n) r = further step (after_steps step n r)

-- a fact of each state that a step may lead to, which isn't stuck
abbrev pub Along : {S : Type 0} → (S → Type 0) → Next S → Type 0
Along P (Goes s es) = P s
Along P (Asks k) = (a : Option ℕ) → P (k a)
Along P Stuck = ⊥
Along P _ = Unit {0}

-- for n steps, whatever is read, each state fits and has a step
abbrev pub Safe : {S : Type 0} → (S → Next S) → (S → Type 0) → ℕ → S → Type 0
Safe step Fits zero s = Fits s
Safe step Fits (suc n) s = Along (Safe step Fits n) (step s)

-- whatever is read, no state is stuck, and each one fits
pub record Sound {S : Type 0} (step : S → Next S) (Fits : S → Type 0) (s : S) : Type 0 where
  pub safe : (n : ℕ) → Safe step Fits n s
