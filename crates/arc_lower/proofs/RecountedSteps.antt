-- Steps after which each count is made anew, as the number of places that name the object; and the actions that stand at a place.
use Rattle.std.proofs.Common.{◌≡◌, ℕ, zero, suc, ℤ, List, ◌++◌, length, append_assoc, ◌+◌, [], ◌∷◌, Some, refl, subst, arith, slice_get}
use Rattle.std.proofs.Math.Seq.{take-append_seam, drop-append_seam}
use Rattle.arc_spec.specs.SmallSteps.{Next, Goes, Asks, Ends, Faults, Stuck}
use Rattle.arc_spec.specs.World.{World, places}
pub use Rattle.arc_spec.specs.HolderCounts.{counting}
use Rattle.arc_spec.specs.HolderCounts.{Heap, ReturnFrame, Waiter, all_places, holders, resumed}
use Rattle.arc_ir.specs.ActionSteps.{Program, State, step, Action, lands, entry, linked, executes}
use Rattle.arc_code.specs.Instructions as instructions
use Rattle.arc_code.specs.InstructionRenaming.{relinked}
use Rattle.arc_code.proofs.RenamingKeepsSteps.{renamed_same}
use Rattle.arc_ir.specs.declared.action.Target.{Target}
use Rattle.arc_lower.specs.PlainActions.{PlainAction, plain_actions}

abbrev pub recounted : Heap → Heap
recounted h = record h { counts = λ k. holders k (all_places h) }

abbrev pub fresh : State → State
fresh s = record { at = s.at; stack = s.stack; frames = s.frames; held = recounted s.held }

abbrev pub recount : Next State → Next State
recount (Goes s events) = Goes (fresh s) events
recount (Asks k) = Asks (λ answer. fresh (k answer))
recount (Ends n) = Ends n
recount (Faults f) = Faults f
recount Stuck = Stuck

abbrev pub moves : Program → State → Next State
moves p s = recount (step p s)

abbrev pub at : List ReturnFrame → ℕ → List ℤ → Heap → State
at frames pc stack held = record { at = pc; stack = stack; frames = frames; held = held }

-- what a world holds with these references, and with the counts of its places
abbrev pub held_of : List ℕ → World → Heap
held_of rs w = counting rs w (λ k. holders k (places w))

-- what waited runs again with its own places
pub resumed_as : (w : Waiter) (h : Heap) (temporaries variables waiting : List ℕ) → h.places ≡ (temporaries ++ variables) ++ waiting
    → w.temporaries ≡ length temporaries → w.variables ≡ length variables
    → resumed w h ≡ record h { temporaries = temporaries; variables = variables; self = w.self; places = waiting }
resumed_as w h temporaries variables waiting is first next = simp (is, first, next, append_assoc, take-append_seam, drop-append_seam)

-- ---- What actions do, and where they stand among actions.

-- the same program, whose actions name their texts by the bytes
abbrev pub bare : Program → instructions.Program Target ℕ (List ℕ)
bare p = relinked (linked p) [] lands (λ f. Some (entry p f)) (λ bytes. Some bytes)

-- what an action does
abbrev pub does : Program → PlainAction → State → Next State
does p x = instructions.executes (bare p) (Some x)

pub executes_at : (p : Program) (xs : List Action) (pc : ℕ) (x : PlainAction) (s : State) → slice_get (plain_actions xs) pc ≡ Some x
    → executes p (slice_get xs pc) s ≡ does p x s
executes_at p (y ∷ xs) (suc pc) x s e = executes_at p xs pc x s e
executes_at p _ pc x s e = search (arith, renamed_same, linked)

-- a fact of each element of a list, and of the place where it stands, from a place on
abbrev pub Each : {A : Type 0} → (ℕ → A → Type 0) → ℕ → List A → Type 0
Each P pc [] = Unit {0}
Each P pc (x ∷ xs) = P pc x × Each P (pc + 1) xs

-- a list has this part from a place on
abbrev pub Part : {A : Type 0} → List A → ℕ → List A → Type 0
Part whole = Each (λ pc x. slice_get whole pc ≡ Some x)

module _ {A : Type 0} (P : ℕ → A → Type 0) where
  pub each_front : (pc : ℕ) (xs ys : List A) → Each P pc (xs ++ ys) → Each P pc xs
  each_front pc [] ys h = tt
  each_front pc (x ∷ xs) ys h = (h.0, each_front (pc + 1) xs ys h.1)

  pub each_back : (pc : ℕ) (xs ys : List A) → Each P pc (xs ++ ys) → Each P (pc + length xs) ys
  each_back pc [] ys h = let e : pc ≡ pc + 0 = omega arith in subst (λ n. Each P n ys) e h
  each_back pc (x ∷ xs) ys h = subst (λ n. Each P n ys) (omega arith) (each_back (pc + 1) xs ys h.1)

  pub each_then : (pc : ℕ) (xs ys : List A) → Each P pc xs → Each P (pc + length xs) ys → Each P pc (xs ++ ys)
  each_then pc [] ys first next = let e : pc + 0 ≡ pc = omega arith in subst (λ n. Each P n ys) e next
  each_then pc (x ∷ xs) ys first next = (first.0, each_then (pc + 1) xs ys first.1 (subst (λ n. Each P n ys) (omega arith) next))

  -- of the one with a number, and from those of each number
  pub each_at : (pc i : ℕ) (xs : List A) (x : A) → Each P pc xs → slice_get xs i ≡ Some x → P (pc + i) x
  each_at pc i [] x h e = cc
  each_at pc zero (y ∷ xs) x h e = let same : y ≡ x = cc in subst (λ n. P n x) (omega arith) (subst (P pc) same h.0)
  each_at pc (suc i) (y ∷ xs) x h e = subst (λ n. P n x) (omega arith) (each_at (pc + 1) i xs x h.1 e)

  pub each_from : (pc : ℕ) (xs : List A) → ((i : ℕ) (x : A) → slice_get xs i ≡ Some x → P (pc + i) x) → Each P pc xs
  each_from pc [] h = tt
  each_from pc (x ∷ xs) h =
      let e : pc + 0 ≡ pc = omega arith in
      (subst (λ n. P n x) e (h 0 x refl), each_from (pc + 1) xs (λ i y is. subst (λ n. P n y) (omega arith) (h (suc i) y is)))

-- these actions stand among the actions at this place
abbrev pub HasAt : Program → ℕ → List PlainAction → Type 0
HasAt p = Each (λ pc x. (frames : List ReturnFrame) (stack : List ℤ) (held : Heap) → step p (at frames pc stack held) ≡ does p x (at frames pc stack held))

pub has_front : (p : Program) (pc : ℕ) (a b : List PlainAction) → HasAt p pc (a ++ b) → HasAt p pc a
has_front p = each_front _

pub has_back : (p : Program) (pc : ℕ) (a b : List PlainAction) → HasAt p pc (a ++ b) → HasAt p (pc + length a) b
has_back p = each_back _
