-- Runs compose: where steps lead, and what a run does from a place on whose meaning is known.
use Rattle.std.proofs.Common.{suc-add, ◌≡◌, ℕ, zero, suc, ◌+◌, ◌≤◌, List, refl, ap, ◌∙◌, arith, ◌⊎◌, inl, inr, ℤ, [], ◌∷◌, ◌++◌, length, length-append}
use Rattle.arc_spec.specs.declared.event.Event.{Event}
use Rattle.arc_spec.specs.World.{World, Outcome, Done, Faulted, Cut, then_do}
use Rattle.arc_spec.specs.SmallSteps.{Next, Reached, Running, Wedged, follow, further, after_steps, Goes, Faults}
use Rattle.arc_spec.specs.SmallSteps as stepping
use Rattle.std.proofs.lemmas.List.{append-nil}
use Rattle.arc_spec.specs.HolderCounts.{Heap, ReturnFrame}
use Rattle.arc_spec.specs.declared.event.Fault.{Fault}
use Rattle.arc_ir.specs.ActionSteps.{Program, State, step}
use Rattle.arc_lower.specs.PlainActions.{PlainAction}
use Rattle.arc_lower.proofs.RecountedSteps.{fresh, recount, moves, at, held_of, does, HasAt, has_front, has_back}

module _ {S : Type 0} (step : S → Next S) where
  -- some steps lead from one place to another
  pub record Leads (from to : Reached S) : Type 0 where
    pub steps : ℕ
    pub there : after_steps step steps from ≡ to

  more_steps : (m n : ℕ) (r : Reached S) → after_steps step (m + n) r ≡ after_steps step m (after_steps step n r)
  more_steps zero n r = search arith
  more_steps (suc m) n r = simp (suc-add, more_steps m n r)

  pub leads_same : (r r' : Reached S) → r ≡ r' → Leads r r'
  leads_same r r' e = record { steps = 0; there = e }

  pub leads_trans : (a b c : Reached S) → Leads a b → Leads b c → Leads a c
  leads_trans a b c p q = record { steps = q.steps + p.steps; there = more_steps q.steps p.steps a ∙ ap (after_steps step q.steps) p.there ∙ q.there }

  abbrev pub leads_step : (s : S) (i : List ℕ) (t : List Event) (next : Next S) → step s ≡ next → Leads (Running s i t) (follow next i t)
  leads_step s i t next e = record { steps = 1; there = ap (λ n. follow n i t) e }

  -- what a run does from a place: where the meaning is done it comes to one that is an end of it, and where that is cut
  -- it goes on for at least `bound` steps
  abbrev pub Comes : {A : Type 0} → (bound : ℕ) (from : Reached S) (end : A → World → Reached S → Type 0) → Outcome A → Type 0
  Comes bound from end (Done a w) = (to : Reached S) × Leads from to × end a w to
  Comes bound from end (Faulted f w) = Leads from (stepping.Faulted f w.input w.trace)
  Comes bound from end (Cut w) = (k : ℕ) × (s : S) × (bound ≤ k) × (after_steps step k from ≡ Running s w.input w.trace)

  -- the same, or it comes to a step that it hasn't
  abbrev pub Runs : {A : Type 0} → (bound : ℕ) (from : Reached S) (end : A → World → Reached S → Type 0) → Outcome A → Type 0
  Runs bound from end o = ((i : List ℕ) × (t : List Event) × Leads from (Wedged i t)) ⊎ Comes bound from end o

  runs_by : {A : Type 0} (least bound : ℕ) (r r' : Reached S) (end : A → World → Reached S → Type 0) (o : Outcome A) (p : Leads r r')
      → least ≤ p.steps + bound → Runs bound r' end o → Runs least r end o
  runs_by least bound r r' end o p le (inl q) = inl ((q.0, q.1, leads_trans r r' (Wedged q.0 q.1) p q.2))
  runs_by least bound r r' end (Done a w) p le (inr q) = inr (q.0, leads_trans r r' q.0 p q.1, q.2)
  runs_by least bound r r' end (Faulted f w) p le (inr q) = inr (leads_trans r r' _ p q)
  runs_by least bound r r' end (Cut w) p le (inr q) =
      inr (q.0 + p.steps, q.1, omega (arith, le, q.2), more_steps q.0 p.steps r ∙ ap (after_steps step q.0) p.there ∙ q.3)

-- a run at this place with this stack
abbrev pub running : List ReturnFrame → (names : List ℕ) → ℕ → List ℤ → World → Reached State
running frames rs pc stack w = Running (at frames pc stack (held_of rs w)) w.input w.trace

-- ---- What a run does at actions, where what is spoken of follows from where they stand.

-- this action stands at this place
abbrev pub Acts : Program → ℕ → PlainAction → Type 0
Acts p pc x = (frames : List ReturnFrame) (stack : List ℤ) (held : Heap) → step p (at frames pc stack held) ≡ does p x (at frames pc stack held)

-- from a place a run does what is meant
pub record Follows {A : Type 0} (p : Program) (bound : ℕ) (from : Reached State) (end : A → World → Reached State → Type 0) (o : Outcome A) : Type 0 where
  pub runs : Runs (moves p) bound from end o

-- the same from where a step leads
pub record After {A : Type 0} (p : Program) (bound : ℕ) (next : Next State) (i : List ℕ) (t : List Event) (end : A → World → Reached State → Type 0)
    (o : Outcome A) : Type 0 where
  pub follows : Follows p bound (follow (recount next) i t) end o
  pub open follows use *

module _ {p : Program} {bound : ℕ} {A : Type 0} {end : A → World → Reached State → Type 0} where
  pub ends : {r : Reached State} {a : A} {w : World} → end a w r → Follows p bound r end (Done a w)
  ends {r} h = record { runs = inr (r, leads_same (moves p) r r refl, h) }

  pub leads : {r r' : Reached State} {o : Outcome A} → Leads (moves p) r r' → Follows p bound r' end o → Follows p bound r end o
  leads {r} {r'} {o} l h = record { runs = runs_by (moves p) bound bound r r' end o l (omega arith) h.runs }

  pub on : {r r' : Reached State} {o : Outcome A} → r ≡ r' → Follows p bound r' end o → Follows p bound r end o
  on e h = leads (leads_same (moves p) _ _ e) h

  pub fewer : {more : ℕ} {r : Reached State} {o : Outcome A} → bound ≤ more → Follows p more r end o → Follows p bound r end o
  fewer {more} {r} {o} le h = record { runs = runs_by (moves p) bound more r r end o (leads_same (moves p) r r refl) (omega (arith, le)) h.runs }

  pub faults : {f : Fault} {w : World} → After p bound (Faults f) w.input w.trace end (Faulted f w)
  faults = record { follows = record { runs = inr (leads_same (moves p) _ _ refl) } }

  pub quietly : {s : State} {i : List ℕ} {t : List Event} {o : Outcome A} → Follows p bound (Running (fresh s) i t) end o → After p bound (Goes s []) i t end o
  quietly {s} {i} {t} h = record { follows = on (ap (Running (fresh s) i) (append-nil t)) h }

  -- what an action does is one step
  pub steps_more : {pc : ℕ} {frames : List ReturnFrame} {stack : List ℤ} {held : Heap} {i : List ℕ} {t : List Event} {o : Outcome A} (x : PlainAction) → Acts p pc x
      → After p bound (does p x (at frames pc stack held)) i t end o → Follows p (suc bound) (Running (at frames pc stack held) i t) end o
  steps_more {frames} {stack} {held} {i} {t} x acts h =
      record { runs = runs_by (moves p) (suc bound) bound _ _ end _ (leads_step (moves p) _ i t _ (ap recount (acts frames stack held))) (omega arith) h.runs }

  pub steps : {pc : ℕ} {frames : List ReturnFrame} {stack : List ℤ} {held : Heap} {i : List ℕ} {t : List Event} {o : Outcome A} (x : PlainAction) → Acts p pc x
      → After p bound (does p x (at frames pc stack held)) i t end o → Follows p bound (Running (at frames pc stack held) i t) end o
  steps x acts h = fewer (omega arith) (steps_more x acts h)

  -- what is done leads to one end
  pub done_then : {B : Type 0} {middle : B → World → Reached State → Type 0} {r : Reached State} {b : B} {w : World} {o : Outcome A}
      → Follows p bound r middle (Done b w) → ((to : Reached State) → middle b w to → Follows p bound to end o) → Follows p bound r end o
  done_then {r} h others = elim h.runs [ inl wedged ↦ record { runs = inl wedged } | inr there ↦ leads there.1 (others there.0 there.2) ]

  -- one part after another, where what is meant is faulted or cut with the first part
  pub through : {B : Type 0} {middle : B → World → Reached State → Type 0} {r : Reached State} {o : Outcome B} (meant : Outcome B → Outcome A)
      → ((f : Fault) (w : World) → meant (Faulted f w) ≡ Faulted f w) × ((w : World) → meant (Cut w) ≡ Cut w) → Follows p bound r middle o
      → ((b : B) (w : World) (to : Reached State) → middle b w to → Follows p bound to end (meant (Done b w))) → Follows p bound r end (meant o)
  through {o = Done b w} meant strict h others = done_then h (others b w)
  through {o = Faulted f w} meant strict h others = rw (strict.0 f w) (record { runs = h.runs })
  through {o = Cut w} meant strict h others = rw (strict.1 w) (record { runs = h.runs })

  pub next : {B : Type 0} {middle : B → World → Reached State → Type 0} {r : Reached State} {o : Outcome B} {go : B → World → Outcome A}
      → Follows p bound r middle o → ((b : B) (w : World) (to : Reached State) → middle b w to → Follows p bound to end (go b w))
      → Follows p bound r end (then_do o go)
  next {go} = through (λ o. then_do o go) (λ f w. refl, λ w. refl)

  -- by what follows from each of its ends
  pub further_on : {middle : A → World → Reached State → Type 0} {r : Reached State} {o : Outcome A} → Follows p bound r middle o
      → ((a : A) (w : World) (to : Reached State) → middle a w to → Follows p bound to end (Done a w)) → Follows p bound r end o
  further_on = through (λ o. o) (λ f w. refl, λ w. refl)

  pub better : {middle : A → World → Reached State → Type 0} {r : Reached State} {o : Outcome A} → Follows p bound r middle o
      → ((a : A) (w : World) (to : Reached State) → middle a w to → end a w to) → Follows p bound r end o
  better h f = further_on h (λ a w to m. ends (f a w to m))

-- a step that shows nothing
pub shows_nothing : {S : Type 0} {step : S → Next S} {s : S} {i : List ℕ} {t : List Event} → Leads step (follow (Goes s []) i t) (Running s i t)
shows_nothing {step} {s} {i} {t} = leads_same step _ _ (ap (Running s i) (append-nil t))

-- a run comes from the first of these actions to the place after them
pub record Crosses (p : Program) (frames : List ReturnFrame) (xs : List PlainAction) (rs : List ℕ) (stack : List ℤ) (w : World) (rs' : List ℕ) (stack' : List ℤ)
    (w' : World) : Type 0 where
  pub leads : (pc : ℕ) → HasAt p pc xs → Leads (moves p) (running frames rs pc stack w) (running frames rs' (pc + length xs) stack' w')

module _ {p : Program} {frames : List ReturnFrame} {rs : List ℕ} {stack : List ℤ} {w : World} {rs' : List ℕ} {stack' : List ℤ} {w' : World} where
  pub one_crosses : {x : PlainAction}
      → ((pc : ℕ) → Leads (moves p) (follow (recount (does p x (at frames pc stack (held_of rs w)))) w.input w.trace) (running frames rs' (pc + 1) stack' w'))
      → Crosses p frames (x ∷ []) rs stack w rs' stack' w'
  one_crosses {x} h = record {
    leads = λ pc has.
        leads_trans (moves p) _ _ _ (leads_step (moves p) (at frames pc stack (held_of rs w)) w.input w.trace _ (ap recount (has.0 frames stack (held_of rs w)))) (h pc);
  }

  pub then_crosses : {xs ys : List PlainAction} {rs1 : List ℕ} {stack1 : List ℤ} {w1 : World} → Crosses p frames xs rs stack w rs1 stack1 w1
      → Crosses p frames ys rs1 stack1 w1 rs' stack' w' → Crosses p frames (xs ++ ys) rs stack w rs' stack' w'
  then_crosses {xs} {ys} a b = record {
    leads = λ pc has.
        let e : pc + length xs + length ys ≡ pc + length (xs ++ ys) = omega (arith, length-append xs ys) in
        leads_trans (moves p) _ _ _ (a.leads pc (has_front p pc xs ys has)) (rw (← e) (b.leads (pc + length xs) (has_back p pc xs ys has)));
  }

pub no_crosses : {p : Program} {frames : List ReturnFrame} {rs : List ℕ} {stack : List ℤ} {w : World} → Crosses p frames [] rs stack w rs stack w
no_crosses {p} {frames} {rs} {stack} {w} = search (arith, leads_same)
