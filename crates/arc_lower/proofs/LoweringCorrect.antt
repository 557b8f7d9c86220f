-- The lowering is correct: runs that show what is meant behave as it is meant, and the actions of a checked program perform it.
use Rattle.std.proofs.Common.{◌≡◌, ℕ, ◌≤◌, List, Some, refl, sym, ap, ◌∙◌, subst, arith, ◌+◌, ℤ, [], ◌∷◌, ◌++◌, length, length-append, le_of_eq, inl, inr}
use Rattle.arc_spec.specs.Correctness as stopping
use Rattle.arc_spec.specs.Correctness.{run_seen, IsPrefix, Stop, Observation, Behaves, Steady, meaning_seen, run_seen}
use Rattle.arc_spec.proofs.RunsSteady.{prefix_refl, steady}
use Rattle.arc_spec.specs.declared.class.Gives.TheVariants as gives
use Rattle.arc_spec.specs.Resolved as resolved
use Rattle.arc_spec.specs.World.{World, Outcome, Done, Faulted, Cut, first_world, nothing_given}
use Rattle.arc_spec.specs.Meaning.{mean}
use Rattle.arc_spec.specs.SmallSteps.{Reached, Running, Ended, after_steps}
use Rattle.arc_ir.specs.ActionSteps.{Program, State, step, start, seen}
use Rattle.arc_code.specs.declared.instr.Instr.TheVariants.{Call, Return, EndStep}
use Rattle.arc_lower.specs.Lowered.{start_actions, end_step_of, number_of, slots_of, parameters_of, passing_actions}
use Rattle.arc_lower.specs.LoweringContract.{Performs, IsLowered}
use Rattle.arc_lower.proofs.RunsCompose.{Runs, running, Follows, ends, leads, on, steps, next}
use Rattle.arc_lower.proofs.RecountedSteps.{fresh, moves, HasAt, has_front, has_back}
use Rattle.arc_lower.proofs.StackAccess.{passing_leads}
use Rattle.arc_lower.proofs.ProgramHeights.{start_stands, has_part, end_is, Linked, stubs_linked as linked}
use Rattle.arc_lower.proofs.CallSimulation.{calls_run}
use Rattle.arc_lower.proofs.ActionSafety.{room_suffices, seen_moves, never_wedged}
use Rattle.arc_spec.specs.declared.limits.TheConstants.{MOST_LEVELS}

module _ (p : Program) (R : resolved.Program) (is : IsLowered R p) where
  -- what is seen of a run that does what is meant
  abbrev Ends_with : ℤ → World → Reached State → Type 0
  Ends_with v w to = to ≡ Ended v w.input w.trace

  program_runs : (input : List ℕ) (bound : ℕ) → Follows p bound (running [] [] 0 [] (first_world p.globals p.strong_globals input)) Ends_with (mean R input bound)
  program_runs input bound =
      let w = first_world R.globals R.strong_globals input in
      let fits = passing_actions R gives.Number R.main 0 0 in
      let call = Call (number_of R gives.Number R.main) gives.Number ∷ [] in
      let last_actions = Return ∷ (EndStep ∷ []) in
      let q = 0 + length fits in
      let has = has_part p R is.actions 0 (start_actions R) (start_stands R).1 in
      let has_call = has_front p 0 (fits ++ call) last_actions has in
      let size : 0 + length (fits ++ call) ≡ q + 1 = omega (arith, length-append fits call) in
      let last = subst (λ n. HasAt p n last_actions) size (has_back p 0 (fits ++ call) last_actions has) in
      let ready = passing_leads p [] (slots_of R gives.Number R.main) (parameters_of R gives.Number R.main) 0 0 nothing_given [] [] w 0 refl refl
      (has_front p 0 fits call has_call) in
      let has_end = subst (λ n. HasAt p n (EndStep ∷ [])) (sym is.end_step) (has_part p R is.actions (end_step_of R) (EndStep ∷ []) (end_is R, tt)) in
      let calls = calls_run p R bound is.actions is.entries (subst (Linked R) (sym is.classes) (linked R)) has_end MOST_LEVELS [] (omega arith) in
      let same : w ≡ first_world p.globals p.strong_globals input = rw (is.globals, is.strong_globals) refl in
      subst (λ (w1 : World). Follows p bound (running [] [] 0 [] w1) Ends_with (mean R input bound)) same
      (next (leads ready (calls.invokes gives.Number R.main nothing_given [] [] w q (has_back p 0 fits call has_call))) (λ a w1 to m.
      on m.0 (steps Return last.0 (rw m.1.frame (record { follows = ends refl })))))

  abbrev calm : Steady (seen p)
  calm = steady (step p) (start p)

  -- some steps, and no fewer than the bound, show what is meant
  abbrev Shows : List ℕ → (bound : ℕ) → Observation → Type 0
  Shows input bound meant = (n : ℕ) × (bound ≤ n) × (seen p input n ≡ meant)

  -- a run that is over shows the same after more steps
  over : (input : List ℕ) (bound n : ℕ) (r : Reached State) (meant : Observation) (stop : Stop) → after_steps (moves p) n (Running (fresh (start p)) input []) ≡ r → run_seen r ≡ meant
      → meant.stop ≡ Some stop → Shows input bound meant
  over input bound n r meant stop there is_meant stops =
      let e = seen_moves p R is.actions is.entries is.classes is.end_step input n ∙ ap run_seen there ∙ is_meant in
      (n + bound, omega arith, calm.stays input n (n + bound) stop (omega arith) (ap (λ (x : Observation). x.stop) e ∙ stops) ∙ e)

  shows : (input : List ℕ) (bound : ℕ) (o : Outcome ℤ) → Runs (moves p) bound (running [] [] 0 [] (first_world p.globals p.strong_globals input)) Ends_with o
      → Shows input bound (meaning_seen o)
  shows input bound o (inl wedged) = absurd (never_wedged p R is.actions is.entries is.classes is.end_step input wedged.0 wedged.1 wedged.2.steps wedged.2.there)
  shows input bound (Done v w) (inr r) = over input bound r.1.steps _ _ (stopping.Ends v) (r.1.there ∙ r.2) refl refl
  shows input bound (Faulted f w) (inr r) = over input bound r.steps _ _ (stopping.Faults f) r.there refl refl
  shows input bound (Cut w) (inr r) = (r.0, r.2, seen_moves p R is.actions is.entries is.classes is.end_step input r.0 ∙ ap run_seen r.3)

  shown : (input : List ℕ) (bound : ℕ) → Shows input bound (meaning_seen (mean R input bound))
  shown input bound = shows input bound (mean R input bound) (program_runs input bound).runs

  behaves : Behaves (λ input bound. meaning_seen (mean R input bound)) (seen p)
  behaves = record {
    follows = λ input k. let s = shown input k in subst (λ (x : Observation). IsPrefix (seen p input k).trace x.trace) s.2 (calm.grows input k s.0 s.1);
    stops = λ input k stop stopped. let s = shown input k in sym s.2 ∙ calm.stays input k s.0 stop s.1 stopped;
    comes = λ input n. let s = shown input n in (s.0, subst (λ (x : Observation). IsPrefix (meaning_seen (mean R input n)).trace x.trace) (sym s.2) (prefix_refl _), λ stop stopped. s.2);
  }

  -- the actions that a program becomes perform it
  pub performs : Performs R p
  performs =
      let sound = room_suffices p R is.actions is.entries is.classes is.end_step (le_of_eq (sym is.room)) (le_of_eq (sym is.names)) (le_of_eq (sym is.places)) in
      record { behaves = behaves; steady = calm; sound = sound }
