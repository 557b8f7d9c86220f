-- Runs are steady: more steps show more events, and a run that is over stays as it is.
use Rattle.std.proofs.Common.{◌≡◌, ℕ, zero, suc, ◌+◌, ◌-◌, ◌≤◌, List, [], ◌∷◌, ◌++◌, Option, Some, refl, sym, ap, subst, ◌∙◌, append_assoc, arith}
use Rattle.std.proofs.lemmas.List.{append-nil}
use Rattle.arc_spec.specs.declared.event.Event.{Event}
use Rattle.arc_spec.specs.SmallSteps.{Next, Goes, Asks, Ends, Faults, Stuck, Reached, Running, Ended, Faulted, Wedged, fed, follow, further, after_steps}
use Rattle.arc_spec.specs.Correctness.{IsPrefix, Stop, run_seen, Steady}

pub prefix_refl : (a : List Event) → IsPrefix a a
prefix_refl a = ([], sym (append-nil a))

pub prefix_trans : (a b c : List Event) → IsPrefix a b → IsPrefix b c → IsPrefix a c
prefix_trans a b c p q = (p.0 ++ q.0, q.1 ∙ ap (λ t. t ++ q.0) p.1 ∙ append_assoc a p.0 q.0)

fed_grows : {S : Type 0} → (k : Option ℕ → S) (i : List ℕ) (t : List Event) → IsPrefix t (run_seen (fed k i t)).trace
fed_grows k [] t = prefix_refl t
fed_grows k (b ∷ i) t = prefix_refl t

follow_grows : {S : Type 0} → (n : Next S) (i : List ℕ) (t : List Event) → IsPrefix t (run_seen (follow n i t)).trace
follow_grows (Goes s es) i t = (es, refl)
follow_grows (Asks k) i t = fed_grows k i t
follow_grows (Ends v) i t = prefix_refl t
follow_grows (Faults f) i t = prefix_refl t
follow_grows Stuck i t = prefix_refl t

further_grows : {S : Type 0} → (step : S → Next S) (r : Reached S) → IsPrefix (run_seen r).trace (run_seen (further step r)).trace
further_grows step (Running s i t) = follow_grows (step s) i t
further_grows step (Ended v i t) = prefix_refl t
further_grows step (Faulted f i t) = prefix_refl t
further_grows step (Wedged i t) = prefix_refl t

further_stays : {S : Type 0} → (step : S → Next S) (r : Reached S) (s : Stop) → (run_seen r).stop ≡ Some s → further step r ≡ r
further_stays step (Running u i t) s e = cc
further_stays step (Ended v i t) s e = refl
further_stays step (Faulted f i t) s e = refl
further_stays step (Wedged i t) s e = refl

module _ {S : Type 0} (step : S → Next S) (r : Reached S) where
  -- the first of more steps
  pub more_grows : (j d : ℕ) → IsPrefix (run_seen (after_steps step j r)).trace (run_seen (after_steps step (d + j) r)).trace
  more_grows j zero = let e : zero + j ≡ j = omega arith in subst (λ n. IsPrefix (run_seen (after_steps step j r)).trace (run_seen (after_steps step n r)).trace) (sym e) (prefix_refl (run_seen (after_steps step j r)).trace)
  more_grows j (suc d) =
      let e : suc (d + j) ≡ suc d + j = omega arith in
      subst (λ n. IsPrefix (run_seen (after_steps step j r)).trace (run_seen (after_steps step n r)).trace) e
      (prefix_trans (run_seen (after_steps step j r)).trace (run_seen (after_steps step (d + j) r)).trace (run_seen (further step (after_steps step (d + j) r))).trace (more_grows j d) (further_grows step (after_steps step (d + j) r)))

  pub more_stays : (j d : ℕ) (s : Stop) → (run_seen (after_steps step j r)).stop ≡ Some s → after_steps step (d + j) r ≡ after_steps step j r
  more_stays j zero s h = let e : zero + j ≡ j = omega arith in ap (λ n. after_steps step n r) e
  more_stays j (suc d) s h =
      let e : suc d + j ≡ suc (d + j) = omega arith in
      let back = more_stays j d s h in
      ap (λ n. after_steps step n r) e ∙ ap (further step) back ∙ further_stays step (after_steps step j r) s h

gap : (j k : ℕ) → j ≤ k → (d : ℕ) × (d + j ≡ k)
gap j zero le = (zero, omega arith)
gap j (suc k) le = (suc k - j, omega arith)

-- runs of steps are steady
pub steady : {S : Type 0} → (step : S → Next S) (s : S) → Steady (λ input k. run_seen (after_steps step k (Running s input [])))
steady step s = record {
  grows = λ input j k le. let d = gap j k le in subst (λ n. IsPrefix (run_seen (after_steps step j (Running s input []))).trace (run_seen (after_steps step n (Running s input []))).trace) d.1 (more_grows step (Running s input []) j d.0);
  stays = λ input j k stop le h. let d = gap j k le in ap (λ n. run_seen (after_steps step n (Running s input []))) (sym d.1) ∙ ap run_seen (more_stays step (Running s input []) j d.0 stop h);
}
