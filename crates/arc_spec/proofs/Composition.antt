-- Refinements compose: runs that refine runs of a meaning do what is meant.
use Rattle.std.proofs.Common.{◌≡◌, ℕ, ◌+◌, ◌≤◌, List, Some, None, sym, ap, subst, ◌∙◌, arith, ⊎_elim}
use Rattle.arc_spec.specs.Correctness.{IsPrefix, Observation, Stop, Behaves, Steady, Amid, Refines}
use Rattle.arc_spec.proofs.RunsSteady.{prefix_trans}

module _ (meant a b : List ℕ → ℕ → Observation) (means : Behaves meant a) (steady : Steady a) (refines : Refines a b) where
  follows_amid : (input : List ℕ) (j k : ℕ) → j ≤ k → Amid a input j k (b input k) → IsPrefix (b input k).trace (a input k).trace
  follows_amid input j k le h = ⊎_elim
      (λ same. subst (λ (x : Observation). IsPrefix x.trace (a input k).trace) (sym same) (steady.grows input j k le))
      (λ amid. prefix_trans (b input k).trace (a input (j + 1)).trace (a input k).trace amid.3 (steady.grows input (j + 1) k (omega arith)))
      h

  stops_amid : (input : List ℕ) (j k : ℕ) (s : Stop) → j ≤ k → (b input k).stop ≡ Some s → Amid a input j k (b input k) → meant input k ≡ b input k
  stops_amid input j k s le over h = ⊎_elim
      (λ same.
      let there : (a input j).stop ≡ Some s = ap (λ (x : Observation). x.stop) (sym same) ∙ over in
      let later = steady.stays input j k s le there in
      means.stops input k s (ap (λ (x : Observation). x.stop) later ∙ there) ∙ later ∙ sym same)
      (λ amid. let no : None ≡ Some s = sym amid.1 ∙ over in absurd (cc))
      h

  pub composed : Behaves meant b
  composed = record {
    follows = λ input k. let f = refines.follows input k in prefix_trans (b input k).trace (a input k).trace (meant input k).trace (follows_amid input f.0 k f.1 f.2) (means.follows input k);
    stops = λ input k s over. let f = refines.follows input k in stops_amid input f.0 k s f.1 over f.2;
    comes = λ input n.
        let first = means.comes input n in
        let then = refines.comes input first.0 in (
          then.0,
          prefix_trans (meant input n).trace (a input first.0).trace (b input then.0).trace first.1 then.1,
          λ s over.
              let same = first.2 s over in
              then.2 s (ap (λ (x : Observation). x.stop) same ∙ over) ∙ same,
        );
  }
