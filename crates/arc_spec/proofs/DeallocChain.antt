-- The deallocs of a class and of its superclasses run one class at a time.
use Rattle.std.proofs.Common.{◌≡◌, ℕ, suc, Option, Some, None, slice_get, option_map, refl, ap, ◌∙◌}
use Rattle.std.proofs.lemmas.Option.{slice_get-map}
use Rattle.arc_spec.specs.Classes.{Class, superclass_of, superclasses, and_above, ancestry_within, own_dealloc}
use Rattle.arc_spec.specs.Meaning.{Callees, dealloc_run, deallocs_run}
use Rattle.arc_spec.specs.Resolved.{Program}
use Rattle.arc_spec.specs.World.{World, Outcome, Done, then_do, Finished, finished}

-- the dealloc of a class, and then what is above it
abbrev pub dealloc_and_above : Program → Callees → (bound : ℕ) → Option Class → (o : ℕ) → (above : Option ℕ → World → Outcome Finished) → World → Outcome Finished
dealloc_and_above P D bound None o above w = Done finished w
dealloc_and_above P D bound (Some c) o above w = then_do (dealloc_run P D bound c.dealloc o w) (λ _ w1. above c.superclass w1)

pub deallocs_from : (P : Program) (D : Callees) (bound n class o : ℕ) (w : World)
    → deallocs_run P D bound (ancestry_within (suc n) (superclasses P.classes) (Some class)) o w
    ≡ dealloc_and_above P D bound (slice_get P.classes class) o (λ above w1. deallocs_run P D bound (ancestry_within n (superclasses P.classes) above) o w1) w
deallocs_from P D bound n class o w =
    ap (λ s. deallocs_run P D bound (and_above class s (λ above. ancestry_within n (superclasses P.classes) above)) o w) (slice_get-map superclass_of P.classes class)
    ∙ go (slice_get P.classes class) refl
  where
    go : (c : Option Class) → slice_get P.classes class ≡ c
        → deallocs_run P D bound (and_above class (option_map superclass_of c) (λ above. ancestry_within n (superclasses P.classes) above)) o w
        ≡ dealloc_and_above P D bound c o (λ above w1. deallocs_run P D bound (ancestry_within n (superclasses P.classes) above) o w1) w
    go None e = refl
    go (Some c) e = ap (λ d. then_do (dealloc_run P D bound (own_dealloc d) o w) (λ _ w1. deallocs_run P D bound (ancestry_within n (superclasses P.classes) c.superclass) o w1)) e
