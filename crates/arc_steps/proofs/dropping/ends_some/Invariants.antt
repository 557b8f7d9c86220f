use Rattle.std.proofs.Common.{◌≡◌, ◌<◌, ℕ, Some}
use Rattle.std.specs.Prelude.{slice_get}
use Rattle.arc_steps.specs.Releases.{IsAlone}
use Rattle.arc_steps.proofs.dropping.ends_some.Given as goal

abbrev pub invariant-loop-depth : goal.invariant-loop-depth
invariant-loop-depth g l = (d word : ℕ) → d < l.depth → slice_get l.objects.places d ≡ Some word → IsAlone g.S.Store.out l.objects word → ⊥
