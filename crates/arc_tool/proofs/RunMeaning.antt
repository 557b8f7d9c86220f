-- A run of compiled code is what the source means.
use Rattle.std.proofs.Common.{◌≡◌, ℕ, suc, List, ◌++◌, Option, Some, None, ap, subst, ◌∙◌, arith}
use Rattle.arc_spec.specs.declared.event.Event.{Event}
use Rattle.arc_spec.specs.Correctness as correct
use Rattle.arc_spec.specs.Correctness.{IsPrefix, Observation}
use Rattle.arc_spec.proofs.RunsSteady.{prefix_trans}
use Rattle.arc_code.specs.CodeSteps.{Program, seen}
use Rattle.arc_tool.specs.declared.lines.Left.{Left}
use Rattle.arc_source.specs.Accepted.{meant}
use Rattle.arc_tool.specs.CompiledCode.{Compiles}
use Rattle.arc_tool.specs.SourceRun.{Follows, Means, SourceRun, Within, stop_seen}

module _ (source : List ℕ) (p : Program) (compiled : Compiles source p) (made : ℕ) (input : List ℕ) (events : List Event) where
  -- a run that is over shows the meaning
  over : (s : correct.Stop) → seen p input made ≡ record { trace = events; stop = Some s } → meant compiled.program input (suc made) ≡ record { trace = events; stop = Some s }
  over s h =
      let there = ap (λ (x : Observation). x.stop) h in
      let same = compiled.steady.stays input made (suc made) s (omega arith) there in
      compiled.behaves.stops input (suc made) s (ap (λ (x : Observation). x.stop) same ∙ there) ∙ same ∙ h

  -- a run shows some first events of the meaning
  on_way : (seen p input made).trace ≡ events → IsPrefix events (meant compiled.program input (suc made)).trace
  on_way h = subst (λ t. IsPrefix t (meant compiled.program input (suc made)).trace) h
      (prefix_trans (seen p input made).trace (seen p input (suc made)).trace (meant compiled.program input (suc made)).trace (compiled.steady.grows input made (suc made) (omega arith)) (compiled.behaves.follows input (suc made)))

  pub means_so : (s : Option correct.Stop) → seen p input made ≡ record { trace = events; stop = s } → Means s events (meant compiled.program input (suc made))
  means_so (Some s) h = over s h
  means_so None h = on_way (ap (λ (x : Observation). x.trace) h)

-- a run of the source's code
abbrev pub source_run : (source : List ℕ) (p : Program) → Compiles source p → (steps made : ℕ) (left : Left) (i0 i1 : Option (List ℕ)) (events : List Event) → Within left made steps → Follows p made left i0 i1 events
    → SourceRun source steps left i0 i1
source_run source p compiled steps made left i0 i1 events within run = record {
  code = p;
  compiled = compiled;
  made = made;
  within = within;
  events = events;
  follows = run;
  means = λ rest l. means_so source p compiled made (run.taken ++ rest) events (stop_seen left) (run.shown rest l);
}
