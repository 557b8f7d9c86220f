-- What the program answers where a stage before the end refuses, or a device fails.
use Rattle.std.proofs.Common.{◌≡◌, ℕ, List, codes, Result, Ok, Err, refl, sym, subst, ⊎_elim}
use Rattle.arc_code.specs.declared.code.IoFault.{IoFault}
use Rattle.arc_code.specs.declared.code.IoFault.TheVariants.{Read, Write}
use Rattle.arc_machine.specs.declared.stop.Stop.{Stop}
use Rattle.arc_machine.specs.declared.stop.Stop.TheVariants as stop
use Rattle.arc_tool.specs.declared.refusal.Refusal.{Refusal}
use Rattle.arc_tool.specs.declared.report.Trouble.{Trouble}
use Rattle.arc_tool.specs.declared.report.Trouble.TheVariants as trouble
use Rattle.arc_tool.specs.declared.run.ToolFault.{ToolFault}
use Rattle.arc_tool.specs.declared.run.ToolFault.TheVariants.{Refused, Memory, Io}
use Rattle.arc_tool.specs.RefusalStages.{IsRefusal}
use Rattle.arc_tool.specs.Reports.{Becomes, Names}
use Rattle.arc_tool.specs.RunAnswers.{Untouched, Blames, PassesOn, blamed}
use Rattle.arc_tool.specs.Status.{trouble_of}
use Rattle.arc_tool.specs.CommandAnswers.{Flushed, RunsTo, UnlessRefused, device_of, ended_with}

pub refused_so : (source : List ℕ) (r : Refusal) (t : Trouble) (kept done : Type 0) → IsRefusal source r → Becomes trouble.Memory trouble.Refused r t → kept → UnlessRefused source (Err t) kept done
refused_so source r t kept done is becomes k = ⊎_elim
    (λ memory. subst (λ x. UnlessRefused source (Err x) kept done) (sym memory.1) k)
    (λ other. subst (λ x. UnlessRefused source (Err x) kept done) (sym other.1) (is, other.0, k))
    becomes

-- nothing was run, or a device failed in a run
pub not_run : {I O : Type 0} (source : List ℕ) (answered : Result Stop ToolFault → Type 0) (i0 i1 : I) (o0 o1 : O) (f : ToolFault) → ((r : Refusal) → answered (Err (Refused r)) → IsRefusal source r × (Names (codes "Memory") r → ⊥))
    → answered (Err f) → Untouched (Err f) i0 i1 o0 o1 → UnlessRefused source (Err (trouble_of f)) ((i1 ≡ i0) × (o1 ≡ o0)) (RunsTo (Err (trouble_of f)) answered)
not_run source answered i0 i1 o0 o1 (Refused r) refused h u = ((refused r h).0, (refused r h).1, u)
not_run source answered i0 i1 o0 o1 Memory refused h u = u
not_run source answered i0 i1 o0 o1 (Io f) refused h u = h

-- it was run
pub has_run : (source : List ℕ) (answered : Result Stop ToolFault → Type 0) (kept : Type 0) (s : Stop) → answered (Ok s) → UnlessRefused source (ended_with s) kept (RunsTo (ended_with s) answered)
has_run source answered kept (stop.Ended n) h = (n, refl, h)
has_run source answered kept (stop.Fault f) h = h
has_run source answered kept stop.NoHeap h = h
has_run source answered kept stop.StepsUsed h = h

-- ---- which device is at fault

pub refused_blamed : (w : ℕ) (W : Type 0) (r : Refusal) (t : Trouble) → Becomes trouble.Memory trouble.Refused r t → Blames (device_of (Err t)) 0 0 w w ⊥ W
refused_blamed w W r t becomes = ⊎_elim
    (λ memory. subst (λ x. Blames (device_of (Err x)) 0 0 w w ⊥ W) (sym memory.1) (refl, refl))
    (λ other. subst (λ x. Blames (device_of (Err x)) 0 0 w w ⊥ W) (sym other.1) (refl, refl))
    becomes

module _ (r0 r1 w0 w1 : ℕ) (R W : Type 0) where
  pub same_device : (f : ToolFault) → Blames (blamed (Err f)) r0 r1 w0 w1 R W → Blames (device_of (Err (trouble_of f))) r0 r1 w0 w1 R W
  same_device (Refused r) h = h
  same_device Memory h = h
  same_device (Io f) h = h

-- ---- what was written is passed on

module _ (P F : Type 0) where
  -- nothing was written
  pub refused_flushed : (r : Refusal) (t : Trouble) → Becomes trouble.Memory trouble.Refused r t → Flushed (Err t) P F
  refused_flushed r t becomes = ⊎_elim
      (λ memory. subst (λ x. Flushed (Err x) P F) (sym memory.1) tt)
      (λ other. subst (λ x. Flushed (Err x) P F) (sym other.1) tt)
      becomes

  -- standard output failed
  pub output_failed : (f : IoFault) → f ≡ Write → Flushed (Err (trouble.Io f)) P F
  output_failed Read is = absurd (let no = is in cc)
  output_failed Write is = tt

  -- a run that didn't stop, and one that did
  pub same_flushed : (f : ToolFault) → PassesOn (Err f) P F → Flushed (Err (trouble_of f)) P F
  same_flushed (Refused r) h = tt
  same_flushed Memory h = tt
  same_flushed (Io Read) h = h
  same_flushed (Io Write) h = tt

  pub ended_flushed : (s : Stop) → P → Flushed (ended_with s) P F
  ended_flushed (stop.Ended n) passed = passed
  ended_flushed (stop.Fault f) passed = passed
  ended_flushed stop.NoHeap passed = passed
  ended_flushed stop.StepsUsed passed = passed
