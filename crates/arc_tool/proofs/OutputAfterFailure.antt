-- After a refusal or a failed write nothing has to be passed on.
use Rattle.std.proofs.Common.{◌≡◌, Err, sym, subst, ⊎_elim}
use Rattle.arc_code.specs.declared.code.IoFault.{IoFault}
use Rattle.arc_code.specs.declared.code.IoFault.TheVariants.{Read, Write}
use Rattle.arc_tool.specs.declared.refusal.Refusal.{Refusal}
use Rattle.arc_tool.specs.declared.run.ToolFault.{ToolFault}
use Rattle.arc_tool.specs.declared.run.ToolFault.TheVariants.{Refused, Memory, Io}
use Rattle.arc_tool.specs.RunAnswers.{PassesOn}
use Rattle.arc_tool.specs.Reports.{Becomes}
use Rattle.arc_tool.specs.private.PrintedRun.{PassesPrinted}

module _ (P F : Type 0) where
  -- nothing was run
  pub refused_passes : (r : Refusal) (f : ToolFault) → Becomes Memory Refused r f → PassesOn (Err f) P F
  refused_passes r f becomes = ⊎_elim
      (λ memory. subst (λ x. PassesOn (Err x) P F) (sym memory.1) tt)
      (λ other. subst (λ x. PassesOn (Err x) P F) (sym other.1) tt)
      becomes

  -- the writer failed
  pub write_passes : (f : IoFault) → f ≡ Write → PassesOn (Err (Io f)) P F
  write_passes Read is = absurd (let no = is in cc)
  write_passes Write is = tt

  pub write_prints : (f : IoFault) → f ≡ Write → PassesPrinted (Err f) P F
  write_prints Read is = absurd (let no = is in cc)
  write_prints Write is = tt

  -- a run of the code is one of the source
  pub printed_passes : (f : IoFault) → PassesPrinted (Err f) P F → PassesOn (Err (Io f)) P F
  printed_passes Read h = h
  printed_passes Write h = h
