use Rattle.std.proofs.Common.{sym, subst}
use Rattle.std.proofs.lemmas.Result.{IfOk-weaker}
use Rattle.arc_spec.specs.Correctness.{Refines}
use Rattle.arc_spec.proofs.RunsSteady.{steady}
use Rattle.arc_ir.specs.ActionSteps as acting
use Rattle.arc_code.specs.CodeSteps as running
use Rattle.arc_emit.proofs.CodeSimulation.{code_refines, code_sound}
use Rattle.arc_emit.proofs.emit.emit.Goals as goal

-- what holds of the code of a program holds of what was written for it
pub returns-clause-sound : goal.returns-clause-sound
returns-clause-sound c = IfOk-weaker c.write_code.result _ _ (λ code e. subst running.IsSound (sym e) (code_sound _ c.requires)) c.write_code.ensures.code

pub returns-clause-refines : goal.returns-clause-refines
returns-clause-refines c =
    let p = acting.program_of c.args.ir.now in
    IfOk-weaker c.write_code.result _ _ (λ code e. subst (λ q. Refines (acting.seen p) (running.seen q)) (sym e) (code_refines p)) c.write_code.ensures.code

pub returns-clause-steady : goal.returns-clause-steady
returns-clause-steady c = IfOk-weaker c.write_code.result _ _ (λ code _. steady _ _) c.write_code.ensures.code
