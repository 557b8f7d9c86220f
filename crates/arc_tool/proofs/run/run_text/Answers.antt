use Rattle.std.proofs.Common.{sym, subst, ap}
use Rattle.std.proofs.lemmas.Result.{err_from_is_err_and}
use Rattle.arc_code.specs.CodeSteps.{Program}
use Rattle.arc_tool.specs.declared.lines.Left.TheVariants.{Stopped}
use Rattle.arc_tool.specs.CompiledCode.{Compiles}
use Rattle.arc_tool.proofs.OutputAfterFailure.{refused_passes, printed_passes}
use Rattle.arc_tool.proofs.RunOutput.{prints_all, prints_failed, refused_so}
use Rattle.arc_tool.proofs.run.run_text.Goals as goal

pub returns-in_err-code-clause-answered : goal.returns-in_err-code-clause-answered
returns-in_err-code-clause-answered g c =
    let p = err_from_is_err_and c.from_residual.result c.from_residual.ensures.1 in
    rw p.1 (refused_so c.args.source.now c.args.steps _ _ _ _ c.in_err-code.field-0.0 p.0 c.in_err-code.ensures.refused p.2)

pub returns-in_err-stop-clause-answered : goal.returns-in_err-stop-clause-answered
returns-in_err-stop-clause-answered g c =
    let p = err_from_is_err_and c.from_residual-in_err-stop.result c.from_residual-in_err-stop.ensures.1 in
    let compiled = subst (λ (q : Program). Compiles c.args.source.now q) (sym (ap (λ m. m.program) c.in_ok-machine.ensures)) c.in_ok-code.ensures.compiled in
    rw (p.1, p.2) (prints_failed c.args.source.now c.in_ok-machine.machine.program compiled c.args.steps _ _ _ _ c.in_err-stop.field-0.0 c.in_err-stop.ensures.ran)

pub returns-clause-answered : goal.returns-clause-answered
returns-clause-answered g c =
    let compiled = subst (λ (q : Program). Compiles c.args.source.now q) (sym (ap (λ m. m.program) c.in_ok-machine.ensures)) c.in_ok-code.ensures.compiled in
    prints_all c.args.source.now c.in_ok-machine.machine.program compiled c.args.steps _ _ _ _ (Stopped c.in_ok-stop.stop) c.in_ok-stop.ensures.ran

pub returns-in_err-code-clause-passed_on : goal.returns-in_err-code-clause-passed_on
returns-in_err-code-clause-passed_on g c =
    let p = err_from_is_err_and c.from_residual.result c.from_residual.ensures.1 in
    rw p.1 (refused_passes _ _ c.in_err-code.field-0.0 p.0 p.2)

pub returns-in_err-stop-clause-passed_on : goal.returns-in_err-stop-clause-passed_on
returns-in_err-stop-clause-passed_on g c =
    let p = err_from_is_err_and c.from_residual-in_err-stop.result c.from_residual-in_err-stop.ensures.1 in
    rw (p.1, p.2) (printed_passes _ _ c.in_err-stop.field-0.0 c.in_err-stop.ensures.passed_on)
