use Rattle.std.proofs.Common.{refl}
use Rattle.std.proofs.lemmas.Result.{err_from_is_err_and}
use Rattle.arc_code.specs.CountedDevices.{failures_of}
use Rattle.arc_tool.proofs.CommandFailures.{refused_so, refused_blamed, refused_flushed, output_failed}
use Rattle.arc_tool.proofs.serve.check_source.Goals as goal

pub returns-in_err-accept-clause-checks : goal.returns-in_err-accept-clause-checks
returns-in_err-accept-clause-checks g c =
    let p = err_from_is_err_and c.from_residual.result c.from_residual.ensures.1 in
    rw p.1 (refused_so c.args.source.now c.in_err-accept.field-0.0 p.0 _ _ c.in_err-accept.ensures.refused p.2 refl)

pub returns-in_err-accept-clause-blamed : goal.returns-in_err-accept-clause-blamed
returns-in_err-accept-clause-blamed g c =
    let p = err_from_is_err_and c.from_residual.result c.from_residual.ensures.1 in
    rw p.1 (refused_blamed (failures_of c.args.output.now) _ c.in_err-accept.field-0.0 p.0 p.2)

pub returns-in_err-accept-clause-passed_on : goal.returns-in_err-accept-clause-passed_on
returns-in_err-accept-clause-passed_on g c =
    let p = err_from_is_err_and c.from_residual.result c.from_residual.ensures.1 in
    rw p.1 (refused_flushed _ _ c.in_err-accept.field-0.0 p.0 p.2)

pub returns-in_err-print-clause-passed_on : goal.returns-in_err-print-clause-passed_on
returns-in_err-print-clause-passed_on g c =
    let p = err_from_is_err_and c.from_residual-in_err-print.result c.from_residual-in_err-print.ensures.1 in
    rw (p.1, p.2) (output_failed _ _ c.in_err-print.field-0.0 c.in_err-print.ensures.prints.0)

pub returns-clause-passed_on : goal.returns-clause-passed_on
returns-clause-passed_on g c = c.in_ok-print.ensures.passed_on
