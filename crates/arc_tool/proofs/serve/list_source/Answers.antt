use Rattle.std.proofs.Common.{refl}
use Rattle.std.proofs.lemmas.Result.{err_from_is_err_and}
use Rattle.arc_code.specs.CountedDevices.{failures_of}
use Rattle.arc_code.specs.Listing.{listing}
use Rattle.arc_code.specs.CodeSteps.{program_of}
use Rattle.arc_tool.proofs.FlushAfterText.{flush_failed}
use Rattle.arc_tool.proofs.CommandFailures.{refused_so, refused_blamed, refused_flushed, output_failed}
use Rattle.arc_tool.proofs.serve.list_source.Goals as goal

pub returns-in_err-code-clause-lists : goal.returns-in_err-code-clause-lists
returns-in_err-code-clause-lists g c =
    let p = err_from_is_err_and c.from_residual.result c.from_residual.ensures.1 in
    rw p.1 (refused_so c.args.source.now c.in_err-code.field-0.0 p.0 _ _ c.in_err-code.ensures.refused p.2 refl)

pub returns-in_err-code-clause-blamed : goal.returns-in_err-code-clause-blamed
returns-in_err-code-clause-blamed g c =
    let p = err_from_is_err_and c.from_residual.result c.from_residual.ensures.1 in
    rw p.1 (refused_blamed (failures_of c.args.output.now) _ c.in_err-code.field-0.0 p.0 p.2)

pub returns-in_err-flush-clause-lists : goal.returns-in_err-flush-clause-lists
returns-in_err-flush-clause-lists g c =
    let p = err_from_is_err_and c.from_residual-in_err-flush.result c.from_residual-in_err-flush.ensures.1 in
    let code = program_of c.in_ok-code.code in
    rw (p.1, p.2) (
      code,
      c.in_ok-code.ensures.compiled,
      flush_failed c.in_err-flush.field-0.0 (listing code.instrs) _ _ _ _ _ _ _ c.in_ok-list.ensures c.in_err-flush.ensures.kept c.in_err-flush.ensures.fault
          c.in_err-flush.ensures.cause c.in_err-flush.ensures.failed,
    )

pub returns-in_err-code-clause-passed_on : goal.returns-in_err-code-clause-passed_on
returns-in_err-code-clause-passed_on g c =
    let p = err_from_is_err_and c.from_residual.result c.from_residual.ensures.1 in
    rw p.1 (refused_flushed _ _ c.in_err-code.field-0.0 p.0 p.2)

pub returns-in_err-list-clause-passed_on : goal.returns-in_err-list-clause-passed_on
returns-in_err-list-clause-passed_on g c =
    let p = err_from_is_err_and c.from_residual-in_err-list.result c.from_residual-in_err-list.ensures.1 in
    rw (p.1, p.2) (output_failed _ _ c.in_err-list.field-0.0 c.in_err-list.ensures.0)

pub returns-in_err-flush-clause-passed_on : goal.returns-in_err-flush-clause-passed_on
returns-in_err-flush-clause-passed_on g c =
    let p = err_from_is_err_and c.from_residual-in_err-flush.result c.from_residual-in_err-flush.ensures.1 in
    rw (p.1, p.2) (output_failed _ _ c.in_err-flush.field-0.0 c.in_err-flush.ensures.fault)

pub returns-clause-passed_on : goal.returns-clause-passed_on
returns-clause-passed_on g c = c.in_ok-flush.ensures.passed_on
