use Rattle.std.proofs.lemmas.Result.{err_from_is_err_and}
use Rattle.arc_code.proofs.WritesCompose.{not_flushed}
use Rattle.arc_tool.specs.declared.lines.Left.TheVariants.{Stopped, Unread}
use Rattle.arc_tool.specs.TraceLines.{end_text}
use Rattle.arc_tool.proofs.FlushAfterText.{and_flushed, flush_failed, passed_or_failed}
use Rattle.arc_tool.proofs.OutputAfterFailure.{write_passes}
use Rattle.arc_tool.proofs.trace.end_trace.Goals as goal

pub returns-in_err-put_end-in-Stopped-clause-ends : goal.returns-in_err-put_end-in-Stopped-clause-ends
returns-in_err-put_end-in-Stopped-clause-ends g c =
    let p = err_from_is_err_and c.from_residual.result c.from_residual.ensures.1 in
    rw (c.in-Stopped.is, p.1, p.2) (not_flushed _ _ _ _ _ _ (end_text c.args.begun (Stopped c.in-Stopped.stop)) c.in_err-put_end-in-Stopped.ensures)

pub returns-in_err-flush-in-Stopped-clause-ends : goal.returns-in_err-flush-in-Stopped-clause-ends
returns-in_err-flush-in-Stopped-clause-ends g c =
    let p = err_from_is_err_and c.from_residual-in_err-flush-in-Stopped.result c.from_residual-in_err-flush-in-Stopped.ensures.1 in
    let e = c.in_err-flush-in-Stopped.ensures in
    rw (c.in-Stopped.is, p.1, p.2) (flush_failed _ (end_text c.args.begun (Stopped c.in-Stopped.stop)) _ _ _ _ _ _ _ c.in_ok-put_end-in-Stopped.ensures e.kept e.fault e.cause e.failed)

pub returns-in-Ok-clause-ends : goal.returns-in-Ok-clause-ends
returns-in-Ok-clause-ends g c =
    let e = c.flush-in-Ok.ensures in
    let wrote = rw c.in-Unread.is at c.in-Ok.ensures in
    let all = and_flushed c.flush-in-Ok.result (end_text c.args.begun Unread) _ _ _ _ _ _ _ _ wrote e.kept e.fine e.cause e.failed e.passed_on in
    rw c.in-Unread.is (all.0, all.1)

pub returns-in_err-put_end-in-Stopped-clause-passed_on : goal.returns-in_err-put_end-in-Stopped-clause-passed_on
returns-in_err-put_end-in-Stopped-clause-passed_on g c =
    let p = err_from_is_err_and c.from_residual.result c.from_residual.ensures.1 in
    rw (p.1, p.2) (write_passes _ _ c.in_err-put_end-in-Stopped.field-0.0 c.in_err-put_end-in-Stopped.ensures.0)

pub returns-in_err-flush-in-Stopped-clause-passed_on : goal.returns-in_err-flush-in-Stopped-clause-passed_on
returns-in_err-flush-in-Stopped-clause-passed_on g c =
    let p = err_from_is_err_and c.from_residual-in_err-flush-in-Stopped.result c.from_residual-in_err-flush-in-Stopped.ensures.1 in
    rw (p.1, p.2) (write_passes _ _ c.in_err-flush-in-Stopped.field-0.0 c.in_err-flush-in-Stopped.ensures.fault)

pub returns-in-Ok-clause-passed_on : goal.returns-in-Ok-clause-passed_on
returns-in-Ok-clause-passed_on g c = passed_or_failed c.flush-in-Ok.result _ _ c.flush-in-Ok.ensures.passed_on c.flush-in-Ok.ensures.failed
