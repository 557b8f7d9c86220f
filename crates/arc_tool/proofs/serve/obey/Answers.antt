use Rattle.std.proofs.lemmas.Result.{err_from_is_err_and}
use Rattle.arc_tool.proofs.CommandFailures.{has_run, not_run, same_device, same_flushed, ended_flushed}
use Rattle.arc_tool.proofs.serve.obey.Goals as goal

pub returns-in_err-stop-in-Run-clause-obeyed : goal.returns-in_err-stop-in-Run-clause-obeyed
returns-in_err-stop-in-Run-clause-obeyed g c =
    let p = err_from_is_err_and c.from_residual.result c.from_residual.ensures.1 in
    rw (c.in-Run.is, p.1, p.2)
    (not_run c.args.source.now _ c.args.input.now c.run_text.new.reader c.args.output.now c.run_text.new.writer c.in_err-stop-in-Run.field-0.0 (λ r h. h) c.in_err-stop-in-Run.ensures.answered c.in_err-stop-in-Run.ensures.untouched)

pub returns-in_err-stop-in-Trace-clause-obeyed : goal.returns-in_err-stop-in-Trace-clause-obeyed
returns-in_err-stop-in-Trace-clause-obeyed g c =
    let p = err_from_is_err_and c.from_residual-in_err-stop-in-Trace.result c.from_residual-in_err-stop-in-Trace.ensures.1 in
    rw (c.in-Trace.is, p.1, p.2)
    (not_run c.args.source.now _ c.args.input.now c.trace_text.new.reader c.args.output.now c.trace_text.new.writer c.in_err-stop-in-Trace.field-0.0 (λ r h. h) c.in_err-stop-in-Trace.ensures.answered c.in_err-stop-in-Trace.ensures.untouched)

pub returns-in_err-stop-in-Run-clause-blamed : goal.returns-in_err-stop-in-Run-clause-blamed
returns-in_err-stop-in-Run-clause-blamed g c =
    let p = err_from_is_err_and c.from_residual.result c.from_residual.ensures.1 in
    rw (p.1, p.2) (same_device _ _ _ _ _ _ c.in_err-stop-in-Run.field-0.0 c.in_err-stop-in-Run.ensures.caused)

pub returns-in_err-stop-in-Trace-clause-blamed : goal.returns-in_err-stop-in-Trace-clause-blamed
returns-in_err-stop-in-Trace-clause-blamed g c =
    let p = err_from_is_err_and c.from_residual-in_err-stop-in-Trace.result c.from_residual-in_err-stop-in-Trace.ensures.1 in
    rw (p.1, p.2) (same_device _ _ _ _ _ _ c.in_err-stop-in-Trace.field-0.0 c.in_err-stop-in-Trace.ensures.caused)

pub returns-in_ok-stop-in-Run-clause-obeyed : goal.returns-in_ok-stop-in-Run-clause-obeyed
returns-in_ok-stop-in-Run-clause-obeyed g c = rw (c.in-Run.is, c.ended.ensures) (has_run c.args.source.now _ _ c.in_ok-stop-in-Run.stop c.in_ok-stop-in-Run.ensures.answered)

pub returns-in_ok-stop-in-Trace-clause-obeyed : goal.returns-in_ok-stop-in-Trace-clause-obeyed
returns-in_ok-stop-in-Trace-clause-obeyed g c = rw (c.in-Trace.is, c.ended-in-Trace.ensures) (has_run c.args.source.now _ _ c.in_ok-stop-in-Trace.stop c.in_ok-stop-in-Trace.ensures.answered)

pub returns-in_err-stop-in-Run-clause-passed_on : goal.returns-in_err-stop-in-Run-clause-passed_on
returns-in_err-stop-in-Run-clause-passed_on g c =
    let p = err_from_is_err_and c.from_residual.result c.from_residual.ensures.1 in
    rw (p.1, p.2) (same_flushed _ _ c.in_err-stop-in-Run.field-0.0 c.in_err-stop-in-Run.ensures.passed_on)

pub returns-in_err-stop-in-Trace-clause-passed_on : goal.returns-in_err-stop-in-Trace-clause-passed_on
returns-in_err-stop-in-Trace-clause-passed_on g c =
    let p = err_from_is_err_and c.from_residual-in_err-stop-in-Trace.result c.from_residual-in_err-stop-in-Trace.ensures.1 in
    rw (p.1, p.2) (same_flushed _ _ c.in_err-stop-in-Trace.field-0.0 c.in_err-stop-in-Trace.ensures.passed_on)

pub returns-in_ok-stop-in-Run-clause-passed_on : goal.returns-in_ok-stop-in-Run-clause-passed_on
returns-in_ok-stop-in-Run-clause-passed_on g c = rw c.ended.ensures (ended_flushed _ _ c.in_ok-stop-in-Run.stop c.in_ok-stop-in-Run.ensures.passed_on)

pub returns-in_ok-stop-in-Trace-clause-passed_on : goal.returns-in_ok-stop-in-Trace-clause-passed_on
returns-in_ok-stop-in-Trace-clause-passed_on g c = rw c.ended-in-Trace.ensures (ended_flushed _ _ c.in_ok-stop-in-Trace.stop c.in_ok-stop-in-Trace.ensures.passed_on)
