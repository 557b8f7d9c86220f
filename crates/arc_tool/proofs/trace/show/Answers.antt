use Rattle.std.proofs.Common.{◌≡◌, rules}
use Rattle.std.proofs.lemmas.Result.{err_from_is_err_and}
use Rattle.arc_tool.specs.private.TraceSteps.{new_events}
use Rattle.arc_tool.proofs.trace.show.Goals as goal

pub returns-in_err-put_events-clause-broken : goal.returns-in_err-put_events-clause-broken
returns-in_err-put_events-clause-broken g c =
    let p = err_from_is_err_and c.from_residual.result c.from_residual.ensures.1 in
    let all : new_events c.args.machine.now c.args.before ≡ c.events.result.now = search rules in
    rw (p.1, p.2, all) c.in_err-put_events.ensures
