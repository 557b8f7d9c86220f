use Rattle.std.proofs.Common.{map, arith}
use Rattle.std.proofs.lemmas.Result.{err_from_is_err_and}
use Rattle.arc_tool.specs.CompiledCode.{bytes_of_name}
use Rattle.arc_tool.proofs.EventTextComposes.{put_on, put_cut}
use Rattle.arc_tool.proofs.lines.put_events.Goals as goal

pub returns-in_err-put_event : goal.returns-in_err-put_event
returns-in_err-put_event g c =
    let p = err_from_is_err_and c.from_residual.result c.from_residual.ensures.1 in
    let i = c.loop-event.invariant in
    rw (p.1, p.2)
    (put_cut (map bytes_of_name c.args.classes.now) c.args.begun c.loop-event.line_is_open c.args.events.now c.loop-event.event-index _ (omega arith) i.0 i.2 _ _ _ _ _ _ _ i.1 _ c.in_err-put_event.ensures)

pub loop-event-preserved : goal.loop-event-preserved
loop-event-preserved g c =
    let i = c.loop-event.invariant in
    rw c.leaves_open-line_is_open.ensures
    (put_on (map bytes_of_name c.args.classes.now) c.args.begun c.loop-event.line_is_open c.args.events.now c.loop-event.event-index _ (omega arith) i.0 i.2 _ _ _ _ _ _ (Unit {0}) i.1 c.in_ok-put_event.ensures)
