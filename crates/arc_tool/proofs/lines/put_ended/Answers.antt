use Rattle.std.proofs.Common.{codes, rules}
use Rattle.std.proofs.lemmas.Result.{err_from_is_err_and}
use Rattle.std.specs.Fmt.{signed_decimal}
use Rattle.arc_code.specs.Attempts.{HasFailedToWrite}
use Rattle.arc_code.specs.CountedDevices.{failures_of, inner_of, held_by}
use Rattle.arc_code.specs.WrittenBytes.{Written}
use Rattle.arc_code.proofs.WritesCompose.{wider, then_written}
use Rattle.arc_tool.proofs.lines.put_ended.Goals as goal

pub returns-in_err-put : goal.returns-in_err-put
returns-in_err-put g c =
    let p = err_from_is_err_and c.from_residual.result c.from_residual.ensures.1 in
    rw (p.1, p.2) (wider _ _ _ _ _ _ (codes "end ") (signed_decimal c.args.number) c.in_err-put.ensures)

pub returns : goal.returns
returns g c =
    let number : Written c.put-2.result (signed_decimal c.args.number) (held_by g.W.Output.contents c.put.new.writer) (held_by g.W.Output.contents c.put-2.new.writer) (failures_of c.put.new.writer) (failures_of c.put-2.new.writer) (HasFailedToWrite g.W.Output.writes g.W.Output.flushes (inner_of c.put-2.new.writer)) =
    search rules in
    then_written _ _ _ _ _ _ _ _ (codes "end ") (signed_decimal c.args.number) c.in_ok-put.ensures number
