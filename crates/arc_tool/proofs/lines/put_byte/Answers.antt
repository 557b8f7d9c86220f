use Rattle.std.proofs.lemmas.Result.{err_from_is_err_and}
use Rattle.arc_code.proofs.WritesCompose.{wider, then_written}
use Rattle.arc_tool.specs.TraceLines.{two_digits}
use Rattle.arc_tool.proofs.lines.put_byte.Goals as goal

pub returns-in_err-put : goal.returns-in_err-put
returns-in_err-put g c =
    let p = err_from_is_err_and c.from_residual.result c.from_residual.ensures.1 in
    rw (p.1, p.2, ← c.opening.ensures) (wider _ _ _ _ _ _ c.opening.result.now (two_digits c.args.byte) c.in_err-put.ensures)

pub returns : goal.returns
returns g c = rw (← c.opening.ensures) (then_written _ _ _ _ _ _ _ _ c.opening.result.now (two_digits c.args.byte) c.in_ok-put.ensures c.put_digits.ensures)
