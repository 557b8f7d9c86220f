use Rattle.std.proofs.Common.{codes}
use Rattle.std.proofs.lemmas.Result.{err_from_is_err_and}
use Rattle.arc_code.proofs.WritesCompose.{wider, then_written}
use Rattle.arc_tool.specs.TraceLines.{left_text}
use Rattle.arc_tool.proofs.lines.put_last_line.Goals as goal

pub returns-in_err-put_left : goal.returns-in_err-put_left
returns-in_err-put_left g c =
    let p = err_from_is_err_and c.from_residual.result c.from_residual.ensures.1 in
    rw (p.1, p.2) (wider _ _ _ _ _ _ (left_text c.args.left) (codes "\n") c.in_err-put_left.ensures)

pub returns : goal.returns
returns g c = (then_written _ _ _ _ _ _ _ _ (left_text c.args.left) (codes "\n") c.in_ok-put_left.ensures c.put.ensures)
