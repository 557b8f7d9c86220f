use Rattle.std.proofs.Common.{codes}
use Rattle.std.proofs.lemmas.Result.{err_from_is_err_and}
use Rattle.arc_code.proofs.WritesCompose.{wider, then_written}
use Rattle.arc_tool.specs.Status.{named}
use Rattle.arc_tool.proofs.lines.put_dealloc.Goals as goal

pub returns-in_err-put_named : goal.returns-in_err-put_named
returns-in_err-put_named g c =
    let p = err_from_is_err_and c.from_residual.result c.from_residual.ensures.1 in
    rw (p.1, p.2, ← c.name_at.ensures) (wider _ _ _ _ _ _ (named (codes "dealloc ") c.args.object c.name_at.result.now) (codes "\n") c.in_err-put_named.ensures)

pub returns : goal.returns
returns g c = rw (← c.name_at.ensures) (then_written _ _ _ _ _ _ _ _ (named (codes "dealloc ") c.args.object c.name_at.result.now) (codes "\n") c.in_ok-put_named.ensures c.put.ensures)
