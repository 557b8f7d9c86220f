use Rattle.std.proofs.Common.{◌++◌, codes, decimal}
use Rattle.std.proofs.lemmas.Result.{err_from_is_err_and}
use Rattle.arc_code.proofs.WritesCompose.{wider, then_ok, then_failed, then_written}
use Rattle.arc_tool.specs.Status.{named}
use Rattle.arc_tool.proofs.report.put_refusal.Goals as goal

pub returns-in_err-put_named : goal.returns-in_err-put_named
returns-in_err-put_named g c =
    let p = err_from_is_err_and c.from_residual.result c.from_residual.ensures.1 in
    let r = c.args.refusal.now in
    let a = named (codes "refused ") r.number c.as_bytes-name.result.now in
    rw (p.1, p.2, ← c.as_bytes-name.ensures.value) (wider _ _ _ _ _ _ (a ++ codes " at ") (decimal r.at) (wider _ _ _ _ _ _ a (codes " at ") c.in_err-put_named.ensures))

pub returns-in_err-put : goal.returns-in_err-put
returns-in_err-put g c =
    let p = err_from_is_err_and c.from_residual-in_err-put.result c.from_residual-in_err-put.ensures.1 in
    let r = c.args.refusal.now in
    let a = named (codes "refused ") r.number c.as_bytes-name.result.now in
    let done = then_failed _ _ _ _ _ _ _ _ a (codes " at ") c.in_ok-put_named.ensures c.in_err-put.ensures in
    rw (p.1, p.2, ← c.as_bytes-name.ensures.value) (wider _ _ _ _ _ _ (a ++ codes " at ") (decimal r.at) done)

pub returns : goal.returns
returns g c =
    let r = c.args.refusal.now in
    let a = named (codes "refused ") r.number c.as_bytes-name.result.now in
    let one = then_ok _ _ _ _ _ _ (Unit {0}) a (codes " at ") c.in_ok-put_named.ensures c.in_ok-put.ensures in
    rw (← c.as_bytes-name.ensures.value) (then_written _ _ _ _ _ _ _ _ (a ++ codes " at ") (decimal r.at) one c.put_number.ensures)
