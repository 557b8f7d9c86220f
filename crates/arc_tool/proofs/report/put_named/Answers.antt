use Rattle.std.proofs.Common.{[], ◌∷◌, ◌++◌, decimal}
use Rattle.std.proofs.lemmas.Result.{err_from_is_err_and}
use Rattle.arc_code.proofs.WritesCompose.{first_failed, second_failed, third_failed, then_ok, then_failed, then_written}
use Rattle.arc_tool.proofs.report.put_named.Goals as goal

pub returns-in_err-put : goal.returns-in_err-put
returns-in_err-put g c =
    let p = err_from_is_err_and c.from_residual.result c.from_residual.ensures.1 in
    rw (p.1, p.2) (first_failed _ _ _ _ _ _ c.args.kind.now (decimal c.args.number) (32 ∷ []) c.args.name.now c.in_err-put.ensures)

pub returns-in_err-put_number : goal.returns-in_err-put_number
returns-in_err-put_number g c =
    let p = err_from_is_err_and c.from_residual-in_err-put_number.result c.from_residual-in_err-put_number.ensures.1 in
    let kind = c.args.kind.now in
    let number = decimal c.args.number in
    let done = then_failed _ _ _ _ _ _ _ _ kind number c.in_ok-put.ensures c.in_err-put_number.ensures in
    rw (p.1, p.2) (second_failed _ _ _ _ _ _ kind number (32 ∷ []) c.args.name.now done)

pub returns-in_err-put-2 : goal.returns-in_err-put-2
returns-in_err-put-2 g c =
    let p = err_from_is_err_and c.from_residual-in_err-put-2.result c.from_residual-in_err-put-2.ensures.1 in
    let kind = c.args.kind.now in
    let number = decimal c.args.number in
    let one = then_ok _ _ _ _ _ _ (Unit {0}) kind number c.in_ok-put.ensures c.in_ok-put_number.ensures in
    let done = then_failed _ _ _ _ _ _ _ _ (kind ++ number) (32 ∷ []) one c.in_err-put-2.ensures in
    rw (p.1, p.2) (third_failed _ _ _ _ _ _ kind number (32 ∷ []) c.args.name.now done)

pub returns : goal.returns
returns g c =
    let kind = c.args.kind.now in
    let number = decimal c.args.number in
    let one = then_ok _ _ _ _ _ _ (Unit {0}) kind number c.in_ok-put.ensures c.in_ok-put_number.ensures in
    let two = then_ok _ _ _ _ _ _ (Unit {0}) (kind ++ number) (32 ∷ []) one c.in_ok-put-2.ensures in
    then_written _ _ _ _ _ _ _ _ ((kind ++ number) ++ 32 ∷ []) c.args.name.now two c.put-3.ensures
