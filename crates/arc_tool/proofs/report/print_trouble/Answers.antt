use Rattle.std.proofs.Common.{[], ◌∷◌, ◌++◌, codes}
use Rattle.std.proofs.lemmas.Result.{err_from_is_err_and}
use Rattle.arc_code.proofs.WritesCompose.{wider, then_ok, then_failed, then_written}
use Rattle.arc_tool.specs.Status.{report}
use Rattle.arc_tool.proofs.report.print_trouble.Goals as goal

pub returns-in_err-put : goal.returns-in_err-put
returns-in_err-put g c =
    let p = err_from_is_err_and c.from_residual.result c.from_residual.ensures.1 in
    let message = (report c.args.trouble.now).1 in
    rw (p.1, p.2) (wider _ _ _ _ _ _ (codes "arcc: " ++ message) (10 ∷ []) (wider _ _ _ _ _ _ (codes "arcc: ") message c.in_err-put.ensures))

pub returns-in_err-put_message : goal.returns-in_err-put_message
returns-in_err-put_message g c =
    let p = err_from_is_err_and c.from_residual-in_err-put_message.result c.from_residual-in_err-put_message.ensures.1 in
    let message = (report c.args.trouble.now).1 in
    let done = then_failed _ _ _ _ _ _ _ _ (codes "arcc: ") message c.in_ok-put.ensures c.in_err-put_message.ensures in
    rw (p.1, p.2) (wider _ _ _ _ _ _ (codes "arcc: " ++ message) (10 ∷ []) done)

pub returns : goal.returns
returns g c =
    let message = (report c.args.trouble.now).1 in
    let one = then_ok _ _ _ _ _ _ (Unit {0}) (codes "arcc: ") message c.in_ok-put.ensures c.in_ok-put_message.ensures in
    then_written _ _ _ _ _ _ _ _ (codes "arcc: " ++ message) (10 ∷ []) one c.put-2.ensures
