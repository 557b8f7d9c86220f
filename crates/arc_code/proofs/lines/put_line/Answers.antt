use Rattle.arc_code.proofs.WritesCompose.{answered, first_failed, second_failed, third_failed, then_ok, then_failed, then_written}
use Rattle.arc_code.proofs.lines.put_line.Goals as goal

pub returns-in_err-put_number : goal.returns-in_err-put_number
returns-in_err-put_number g c = answered _ _ _ _ _ _ _ _ c.from_residual.ensures.1 (first_failed _ _ _ _ _ _ _ _ _ _ c.in_err-put_number.ensures)

pub returns-in_err-put_word : goal.returns-in_err-put_word
returns-in_err-put_word g c =
    let name = rw (c.as_bytes.ensures.value, c.parts-operands.ensures.name) at c.in_err-put_word.ensures in
    answered _ _ _ _ _ _ _ _ c.from_residual-in_err-put_word.ensures.1 (search (second_failed, then_failed, c.in_ok-put_number.ensures, name))

pub returns-in_err-put_operands : goal.returns-in_err-put_operands
returns-in_err-put_operands g c =
    let name = rw (c.as_bytes.ensures.value, c.parts-operands.ensures.name) at c.in_ok-put_word.ensures in
    let operands = rw c.parts-operands.ensures.operands at c.in_err-put_operands.ensures in
    let two = then_ok _ _ _ _ _ _ (Unit {0}) _ _ c.in_ok-put_number.ensures name in
    answered _ _ _ _ _ _ _ _ c.from_residual-in_err-put_operands.ensures.1 (search (third_failed, then_failed _ _ _ _ _ _ _ _ _ _ two operands))

pub returns : goal.returns
returns g c =
    let name = rw (c.as_bytes.ensures.value, c.parts-operands.ensures.name) at c.in_ok-put_word.ensures in
    let operands = rw c.parts-operands.ensures.operands at c.in_ok-put_operands.ensures in
    let three = then_ok _ _ _ _ _ _ (Unit {0}) _ _ (then_ok _ _ _ _ _ _ (Unit {0}) _ _ c.in_ok-put_number.ensures name) operands in
    then_written _ _ _ _ _ _ _ _ _ _ three c.put.ensures
