use Rattle.std.proofs.lemmas.Result.{err_from_is_err_and}
use Rattle.arc_ast.specs.Tree.{unit_tree}
use Rattle.arc_tool.specs.RefusalStages.{in_building}
use Rattle.arc_tool.proofs.accept.accept_tree.Goals as goal

pub returns-in_err-table-clause-refused : goal.returns-in_err-table-clause-refused
returns-in_err-table-clause-refused c =
    let p = err_from_is_err_and c.from_residual.result c.from_residual.ensures.1 in
    rw p.1 (λ source s. in_building c.in_err-table.field-0.0 (unit_tree c.args.unit.now) s c.in_err-table.ensures.refused p.2)
