use Rattle.arc_cells.proofs.NewObjectBlock.{empty_cell, taken_cell, made_cell}
use Rattle.arc_cells.proofs.cell.make.Goals as goal

pub begin-requires : goal.begin-requires
begin-requires g c = (empty_cell c.args.fields, taken_cell _ _ _ c.args.fields c.in_ok-object.ensures.taken)

pub returns-clause-made : goal.returns-clause-made
returns-clause-made g c = (c.in_ok-object.ensures.fresh, made_cell _ _ _ c.args.fields c.in_ok-object.ensures.taken _ c.args.class c.args.number c.begin.ensures)
