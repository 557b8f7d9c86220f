use Rattle.std.proofs.Common.{◌-◌}
use Rattle.arc_cells.specs.Cells.{Cell, IsCell, with_count}
use Rattle.arc_cells.proofs.BlockChanges.{alters_by, becomes_twice}
use Rattle.arc_cells.proofs.objects.Objects.begin_end.Goals as goal

pub begin_end-requires : goal.begin_end-requires
begin_end-requires g c =
    let before = rw (← c.self.view_is) at c.requires.object in
    (with_count before.0 (before.0.count - 1), (c.release.ensures before.0 before.1).here)

pub returns : goal.returns
returns g c =
    let released = λ (x : Cell) (is : IsCell (g.S.Store.out c.self.inside.store) c.args.object x). c.release.ensures x is in
    let ends = λ (x : Cell) (is : IsCell (g.S.Store.out c.self.inside.store) c.args.object x). becomes_twice _ _ _ _ _ _ (released x is) (c.begin_end.ensures (with_count x (x.count - 1)) (released x is).here) in
    rw (← c.self.view_is) (alters_by _ _ _ _ c.requires.some ends)
