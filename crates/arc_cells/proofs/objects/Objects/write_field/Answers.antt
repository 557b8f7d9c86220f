use Rattle.std.proofs.Common.{◌≡◌, ℤ, rules, subst, sym, to_z, of_z, w64}
use Rattle.arc_cells.specs.Cells.{Cell, IsCell, Becomes, with_value}
use Rattle.arc_cells.proofs.BlockChanges.{alters_by}
use Rattle.arc_cells.proofs.objects.Objects.write_field.Goals as goal

pub returns : goal.returns
returns g c =
    let same : c.args.value ≡ to_z w64 (of_z w64 c.args.value) = search rules in
    let written = λ (x : Cell) (is : IsCell (g.S.Store.out c.self.inside.store) c.args.object x).
    subst (λ (v : ℤ). Becomes (g.S.Store.out c.self.inside.store) (g.S.Store.out c.write_field.new.store) c.args.object (with_value x c.args.index v)) (sym same) (c.write_field.ensures x is) in
    rw (← c.self.view_is) (alters_by _ _ _ (λ x. with_value x c.args.index c.args.value) c.requires.some written)
