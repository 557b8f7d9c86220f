use Rattle.std.proofs.Common.{◌≡◌, arith}
use Rattle.std.proofs.lemmas.Grind.{common_steps}
use Rattle.arc_cells.specs.Cells.{Cell, IsCell}
use Rattle.arc_steps.proofs.place.Place.begin_end.Goals as goal

pub returns-clause-begins : goal.returns-clause-begins
returns-clause-begins g c = λ (x : Cell) (is : IsCell (g.S.Store.out c.args.objects.now.store) c.args.object x).
    let number : c.number.result ≡ x.number = c.number.ensures x is in
    let class : c.class-class.result ≡ x.class = c.class-class.ensures x is in
    record {
      block = rw c.enter_end.ensures (c.begin_end.ensures.block c.requires.some x is);
      shown = cc;
      waits = grind (arith, common_steps);
    }
