use Rattle.std.proofs.Common.{◌∷◌, ◌++◌, [], ◌<◌, length, ap, ◌∙◌, arith}
use Rattle.std.proofs.lemmas.Grind.{common_steps}
use Rattle.arc_checked.specs.Checked as checked
use Rattle.arc_checked.specs.declared.program.Piece.TheVariants as p
use Rattle.arc_resolve.proofs.FormatPieces.{pieces-append, run_is_piece}
use Rattle.arc_resolve.proofs.piece.Printed.end_run.Goals as goal

pub returns : goal.returns
returns c =
    let old = c.args.self.pieces.items in
    let run = c.args.self.run in
    let some : 0 < length run.items = grind (arith, common_steps) in
    record {
      run = c.new.ensures.items;
      pieces = ap checked.pieces c.in_ok-push.ensures.items ∙ pieces-append old (p.Bytes run ∷ []) ∙ ap (λ us. checked.pieces old ++ us) (run_is_piece run.items some);
    }
