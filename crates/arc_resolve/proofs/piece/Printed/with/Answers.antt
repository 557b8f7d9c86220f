use Rattle.std.proofs.Common.{◌∷◌, [], refl, ap, ◌∙◌}
use Rattle.arc_spec.specs.Resolved as resolved
use Rattle.arc_checked.specs.Checked as checked
use Rattle.arc_scope.specs.Formats.{printed}
use Rattle.arc_resolve.proofs.FormatPieces.{pieces-append, adds_plain, adds_piece, put_bytes-decimal, put_bytes-character}
use Rattle.arc_resolve.proofs.piece.Printed.with.Goals as goal
use Rattle.arc_resolve.proofs.piece.Printed.with.Goals.{in-Decimal, in-Character}

pub returns-in-Plain : goal.returns-in-Plain
returns-in-Plain c = λ others. adds_plain (checked.pieces c.args.self.pieces.items) c.args.self.run.items c.push.new.self.items c.in-Plain.byte c.args.part others c.in-Plain.is c.in_ok-push-in-Plain.ensures.items

pub returns : goal.returns
returns c = λ others.
    let old = checked.pieces c.args.self.pieces.items in
    let mid = checked.pieces c.in_ok-pieces.field-0.pieces.items in
    let new = checked.pieces c.push-2.new.self.items in
    let run = c.args.self.run.items in
    let rest = printed others in
    let pushed = ap checked.pieces c.in_ok-push.ensures.items ∙ pieces-append c.in_ok-pieces.field-0.pieces.items (c.match-part.piece ∷ []) in
    elim c.match-part.branch [
      | in-Decimal w ↦ rw w.in-Decimal.is (adds_piece old mid new run c.in_ok-pieces.field-0.run.items resolved.Decimal rest c.in_ok-pieces.ensures.pieces (pushed ∙ rw w.piece-is refl) c.in_ok-pieces.ensures.run (put_bytes-decimal run rest))
      | in-Character w ↦ rw w.in-Character.is (adds_piece old mid new run c.in_ok-pieces.field-0.run.items resolved.Character rest c.in_ok-pieces.ensures.pieces (pushed ∙ rw w.piece-is refl) c.in_ok-pieces.ensures.run (put_bytes-character run rest))
    ]
