use Rattle.std.proofs.Common.{◌≡◌, ◌<◌, length, drop, ap, ◌∙◌}
use Rattle.arc_checked.specs.Checked as checked
use Rattle.arc_scope.specs.declared.format.Begun.TheVariants.{Nothing}
use Rattle.arc_scope.specs.Formats.{parts, printed}
use Rattle.arc_resolve.specs.private.PlainByteRuns.{whole}
use Rattle.arc_resolve.proofs.FormatReading.{goes_on, gives_on, parts_end}
use Rattle.arc_resolve.proofs.FormatPieces.{all_printed}
use Rattle.arc_resolve.proofs.piece.pieces.Goals as goal
use Rattle.arc_resolve.proofs.piece.pieces.Goals.{in-Goes, in-Gives+in_ok-all-in-Gives}

pub returns : goal.returns
returns c =
    let all = c.loop-byte.all in
    let format = c.args.format.now in
    let is : printed (parts Nothing format) ≡ whole all (printed (parts c.loop-byte.begun (drop c.loop-byte.byte-index format))) = c.loop-byte.invariant in
    all_printed (checked.pieces all.pieces.items) (checked.pieces c.in_ok-end_run.field-0.pieces.items) all.run.items c.loop-byte.begun (printed (parts Nothing format)) c.in_ok-end_run.ensures.pieces
    (is ∙ ap (λ us. whole all (printed us)) (parts_end c.loop-byte.begun format c.loop-byte.byte-index c.loop-byte-test.false))

pub loop-byte-preserved : goal.loop-byte-preserved
loop-byte-preserved c =
    let all = c.loop-byte.all in
    let format = c.args.format.now in
    let i = c.loop-byte.byte-index in
    let l : i < length format = c.loop-byte-test.true in
    let is : printed (parts Nothing format) ≡ whole all (printed (parts c.loop-byte.begun (drop i format))) = c.loop-byte.invariant in
    elim c.match-read.branch [
      | in-Goes w ↦ goes_on all c.match-read.all c.loop-byte.begun w.in-Goes.next c.match-read.begun format i (printed (parts Nothing format)) l w.in-Goes.ensures w.begun-is w.all-is is
      | in-Gives+in_ok-all-in-Gives w ↦ gives_on all w.in_ok-all-in-Gives.all c.match-read.all c.loop-byte.begun c.match-read.begun w.in-Gives.part format i (printed (parts Nothing format)) l w.in-Gives.ensures w.begun-is w.all-is w.in_ok-all-in-Gives.ensures is
    ]
