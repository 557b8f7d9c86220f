use Rattle.std.proofs.Common.{◌≡◌, refl, ap, ◌∙◌, if◌then◌else◌}
use Rattle.arc_judge.specs.private.ExpressionJudgements.{counted}
use Rattle.arc_judge.specs.Rules.{place_if}
use Rattle.arc_judge.proofs.judge.taken_by_left.Goals as goal
use Rattle.arc_judge.proofs.judge.taken_by_left.Goals.{then-is_assignable, else-is_assignable}

pub returns : goal.returns
returns c =
    let read : c.if-is_assignable.read ≡ (if c.args.is_assignable then c.args.judged.unread else c.args.judged.taken) = elim c.if-is_assignable.branch [
      | then-is_assignable w ↦ rw (w.read-is, w.if-is_assignable.true) refl
      | else-is_assignable w ↦ rw (w.read-is, w.if-is_assignable.false) refl
    ] in
    c.one_if.ensures ∙ ap (λ t. counted t (place_if c.is_object.result c.args.sign)) read
    ∙ ap (λ b. counted (if c.args.is_assignable then c.args.judged.unread else c.args.judged.taken) (place_if b c.args.sign)) c.is_object.ensures
