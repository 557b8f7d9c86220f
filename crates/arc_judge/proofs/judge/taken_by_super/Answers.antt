use Rattle.std.proofs.Common.{is_some, sym, ap, ◌∙◌}
use Rattle.arc_judge.specs.private.ExpressionJudgements.{counted}
use Rattle.arc_judge.specs.Rules.{place_if}
use Rattle.arc_scope.specs.Scopes.{own_class}
use Rattle.arc_scope.specs.Views.{seen}
use Rattle.arc_judge.proofs.ExpressionViolations.{is_some-class}
use Rattle.arc_judge.proofs.judge.taken_by_super.Goals as goal

pub returns : goal.returns
returns c = λ table.
    let own = is_some (own_class (seen table c.args.visible.now)) in
    c.one_if.ensures ∙ ap (λ t. counted t (place_if c.is_object.result c.args.part)) c.one_if-read.ensures
    ∙ ap (λ b. counted (counted c.args.before (place_if b c.args.super_at)) (place_if c.is_object.result c.args.part)) (c.is_some.ensures ∙ sym (is_some-class c.own_class.result) ∙ ap is_some (c.own_class.ensures table))
    ∙ ap (λ b. counted (counted c.args.before (place_if own c.args.super_at)) (place_if b c.args.part)) c.is_object.ensures
