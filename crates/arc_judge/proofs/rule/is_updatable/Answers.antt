use Rattle.std.proofs.Common.{◌≡◌, Bool, true, false, ◌&&◌, not, is_none, sym, ap, ◌∙◌}
use Rattle.arc_ast.specs.Tree.{expr_tree}
use Rattle.arc_judge.specs.Rules.{is_assignable}
use Rattle.arc_scope.specs.Scopes.{itself_in}
use Rattle.arc_scope.specs.Views.{seen}
use Rattle.arc_judge.proofs.ExpressionViolations.{is_none-class}
use Rattle.arc_judge.proofs.rule.is_updatable.Goals.{then-is_assignable, else-is_assignable}
use Rattle.arc_judge.proofs.rule.is_updatable.Goals as goal

and_true : (a b value : Bool) → a ≡ true → value ≡ b → value ≡ (a && b)
and_true a b value e v = v ∙ sym (ap (λ c. c && b) e)

and_false : (a b value : Bool) → a ≡ false → value ≡ false → value ≡ (a && b)
and_false a b value e v = v ∙ sym (ap (λ c. c && b) e)

pub returns-then-is_none : goal.returns-then-is_none
returns-then-is_none c = λ table.
    let a = expr_tree c.args.expr.now in
    let both : c.if-is_assignable.value ≡ (is_assignable a && is_none (itself_in (seen table c.args.visible.now) a)) = elim c.if-is_assignable.branch [
      | then-is_assignable w ↦ and_true _ _ _ (sym c.is_assignable.ensures ∙ w.if-is_assignable.true) (w.value-is ∙ is_none-class w.itself_in.result _ w.is_none.ensures ∙ ap is_none (w.itself_in.ensures table))
      | else-is_assignable w ↦ and_false _ _ _ (sym c.is_assignable.ensures ∙ w.if-is_assignable.false) (w.value-is ∙ w.if-is_assignable.false)
    ] in
    and_true _ _ _ (sym both ∙ c.if-is_none.true) (ap not c.is_object.ensures)

pub returns-else-is_none : goal.returns-else-is_none
returns-else-is_none c = λ table.
    let a = expr_tree c.args.expr.now in
    let both : c.if-is_assignable.value ≡ (is_assignable a && is_none (itself_in (seen table c.args.visible.now) a)) = elim c.if-is_assignable.branch [
      | then-is_assignable w ↦ and_true _ _ _ (sym c.is_assignable.ensures ∙ w.if-is_assignable.true) (w.value-is ∙ is_none-class w.itself_in.result _ w.is_none.ensures ∙ ap is_none (w.itself_in.ensures table))
      | else-is_assignable w ↦ and_false _ _ _ (sym c.is_assignable.ensures ∙ w.if-is_assignable.false) (w.value-is ∙ w.if-is_assignable.false)
    ] in
    and_false _ _ _ (sym both ∙ c.if-is_none.false) c.if-is_none.false
