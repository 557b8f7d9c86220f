use Rattle.std.proofs.Common.{◌≡◌, ◌+◌, ◌++◌, drop, refl, sym, ap, inl, inr, ◌∙◌}
use Rattle.std.proofs.Common.{arith}
use Rattle.std.proofs.lemmas.Grind.{common_steps}
use Rattle.std.proofs.lemmas.Result.{on_ok_weaker}
use Rattle.arc_ast.specs.Tree.{expr_tree, expr_trees}
use Rattle.arc_sites.specs.Sites as sites
use Rattle.arc_sites.specs.Sites.{Value, site, arguments}
use Rattle.arc_sites.specs.FoundViolations.{enclosing_of, found_from}
use Rattle.arc_ast.proofs.Trees.{call_tree, send_tree, send_super_tree}
use Rattle.arc_sites.proofs.FoundIsFirst.{found_both, found_both_as, found_three, turn}
use Rattle.arc_sites.proofs.walk.+expressions.Goals as goal

pub expression-returns-clause-found : goal.expression-returns-clause-found
expression-returns-clause-found g t c =
    let m = enclosing_of c.args.enclosing in
    let a = expr_tree c.args.expr.now in
    on_ok_weaker c.visit.result (found_both _ _ _ _ _ (sites.inside m a) (site m (Value a)) c.in_ok-inside.ensures.same c.in_ok-inside.ensures.found) c.visit.ensures.found

pub inside-returns-in_ok-expression-in-Binary-clause-found : goal.inside-returns-in_ok-expression-in-Binary-clause-found
inside-returns-in_ok-expression-in-Binary-clause-found g t c =
    let m = enclosing_of c.args.enclosing in
    let a = sites.sites m (expr_tree c.in-Binary.left.value) in
    let b = sites.sites m (expr_tree c.in-Binary.right.value) in
    let both : sites.inside m (expr_tree c.args.expr.now) ≡ a ++ b = elim c.in-Binary.is [
      | inl w ↦ ap (λ e. sites.inside m (expr_tree e)) w.2
      | inr w ↦ elim w [ inl v ↦ ap (λ e. sites.inside m (expr_tree e)) v.2 | inr v ↦ ap (λ e. sites.inside m (expr_tree e)) v.4 ]
    ] in
    on_ok_weaker c.expression-in-Binary-2.result (found_both_as _ _ _ _ _ a b (sites.inside m (expr_tree c.args.expr.now)) both c.in_ok-expression-in-Binary.ensures.same
    (rw c.deref-in-Binary.ensures at c.in_ok-expression-in-Binary.ensures.found)) (rw c.deref-in-Binary-2.ensures at c.expression-in-Binary-2.ensures.found)

pub inside-returns-in_ok-expression-in-Conditional-2-clause-found : goal.inside-returns-in_ok-expression-in-Conditional-2-clause-found
inside-returns-in_ok-expression-in-Conditional-2-clause-found g t c =
    let m = enclosing_of c.args.enclosing in
    let test = sites.sites m (expr_tree c.in-Conditional.test.value) in
    let one = sites.sites m (expr_tree c.in-Conditional.first.value) in
    let other = sites.sites m (expr_tree c.in-Conditional.second.value) in
    rw c.in-Conditional.is (on_ok_weaker c.expression-in-Conditional-2.result (found_three _ _ _ _ _ _ _ test one other c.in_ok-expression-in-Conditional.ensures.same c.in_ok-expression-in-Conditional-2.ensures.same
    (rw c.deref.ensures at c.in_ok-expression-in-Conditional.ensures.found) (rw c.deref-in-Conditional.ensures at c.in_ok-expression-in-Conditional-2.ensures.found)) (rw c.deref-in-Conditional-2.ensures at c.expression-in-Conditional-2.ensures.found))

pub arguments-loop-argument-preserved : goal.arguments-loop-argument-preserved
arguments-loop-argument-preserved g t c =
    let m = enclosing_of c.args.enclosing in
    let a = c.argument-item.result in
    let rest = drop (c.loop-argument.argument-index + 1) c.args.all.now in (
      c.in_ok-expression.ensures.same ∙ c.loop-argument.invariant.0,
      turn (g.V.Visitor.violations c.args.visitor.now) _ (λ xs. arguments m (expr_trees xs)) (sites.sites m (expr_tree a)) (arguments m (expr_trees rest))
          c.args.all.now c.loop-argument.argument-index a _ _ _ refl c.loop-argument.invariant.0 c.loop-argument-test.true c.argument-item.is c.in_ok-expression.ensures.found c.loop-argument.invariant.1,
    )

pub inside-returns-in-Call-clause-found : goal.inside-returns-in-Call-clause-found
inside-returns-in-Call-clause-found g t c =
    let m = enclosing_of c.args.enclosing in
    let all : sites.inside m (expr_tree c.args.expr.now) ≡ arguments m (expr_trees c.in-Call.all.items) = elim c.in-Call.is [
      | inl w ↦ ap (sites.inside m) (ap expr_tree w.2 ∙ call_tree w.0 w.1 c.in-Call.all)
      | inr w ↦ ap (sites.inside m) (ap expr_tree w.4 ∙ send_super_tree w.0 w.1 w.2 w.3 c.in-Call.all)
    ] in
    on_ok_weaker c.arguments-in-Call.result (λ e. e
    ∙ ap (found_from (g.V.Visitor.violations c.args.visitor.now) (g.V.Visitor.found c.args.visitor.now)) (sym all)) (rw c.deref-in-Call.ensures.value at c.arguments-in-Call.ensures.found)

pub arguments-returns-clause-found : goal.arguments-returns-clause-found
arguments-returns-clause-found g t c = grind (arith, common_steps)

pub inside-returns-in_ok-expression-in-Send-clause-found : goal.inside-returns-in_ok-expression-in-Send-clause-found
inside-returns-in_ok-expression-in-Send-clause-found g t c =
    let m = enclosing_of c.args.enclosing in
    on_ok_weaker c.arguments.result (λ e.
    found_both _ _ _ _ _ (sites.sites m (expr_tree c.in-Send.receiver.value)) (arguments m (expr_trees c.in-Send.all.items)) c.in_ok-expression-in-Send.ensures.same (rw c.deref-in-Send.ensures at c.in_ok-expression-in-Send.ensures.found) e
    ∙ ap (found_from (g.V.Visitor.violations c.args.visitor.now) (g.V.Visitor.found c.args.visitor.now)) (sym (ap (sites.inside m) (ap expr_tree c.in-Send.is
    ∙ send_tree c.in-Send.field-0 c.in-Send.field-1 c.in-Send.receiver c.in-Send.field-3 c.in-Send.all)))) (rw c.deref-in-Send-2.ensures.value at c.arguments.ensures.found)
