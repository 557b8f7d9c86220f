use Rattle.std.proofs.Common.{◌≡◌, ◌+◌, ◌++◌, drop, option_map, refl, sym, ap, inl, inr, ◌∙◌}
use Rattle.std.proofs.Common.{arith}
use Rattle.std.proofs.lemmas.Grind.{common_steps}
use Rattle.std.proofs.lemmas.Result.{on_ok_weaker}
use Rattle.arc_ast.specs.Tree.{expr_tree, stmt_tree, stmt_trees}
use Rattle.arc_sites.specs.Sites as sites
use Rattle.arc_sites.specs.Sites.{maybe_sites, stmt_sites, all_sites}
use Rattle.arc_sites.specs.FoundViolations.{enclosing_of, found_from}
use Rattle.arc_ast.proofs.Trees.{block_tree}
use Rattle.arc_sites.proofs.FoundIsFirst.{found_both_as, found_three, found_three_as, turn}
use Rattle.arc_sites.proofs.walk.+statements.Goals as goal

pub within-returns-in_ok-expression-in-If-clause-found : goal.within-returns-in_ok-expression-in-If-clause-found
within-returns-in_ok-expression-in-If-clause-found g t c =
    let m = enclosing_of c.args.enclosing in
    let test = sites.sites m (expr_tree c.in-If.test) in
    let body = stmt_sites m (stmt_tree c.in-If.body.value) in
    let both : sites.within m (stmt_tree c.args.stmt.now) ≡ test ++ body = elim c.in-If.is [
      | inl w ↦ ap (λ s. sites.within m (stmt_tree s)) w.1
      | inr w ↦ ap (λ s. sites.within m (stmt_tree s)) w.2
    ] in
    on_ok_weaker c.statement-in-If.result (λ e.
    found_both_as _ _ _ _ _ test body (sites.within m (stmt_tree c.args.stmt.now)) both c.in_ok-expression-in-If.ensures.same c.in_ok-expression-in-If.ensures.found e) (rw c.deref-in-If.ensures at c.statement-in-If.ensures.found)

pub within-returns-in_ok-maybe-in-For-2-clause-found : goal.within-returns-in_ok-maybe-in-For-2-clause-found
within-returns-in_ok-maybe-in-For-2-clause-found g t c =
    let m = enclosing_of c.args.enclosing in
    let beginning = stmt_sites m (stmt_tree c.in-For.beginning.value) in
    let test = maybe_sites m (option_map expr_tree c.in-For.test) in
    let step = maybe_sites m (option_map expr_tree c.in-For.step) in
    let body = stmt_sites m (stmt_tree c.in-For.body.value) in
    let all : sites.within m (stmt_tree c.args.stmt.now) ≡ beginning ++ (test ++ (step ++ body)) = ap (λ s. sites.within m (stmt_tree s)) c.in-For.is in
    on_ok_weaker c.statement-in-For-2.result (λ e.
    found_both_as _ _ _ _ _ beginning (test ++ (step ++ body)) (sites.within m (stmt_tree c.args.stmt.now)) all c.in_ok-statement-in-For.ensures.same (rw c.deref-in-For.ensures at c.in_ok-statement-in-For.ensures.found)
    (found_three _ _ _ _ _ _ _ test step body c.in_ok-maybe-in-For.ensures.same c.in_ok-maybe-in-For-2.ensures.same c.in_ok-maybe-in-For.ensures.found c.in_ok-maybe-in-For-2.ensures.found e)) (rw c.deref-in-For-2.ensures at c.statement-in-For-2.ensures.found)

pub within-returns-in_ok-statement-in-IfElse-clause-found : goal.within-returns-in_ok-statement-in-IfElse-clause-found
within-returns-in_ok-statement-in-IfElse-clause-found g t c =
    let m = enclosing_of c.args.enclosing in
    let test = sites.sites m (expr_tree c.in-IfElse.test) in
    let then = stmt_sites m (stmt_tree c.in-IfElse.then.value) in
    let other = stmt_sites m (stmt_tree c.in-IfElse.other.value) in
    let all : sites.within m (stmt_tree c.args.stmt.now) ≡ test ++ (then ++ other) = ap (λ s. sites.within m (stmt_tree s)) c.in-IfElse.is in
    on_ok_weaker c.statement-in-IfElse.result (λ e.
    found_three_as _ _ _ _ _ _ _ test then other (sites.within m (stmt_tree c.args.stmt.now)) all c.in_ok-expression-in-IfElse.ensures.same c.in_ok-statement-in-IfElse.ensures.same c.in_ok-expression-in-IfElse.ensures.found
    (rw c.deref-in-IfElse.ensures at c.in_ok-statement-in-IfElse.ensures.found) e) (rw c.deref-in-IfElse-2.ensures at c.statement-in-IfElse.ensures.found)

pub statements-loop-stmt-preserved : goal.statements-loop-stmt-preserved
statements-loop-stmt-preserved g t c =
    let m = enclosing_of c.args.enclosing in
    let a = c.stmt-item.result in
    let rest = drop (c.loop-stmt.stmt-index + 1) c.args.all.now in (
      c.in_ok-statement.ensures.same ∙ c.loop-stmt.invariant.0,
      turn (g.V.Visitor.violations c.args.visitor.now) _ (λ xs. all_sites m (stmt_trees xs)) (stmt_sites m (stmt_tree a)) (all_sites m (stmt_trees rest))
          c.args.all.now c.loop-stmt.stmt-index a _ _ _ refl c.loop-stmt.invariant.0 c.loop-stmt-test.true c.stmt-item.is c.in_ok-statement.ensures.found c.loop-stmt.invariant.1,
    )

pub statements-returns-clause-found : goal.statements-returns-clause-found
statements-returns-clause-found g t c = grind (arith, common_steps)

pub within-returns-in-Block-clause-found : goal.within-returns-in-Block-clause-found
within-returns-in-Block-clause-found g t c =
    let m = enclosing_of c.args.enclosing in
    on_ok_weaker c.statements.result (λ e. e
    ∙ ap (found_from (g.V.Visitor.violations c.args.visitor.now) (g.V.Visitor.found c.args.visitor.now)) (ap (λ us. all_sites m (stmt_trees us)) c.deref.ensures.value
    ∙ sym (ap (sites.within m) (ap stmt_tree c.in-Block.is ∙ block_tree c.in-Block.field-0 c.in-Block.all)))) c.statements.ensures.found
