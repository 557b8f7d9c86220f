use Rattle.std.proofs.Common.{◌≡◌, ◌++◌, true, false, length, option_map, subst, take, Option, IfOk, OnOk, refl, ap, ◌∙◌, arith}
use Rattle.std.proofs.lemmas.Grind.{common_steps}
use Rattle.arc_ast.specs.Tree.{stmt_tree, stmt_trees, expr_tree}
use Rattle.std.proofs.lemmas.Result.{on_ok_weaker}
use Rattle.arc_class.specs.BrokenRules.{Broken, first}
use Rattle.arc_class.proofs.FirstBrokenRule.{first_both}
use Rattle.arc_judge.specs.Fault.{reported}
use Rattle.arc_judge.specs.Rules.{broken_clauses, broken_test, broken_stmt}
use Rattle.arc_scope.specs.Scopes.{Scope, leave, scope_after}
use Rattle.arc_scope.specs.Views.{seen}
use Rattle.arc_scope.proofs.ScopeKept.{after_same, after_all_same, inner_same, leave_is}
use Rattle.arc_scope.proofs.VisibleVariables.{keeps_turn, keeps_same}
use Rattle.arc_judge.proofs.StatementViolations.{statements_turn, after_turn, block_is, block_after}
use Rattle.arc_judge.proofs.body.+statements.Goals as goal

pub block-returns-clause-scope : goal.block-returns-clause-scope
block-returns-clause-scope t c =
    let table = c.args.table.now in
    let old = c.args.visible.now in
    leave_is table old c.statements.new.visible c.leave.new.self _ (after_all_same (seen table old) (stmt_trees c.args.all.now)) c.in_ok-fault.ensures.scope
    (c.leave.ensures.bound ∙ ap (λ n. take n c.statements.new.visible.bound.items) (c.len-count.ensures ∙ old.bound.ok.0) ∙ c.in_ok-fault.ensures.keeps) (record { next = c.leave.ensures.next; names = c.leave.ensures.names; class = c.leave.ensures.class; sign = c.leave.ensures.sign; gives = c.leave.ensures.gives; owns = c.leave.ensures.owns; hidden = c.leave.ensures.hidden })

pub scoped-returns-clause-scope : goal.scoped-returns-clause-scope
scoped-returns-clause-scope t c =
    let table = c.args.table.now in
    let old = c.args.visible.now in
    let same = after_same (seen table old) (stmt_tree c.args.inner.now) in
    leave_is table old c.statement.new.visible c.leave.new.self _ same c.in_ok-fault.ensures.scope (c.leave.ensures.bound ∙ ap (λ n. take n c.statement.new.visible.bound.items) (c.len-count.ensures ∙ old.bound.ok.0) ∙ c.in_ok-fault.ensures.keeps) (record { next = c.leave.ensures.next; names = c.leave.ensures.names; class = c.leave.ensures.class; sign = c.leave.ensures.sign; gives = c.leave.ensures.gives; owns = c.leave.ensures.owns; hidden = c.leave.ensures.hidden })

pub statement-returns-in-Block-clause-fault : goal.statement-returns-in-Block-clause-fault
statement-returns-in-Block-clause-fault t c =
    let P : Option Broken → Type 0 = λ b. IfOk c.block.result (λ fault. option_map reported fault ≡ b) in
    subst P (block_is c.args.statement.now c.in-Block.field-0 c.in-Block.all c.deref.result.now c.in-Block.is c.deref.ensures.value c.args.in_loop (seen c.args.table.now c.args.visible.now)) c.block.ensures.fault

pub statement-returns-in-Block-clause-scope : goal.statement-returns-in-Block-clause-scope
statement-returns-in-Block-clause-scope t c =
    let P : Scope → Type 0 = λ s. OnOk c.block.result (seen c.args.table.now c.block.new.visible ≡ s) in
    subst P (block_after c.args.statement.now c.in-Block.field-0 c.in-Block.all c.deref.result.now c.in-Block.is c.deref.ensures.value (seen c.args.table.now c.args.visible.now)) c.block.ensures.scope

pub statement-returns-in_ok-inside-in-If-clause-fault : goal.statement-returns-in_ok-inside-in-If-clause-fault
statement-returns-in_ok-inside-in-If-clause-fault t c =
    let s = seen c.args.table.now c.args.visible.now in
    let A = broken_stmt c.args.in_loop s (stmt_tree c.in-If.then.value) in
    let inside : option_map reported c.in_ok-inside-in-If.inside ≡ first A = rw c.deref-in-If.ensures at c.in_ok-inside-in-If.ensures.fault in
    rw c.in-If.is (first_both (broken_test s (expr_tree c.in-If.test)) A (option_map reported c.test_fault-fault.result) (option_map reported c.in_ok-inside-in-If.inside) (option_map reported c.earlier.result) c.test_fault-fault.ensures inside c.earlier.ensures)

pub statement-returns-in_ok-second-in-IfElse-clause-fault : goal.statement-returns-in_ok-second-in-IfElse-clause-fault
statement-returns-in_ok-second-in-IfElse-clause-fault t c =
    let s = seen c.args.table.now c.args.visible.now in
    let then = stmt_tree c.in-IfElse.then.value in
    let mid = leave s (scope_after s then) in
    let A = broken_stmt c.args.in_loop s then in
    let B = broken_stmt c.args.in_loop mid (stmt_tree c.in-IfElse.other.value) in
    let one : option_map reported c.in_ok-first-in-IfElse.first ≡ first A = rw c.deref-in-IfElse.ensures at c.in_ok-first-in-IfElse.ensures.fault in
    let between : seen c.args.table.now c.scoped-in-IfElse.new.visible ≡ mid = rw c.deref-in-IfElse.ensures at c.in_ok-first-in-IfElse.ensures.scope in
    let two : option_map reported c.in_ok-second-in-IfElse.second ≡ first (broken_stmt c.args.in_loop (seen c.args.table.now c.scoped-in-IfElse.new.visible) (stmt_tree c.in-IfElse.other.value)) =
    rw c.deref-in-IfElse-2.ensures at c.in_ok-second-in-IfElse.ensures.fault in
    let other : option_map reported c.in_ok-second-in-IfElse.second ≡ first B = two ∙ ap (λ p. first (broken_stmt c.args.in_loop p (stmt_tree c.in-IfElse.other.value))) between in
    rw c.in-IfElse.is (first_both (broken_test s (expr_tree c.in-IfElse.test)) _ (option_map reported c.test_fault-fault-in-IfElse.result) (option_map reported c.earlier-in-IfElse.result) (option_map reported c.earlier-in-IfElse-2.result) c.test_fault-fault-in-IfElse.ensures
    (first_both A B (option_map reported c.in_ok-first-in-IfElse.first) (option_map reported c.in_ok-second-in-IfElse.second) (option_map reported c.earlier-in-IfElse.result) one other c.earlier-in-IfElse.ensures) c.earlier-in-IfElse-2.ensures)

pub statement-returns-in_ok-inside-in-While-clause-fault : goal.statement-returns-in_ok-inside-in-While-clause-fault
statement-returns-in_ok-inside-in-While-clause-fault t c =
    let s = seen c.args.table.now c.args.visible.now in
    let A = broken_stmt true s (stmt_tree c.in-While.body.value) in
    let inside : option_map reported c.in_ok-inside-in-While.inside ≡ first A = rw c.deref-in-While.ensures at c.in_ok-inside-in-While.ensures.fault in
    rw c.in-While.is (first_both (broken_test s (expr_tree c.in-While.test)) A (option_map reported c.test_fault-fault-in-While.result) (option_map reported c.in_ok-inside-in-While.inside) (option_map reported c.earlier-in-While.result) c.test_fault-fault-in-While.ensures inside c.earlier-in-While.ensures)

pub statement-returns-in-For-clause-fault : goal.statement-returns-in-For-clause-fault
statement-returns-in-For-clause-fault t c = rw c.in-For.is (rw (c.deref-in-For.ensures, c.deref-in-For-2.ensures) at c.stepped.ensures.fault)

pub statement-returns-in-For-clause-scope : goal.statement-returns-in-For-clause-scope
statement-returns-in-For-clause-scope t c = rw c.in-For.is (rw (c.deref-in-For.ensures, c.deref-in-For-2.ensures) at c.stepped.ensures.scope)

pub statement-returns-in-For-clause-keeps : goal.statement-returns-in-For-clause-keeps
statement-returns-in-For-clause-keeps t c = on_ok_weaker c.stepped.result (keeps_same c.args.visible.now.bound.items c.stepped.new.visible.bound.items) c.stepped.ensures.keeps

pub stepped-returns-clause-fault : goal.stepped-returns-clause-fault
stepped-returns-clause-fault t c =
    let s = seen c.args.table.now c.args.visible.now in
    let a = stmt_tree c.args.beginning.now in
    let b = stmt_tree c.args.body.now in
    let own = scope_after s a in
    let test = option_map expr_tree c.args.test.now in
    let step = option_map expr_tree c.args.step.now in
    let A = broken_stmt false s a in
    let C = broken_clauses own test step in
    let B = broken_stmt true own b in
    let clauses : option_map reported c.clauses-clauses.result ≡ first C = c.clauses-clauses.ensures ∙ ap (λ p. first (broken_clauses p test step)) c.in_ok-before.ensures.scope in
    let inside : option_map reported c.in_ok-inside.inside ≡ first B = c.in_ok-inside.ensures.fault ∙ ap (λ p. first (broken_stmt true p b)) c.in_ok-before.ensures.scope in
    first_both A (C ++ B) _ _ _ c.in_ok-before.ensures.fault (first_both C B _ _ _ clauses inside c.earlier.ensures) c.earlier-2.ensures

pub stepped-returns-clause-scope : goal.stepped-returns-clause-scope
stepped-returns-clause-scope t c =
    let table = c.args.table.now in
    let old = c.args.visible.now in
    let s = seen table old in
    let a = stmt_tree c.args.beginning.now in
    let b = stmt_tree c.args.body.now in
    let own = scope_after s a in
    leave_is table old c.scoped.new.visible c.leave.new.self (leave own (scope_after own b)) (inner_same s own (scope_after own b) (after_same s a))
    (c.in_ok-inside.ensures.scope ∙ ap (λ p. leave p (scope_after p b)) c.in_ok-before.ensures.scope)
    (c.leave.ensures.bound ∙ ap (λ n. take n c.scoped.new.visible.bound.items) (c.len-count.ensures ∙ old.bound.ok.0) ∙ ap (take (length old.bound.items)) c.in_ok-inside.ensures.keeps ∙ c.in_ok-before.ensures.keeps)
    (record { next = c.leave.ensures.next; names = c.leave.ensures.names; class = c.leave.ensures.class; sign = c.leave.ensures.sign; gives = c.leave.ensures.gives; owns = c.leave.ensures.owns; hidden = c.leave.ensures.hidden })

pub stepped-returns-clause-keeps : goal.stepped-returns-clause-keeps
stepped-returns-clause-keeps t c =
    let old = c.args.visible.now in
    c.leave.ensures.bound ∙ ap (λ n. take n c.scoped.new.visible.bound.items) (c.len-count.ensures ∙ old.bound.ok.0) ∙ ap (take (length old.bound.items)) c.in_ok-inside.ensures.keeps ∙ c.in_ok-before.ensures.keeps

pub statements-loop-one-preserved : goal.statements-loop-one-preserved
statements-loop-one-preserved t c =
    let table = c.args.table.now in
    let xs = c.args.all.now in
    let i = c.loop-one.one-index in
    let x = c.one-item.result in
    let s = seen table c.loop-one.visible in
    let new = seen table c.statement.new.visible in
    record {
      fault = statements_turn c.args.in_loop s new xs i x (option_map reported c.loop-one.fault) (option_map reported c.in_ok-statement.field-0) (option_map reported c.earlier-fault.result) _ c.loop-one-test.true c.one-item.is
          c.in_ok-statement.ensures.fault c.in_ok-statement.ensures.scope c.earlier-fault.ensures c.loop-one.invariant.fault;
      scope = after_turn s new _ xs i x c.loop-one-test.true c.one-item.is c.in_ok-statement.ensures.scope c.loop-one.invariant.scope;
      keeps = keeps_turn c.args.visible.now.bound.items c.loop-one.visible.bound.items c.statement.new.visible.bound.items c.loop-one.invariant.keeps c.in_ok-statement.ensures.keeps;
    }

pub block-returns-clause-keeps : goal.block-returns-clause-keeps
block-returns-clause-keeps t c = c.leave.ensures.bound ∙ ap (λ n. take n c.statements.new.visible.bound.items) (c.len-count.ensures ∙ c.args.visible.now.bound.ok.0) ∙ c.in_ok-fault.ensures.keeps

pub scoped-returns-clause-keeps : goal.scoped-returns-clause-keeps
scoped-returns-clause-keeps t c = c.leave.ensures.bound ∙ ap (λ n. take n c.statement.new.visible.bound.items) (c.len-count.ensures ∙ c.args.visible.now.bound.ok.0) ∙ c.in_ok-fault.ensures.keeps

pub statement-returns-in-Block-clause-keeps : goal.statement-returns-in-Block-clause-keeps
statement-returns-in-Block-clause-keeps t c = on_ok_weaker c.block.result (keeps_same c.args.visible.now.bound.items c.block.new.visible.bound.items) c.block.ensures.keeps

pub statement-returns-in-Empty-clause-keeps : goal.statement-returns-in-Empty-clause-keeps
statement-returns-in-Empty-clause-keeps t c = keeps_same c.args.visible.now.bound.items _ refl

pub statement-returns-in-Expr-clause-keeps : goal.statement-returns-in-Expr-clause-keeps
statement-returns-in-Expr-clause-keeps t c = keeps_same c.args.visible.now.bound.items _ refl

pub statement-returns-in-Return-clause-keeps : goal.statement-returns-in-Return-clause-keeps
statement-returns-in-Return-clause-keeps t c = keeps_same c.args.visible.now.bound.items _ refl

pub statement-returns-in_ok-inside-in-If-clause-scope : goal.statement-returns-in_ok-inside-in-If-clause-scope
statement-returns-in_ok-inside-in-If-clause-scope t c = rw c.in-If.is (rw c.deref-in-If.ensures at c.in_ok-inside-in-If.ensures.scope)

pub statement-returns-in_ok-inside-in-If-clause-keeps : goal.statement-returns-in_ok-inside-in-If-clause-keeps
statement-returns-in_ok-inside-in-If-clause-keeps t c = keeps_same c.args.visible.now.bound.items _ c.in_ok-inside-in-If.ensures.keeps

pub statement-returns-in_ok-inside-in-While-clause-scope : goal.statement-returns-in_ok-inside-in-While-clause-scope
statement-returns-in_ok-inside-in-While-clause-scope t c = rw c.in-While.is (rw c.deref-in-While.ensures at c.in_ok-inside-in-While.ensures.scope)

pub statement-returns-in_ok-inside-in-While-clause-keeps : goal.statement-returns-in_ok-inside-in-While-clause-keeps
statement-returns-in_ok-inside-in-While-clause-keeps t c = keeps_same c.args.visible.now.bound.items _ c.in_ok-inside-in-While.ensures.keeps

pub statement-returns-in-Break-clause-keeps : goal.statement-returns-in-Break-clause-keeps
statement-returns-in-Break-clause-keeps t c = keeps_same c.args.visible.now.bound.items _ refl

pub statement-returns-in-Continue-clause-keeps : goal.statement-returns-in-Continue-clause-keeps
statement-returns-in-Continue-clause-keeps t c = keeps_same c.args.visible.now.bound.items _ refl

pub statement-returns-in_ok-second-in-IfElse-clause-scope : goal.statement-returns-in_ok-second-in-IfElse-clause-scope
statement-returns-in_ok-second-in-IfElse-clause-scope t c =
    let between : seen c.args.table.now c.scoped-in-IfElse.new.visible ≡ leave (seen c.args.table.now c.args.visible.now) (scope_after (seen c.args.table.now c.args.visible.now) (stmt_tree c.in-IfElse.then.value)) =
    rw c.deref-in-IfElse.ensures at c.in_ok-first-in-IfElse.ensures.scope in
    rw c.in-IfElse.is ((rw c.deref-in-IfElse-2.ensures at c.in_ok-second-in-IfElse.ensures.scope) ∙ ap (λ p. leave p (scope_after p (stmt_tree c.in-IfElse.other.value))) between)

pub statement-returns-in_ok-second-in-IfElse-clause-keeps : goal.statement-returns-in_ok-second-in-IfElse-clause-keeps
statement-returns-in_ok-second-in-IfElse-clause-keeps t c = keeps_same c.args.visible.now.bound.items _ (c.in_ok-second-in-IfElse.ensures.keeps ∙ c.in_ok-first-in-IfElse.ensures.keeps)

pub statements-returns-clause-scope : goal.statements-returns-clause-scope
statements-returns-clause-scope c = grind (arith, common_steps)
