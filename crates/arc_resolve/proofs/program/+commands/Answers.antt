use Rattle.std.proofs.Common.{◌≡◌, ◌-◌, [], ◌∷◌, ◌++◌, OnOk, IfOk, length, option_map, take, refl, ap, subst, ◌∙◌, arith}
use Rattle.std.proofs.lemmas.Grind.{common_steps}
use Rattle.std.proofs.lemmas.Result.{on_ok_weaker}
use Rattle.arc_ast.specs.declared.tree.Moment.TheVariants.{Before}
use Rattle.arc_ast.specs.Tree.{expr_tree, stmt_tree, stmt_trees}
use Rattle.arc_spec.specs.Resolved as spec
use Rattle.arc_checked.specs.Checked as checked
use Rattle.arc_resolve.specs.SourceResolution.{nothing, number_in, resolved, resolved_stmt, resolved_stmts, stepped, tested}
use Rattle.arc_scope.specs.Scopes.{Scope, leave, scope_after, scope_after_all}
use Rattle.arc_scope.specs.Views.{seen}
use Rattle.arc_resolve.proofs.StatementResolution.{commands_turn, commands_end, after_turn, block_command, block_scope, choose_is, loop_command, repeat_is}
use Rattle.arc_scope.proofs.ScopeKept.{after_same, after_all_same, inner_same, leave_is}
use Rattle.arc_scope.proofs.VisibleVariables.{keeps_turn, keeps_same}
use Rattle.arc_checked.proofs.NodeParts.{sequence_command}
use Rattle.arc_resolve.proofs.program.+commands.Goals as goal

pub block-returns-clause-scope : goal.block-returns-clause-scope
block-returns-clause-scope t c =
    let table = c.args.table.now in
    let old = c.args.visible.now in
    leave_is table old c.commands.new.visible c.leave.new.self _ (after_all_same (seen table old) (stmt_trees c.args.statements.now)) c.in_ok-all.ensures.scope
    (c.leave.ensures.bound ∙ ap (λ n. take n c.commands.new.visible.bound.items) (c.len-count.ensures ∙ old.bound.ok.0) ∙ c.in_ok-all.ensures.keeps) (record { next = c.leave.ensures.next; names = c.leave.ensures.names; class = c.leave.ensures.class; sign = c.leave.ensures.sign; gives = c.leave.ensures.gives; owns = c.leave.ensures.owns; hidden = c.leave.ensures.hidden })

pub scoped-returns-clause-scope : goal.scoped-returns-clause-scope
scoped-returns-clause-scope t c =
    let table = c.args.table.now in
    let old = c.args.visible.now in
    leave_is table old c.command.new.visible c.leave.new.self _ (after_same (seen table old) (stmt_tree c.args.inner.now)) c.in_ok-new.ensures.scope
    (c.leave.ensures.bound ∙ ap (λ n. take n c.command.new.visible.bound.items) (c.len-count.ensures ∙ old.bound.ok.0) ∙ c.in_ok-new.ensures.keeps) (record { next = c.leave.ensures.next; names = c.leave.ensures.names; class = c.leave.ensures.class; sign = c.leave.ensures.sign; gives = c.leave.ensures.gives; owns = c.leave.ensures.owns; hidden = c.leave.ensures.hidden })

pub block-returns-clause-command : goal.block-returns-clause-command
block-returns-clause-command t c =
    let s = seen c.args.table.now c.args.visible.now in
    let all = stmt_trees c.args.statements.now in
    let own : c.saturating_sub-own.result ≡ ((scope_after_all s all).names - s.names) = c.saturating_sub-own.ensures ∙ ap (λ n. n - c.from-first.result) (c.from.ensures ∙ c.leave.ensures.names ∙ ap (λ q. q.names) c.in_ok-all.ensures.scope) ∙ ap (λ n. (scope_after_all s all).names - n) c.from-first.ensures in
    sequence_command c.from-first.result c.saturating_sub-own.result c.in_ok-all.all ∙ ap (λ n. spec.Sequence n c.saturating_sub-own.result (checked.commands c.in_ok-all.all.items)) c.from-first.ensures
    ∙ ap (λ n. spec.Sequence s.names n (checked.commands c.in_ok-all.all.items)) own ∙ ap (spec.Sequence s.names ((scope_after_all s all).names - s.names)) c.in_ok-all.ensures.commands

pub command-returns-in-Block-clause-command : goal.command-returns-in-Block-clause-command
command-returns-in-Block-clause-command t c =
    let s = seen c.args.table.now c.args.visible.now in
    let P : spec.Command → Type 0 = λ b. IfOk c.block.result (λ new. checked.command new ≡ b) in
    subst P (block_command s c.args.statement.now c.in-Block.field-0 c.in-Block.all c.deref.result.now c.in-Block.is c.deref.ensures.value) c.block.ensures.command

pub command-returns-in-Block-clause-scope : goal.command-returns-in-Block-clause-scope
command-returns-in-Block-clause-scope t c =
    let s = seen c.args.table.now c.args.visible.now in
    let P : Scope → Type 0 = λ b. OnOk c.block.result (seen c.args.table.now c.block.new.visible ≡ b) in
    subst P (block_scope s c.args.statement.now c.in-Block.field-0 c.in-Block.all c.deref.result.now c.in-Block.is c.deref.ensures.value) c.block.ensures.scope

pub chosen_or_nothing-returns-clause-command : goal.chosen_or_nothing-returns-clause-command
chosen_or_nothing-returns-clause-command t c =
    let s = seen c.args.table.now c.args.visible.now in
    choose_is (checked.value c.into_inner.result) (number_in (resolved s (expr_tree c.args.condition.now))) (checked.command c.in_ok-then.then.value) (resolved_stmt s (stmt_tree c.args.then.now)) (checked.command c.in_ok-other.other.value)
    nothing (ap checked.value c.into_inner.ensures ∙ c.in_ok-test.ensures) c.in_ok-then.ensures.command (ap checked.command c.in_ok-other.ensures.ok ∙ c.nothing.ensures)

pub chosen-returns-clause-command : goal.chosen-returns-clause-command
chosen-returns-clause-command t c =
    let s = seen c.args.table.now c.args.visible.now in
    let then = stmt_tree c.args.then.now in
    let other = stmt_tree c.args.other.now in
    choose_is (checked.value c.into_inner.result) (number_in (resolved s (expr_tree c.args.condition.now))) (checked.command c.in_ok-then.then.value) (resolved_stmt s then) (checked.command c.in_ok-other.other.value)
    (resolved_stmt (leave s (scope_after s then)) other) (ap checked.value c.into_inner.ensures ∙ c.in_ok-test.ensures) c.in_ok-then.ensures.command
    (c.in_ok-other.ensures.command ∙ ap (λ p. resolved_stmt p other) c.in_ok-then.ensures.scope)

pub chosen-returns-clause-scope : goal.chosen-returns-clause-scope
chosen-returns-clause-scope t c = c.in_ok-other.ensures.scope ∙ ap (λ p. leave p (scope_after p (stmt_tree c.args.other.now))) c.in_ok-then.ensures.scope

pub chosen-returns-clause-keeps : goal.chosen-returns-clause-keeps
chosen-returns-clause-keeps t c = c.in_ok-other.ensures.keeps ∙ c.in_ok-then.ensures.keeps

pub chosen_or_nothing-returns-clause-scope : goal.chosen_or_nothing-returns-clause-scope
chosen_or_nothing-returns-clause-scope t c = c.in_ok-then.ensures.scope

pub chosen_or_nothing-returns-clause-keeps : goal.chosen_or_nothing-returns-clause-keeps
chosen_or_nothing-returns-clause-keeps t c = c.in_ok-then.ensures.keeps

pub repeated-returns-clause-scope : goal.repeated-returns-clause-scope
repeated-returns-clause-scope t c = c.in_ok-body.ensures.scope

pub repeated-returns-clause-keeps : goal.repeated-returns-clause-keeps
repeated-returns-clause-keeps t c = c.in_ok-body.ensures.keeps

pub turns-returns-clause-command : goal.turns-returns-clause-command
turns-returns-clause-command t c =
    let s = seen c.args.table.now c.args.visible.now in
    repeat_is Before (checked.value c.into_inner.result) (tested s (option_map expr_tree c.args.test.now)) (checked.command c.in_ok-step.step.value) (stepped s (option_map expr_tree c.args.step.now)) (checked.command c.in_ok-body.body.value)
    (resolved_stmt s (stmt_tree c.args.body.now)) (ap checked.value c.into_inner.ensures ∙ c.in_ok-test.ensures) c.in_ok-step.ensures c.in_ok-body.ensures.command

pub turns-returns-clause-scope : goal.turns-returns-clause-scope
turns-returns-clause-scope t c = c.in_ok-body.ensures.scope

pub turns-returns-clause-keeps : goal.turns-returns-clause-keeps
turns-returns-clause-keeps t c = c.in_ok-body.ensures.keeps

pub stepped-returns-clause-command : goal.stepped-returns-clause-command
stepped-returns-clause-command t c =
    let s = seen c.args.table.now c.args.visible.now in
    let a = stmt_tree c.args.beginning.now in
    let b = stmt_tree c.args.body.now in
    let own = scope_after s a in
    let test = option_map expr_tree c.args.test.now in
    let step = option_map expr_tree c.args.step.now in
    let count : c.saturating_sub-own.result ≡ (own.names - s.names) = c.saturating_sub-own.ensures ∙ ap (λ n. n - c.from-first.result) (c.from.ensures ∙ ap (λ q. q.names) c.in_ok-command.ensures.scope) ∙ ap (λ n. own.names - n) c.from-first.ensures in
    let loop : checked.command c.in_ok-turns.field-0 ≡ spec.While Before (tested own test) (stepped own step) (resolved_stmt own b) = c.in_ok-turns.ensures.command ∙ ap (λ p. spec.While Before (tested p test) (stepped p step) (resolved_stmt p b)) c.in_ok-command.ensures.scope in
    loop_command s own c.from-first.result c.saturating_sub-own.result c.keep-2.new.all c.in_ok-command.field-0 c.in_ok-turns.field-0 (resolved_stmt s a) (spec.While Before (tested own test) (stepped own step) (resolved_stmt own b))
    (c.in_ok-keep-2.ensures.items ∙ ap (λ us. us ++ c.in_ok-turns.field-0 ∷ []) (c.in_ok-keep.ensures.items ∙ ap (λ us. us ++ c.in_ok-command.field-0 ∷ []) c.new-all.ensures.items)) c.from-first.ensures count c.in_ok-command.ensures.command loop

pub stepped-returns-clause-scope : goal.stepped-returns-clause-scope
stepped-returns-clause-scope t c =
    let table = c.args.table.now in
    let old = c.args.visible.now in
    let s = seen table old in
    let a = stmt_tree c.args.beginning.now in
    let b = stmt_tree c.args.body.now in
    let own = scope_after s a in
    leave_is table old c.turns.new.visible c.leave.new.self (leave own (scope_after own b)) (inner_same s own (scope_after own b) (after_same s a))
    (c.in_ok-turns.ensures.scope ∙ ap (λ p. leave p (scope_after p b)) c.in_ok-command.ensures.scope)
    (c.leave.ensures.bound ∙ ap (λ n. take n c.turns.new.visible.bound.items) (c.len-count.ensures ∙ old.bound.ok.0) ∙ ap (take (length old.bound.items)) c.in_ok-turns.ensures.keeps ∙ c.in_ok-command.ensures.keeps)
    (record { next = c.leave.ensures.next; names = c.leave.ensures.names; class = c.leave.ensures.class; sign = c.leave.ensures.sign; gives = c.leave.ensures.gives; owns = c.leave.ensures.owns; hidden = c.leave.ensures.hidden })

pub stepped-returns-clause-keeps : goal.stepped-returns-clause-keeps
stepped-returns-clause-keeps t c =
    let old = c.args.visible.now in
    c.leave.ensures.bound ∙ ap (λ n. take n c.turns.new.visible.bound.items) (c.len-count.ensures ∙ old.bound.ok.0) ∙ ap (take (length old.bound.items)) c.in_ok-turns.ensures.keeps ∙ c.in_ok-command.ensures.keeps

pub commands-loop-statement-preserved : goal.commands-loop-statement-preserved
commands-loop-statement-preserved t c =
    let table = c.args.table.now in
    let xs = c.args.statements.now in
    let i = c.loop-statement.statement-index in
    let x = c.statement-item.result in
    let s = seen table c.loop-statement.visible in
    let new = seen table c.command.new.visible in
    record {
      commands = commands_turn s new xs i x c.loop-statement.all.items c.keep.new.all.items c.in_ok-command.field-0 _ c.loop-statement-test.true c.statement-item.is c.in_ok-command.ensures.scope c.in_ok-command.ensures.command c.in_ok-keep.ensures.items c.loop-statement.invariant.commands;
      scope = after_turn s new _ xs i x c.loop-statement-test.true c.statement-item.is c.in_ok-command.ensures.scope c.loop-statement.invariant.scope;
      keeps = keeps_turn c.args.visible.now.bound.items c.loop-statement.visible.bound.items c.command.new.visible.bound.items c.loop-statement.invariant.keeps c.in_ok-command.ensures.keeps;
    }

pub commands-returns-clause-commands : goal.commands-returns-clause-commands
commands-returns-clause-commands t c =
    let s = seen c.args.table.now c.loop-statement.visible in
    commands_end s c.args.statements.now c.loop-statement.statement-index c.loop-statement.all.items (resolved_stmts (seen c.args.table.now c.args.visible.now) (stmt_trees c.args.statements.now)) c.loop-statement-test.false c.loop-statement.invariant.commands

pub block-returns-clause-keeps : goal.block-returns-clause-keeps
block-returns-clause-keeps t c = c.leave.ensures.bound ∙ ap (λ n. take n c.commands.new.visible.bound.items) (c.len-count.ensures ∙ c.args.visible.now.bound.ok.0) ∙ c.in_ok-all.ensures.keeps

pub scoped-returns-clause-keeps : goal.scoped-returns-clause-keeps
scoped-returns-clause-keeps t c = c.leave.ensures.bound ∙ ap (λ n. take n c.command.new.visible.bound.items) (c.len-count.ensures ∙ c.args.visible.now.bound.ok.0) ∙ c.in_ok-new.ensures.keeps

pub command-returns-in-Block-clause-keeps : goal.command-returns-in-Block-clause-keeps
command-returns-in-Block-clause-keeps t c = on_ok_weaker c.block.result (keeps_same c.args.visible.now.bound.items c.block.new.visible.bound.items) c.block.ensures.keeps

pub command-returns-in-Empty-clause-keeps : goal.command-returns-in-Empty-clause-keeps
command-returns-in-Empty-clause-keeps t c = keeps_same c.args.visible.now.bound.items _ refl

pub command-returns-in-Variables-clause-command : goal.command-returns-in-Variables-clause-command
command-returns-in-Variables-clause-command t c = rw c.in-Variables.is (rw c.deref-in-Variables.ensures.value at c.declaration.ensures.command)

pub command-returns-in-If-clause-command : goal.command-returns-in-If-clause-command
command-returns-in-If-clause-command t c = rw c.in-If.is (rw c.deref-in-If.ensures at c.chosen_or_nothing.ensures.command)

pub command-returns-in-If-clause-scope : goal.command-returns-in-If-clause-scope
command-returns-in-If-clause-scope t c = rw c.in-If.is (rw c.deref-in-If.ensures at c.chosen_or_nothing.ensures.scope)

pub command-returns-in-If-clause-keeps : goal.command-returns-in-If-clause-keeps
command-returns-in-If-clause-keeps t c = on_ok_weaker c.chosen_or_nothing.result (keeps_same c.args.visible.now.bound.items c.chosen_or_nothing.new.visible.bound.items) c.chosen_or_nothing.ensures.keeps

pub command-returns-in-IfElse-clause-command : goal.command-returns-in-IfElse-clause-command
command-returns-in-IfElse-clause-command t c = rw c.in-IfElse.is (rw (c.deref-in-IfElse.ensures, c.deref-in-IfElse-2.ensures) at c.chosen.ensures.command)

pub command-returns-in-IfElse-clause-scope : goal.command-returns-in-IfElse-clause-scope
command-returns-in-IfElse-clause-scope t c = rw c.in-IfElse.is (rw (c.deref-in-IfElse.ensures, c.deref-in-IfElse-2.ensures) at c.chosen.ensures.scope)

pub command-returns-in-IfElse-clause-keeps : goal.command-returns-in-IfElse-clause-keeps
command-returns-in-IfElse-clause-keeps t c = on_ok_weaker c.chosen.result (keeps_same c.args.visible.now.bound.items c.chosen.new.visible.bound.items) c.chosen.ensures.keeps

pub command-returns-in-While-clause-command : goal.command-returns-in-While-clause-command
command-returns-in-While-clause-command t c = rw c.in-While.is (rw c.deref-in-While.ensures at c.repeated.ensures.command)

pub command-returns-in-While-clause-scope : goal.command-returns-in-While-clause-scope
command-returns-in-While-clause-scope t c = rw c.in-While.is (rw c.deref-in-While.ensures at c.repeated.ensures.scope)

pub command-returns-in-While-clause-keeps : goal.command-returns-in-While-clause-keeps
command-returns-in-While-clause-keeps t c = on_ok_weaker c.repeated.result (keeps_same c.args.visible.now.bound.items c.repeated.new.visible.bound.items) c.repeated.ensures.keeps

pub command-returns-in-For-clause-command : goal.command-returns-in-For-clause-command
command-returns-in-For-clause-command t c = rw c.in-For.is (rw (c.deref-in-For.ensures, c.deref-in-For-2.ensures) at c.stepped.ensures.command)

pub command-returns-in-For-clause-scope : goal.command-returns-in-For-clause-scope
command-returns-in-For-clause-scope t c = rw c.in-For.is (rw (c.deref-in-For.ensures, c.deref-in-For-2.ensures) at c.stepped.ensures.scope)

pub command-returns-in-For-clause-keeps : goal.command-returns-in-For-clause-keeps
command-returns-in-For-clause-keeps t c = on_ok_weaker c.stepped.result (keeps_same c.args.visible.now.bound.items c.stepped.new.visible.bound.items) c.stepped.ensures.keeps

pub command-returns-in-Break-clause-keeps : goal.command-returns-in-Break-clause-keeps
command-returns-in-Break-clause-keeps t c = keeps_same c.args.visible.now.bound.items _ refl

pub command-returns-in-Continue-clause-keeps : goal.command-returns-in-Continue-clause-keeps
command-returns-in-Continue-clause-keeps t c = keeps_same c.args.visible.now.bound.items _ refl

pub command-returns-in-Return-clause-keeps : goal.command-returns-in-Return-clause-keeps
command-returns-in-Return-clause-keeps c = grind (arith, common_steps)

pub command-returns-in-Expr-clause-keeps : goal.command-returns-in-Expr-clause-keeps
command-returns-in-Expr-clause-keeps c = grind (arith, common_steps)

pub commands-returns-clause-scope : goal.commands-returns-clause-scope
commands-returns-clause-scope c = grind (arith, common_steps)

pub commands-loop-statement-init : goal.commands-loop-statement-init
commands-loop-statement-init c = grind (arith, common_steps)
