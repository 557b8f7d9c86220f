use Rattle.std.proofs.lemmas.Grind.{common_steps}
use Rattle.std.proofs.Common.{ap, sym, ◌∙◌, arith}
use Rattle.std.proofs.lemmas.List.{length-map}
use Rattle.std.proofs.lemmas.Result.{on_ok_weaker}
use Rattle.arc_checked.specs.Checked.{value, command, program_of}
use Rattle.arc_lower.specs.PlainActions.{plain_action, plain_actions}
use Rattle.arc_checked.proofs.NodeParts.{sequence_command}
use Rattle.arc_lower.proofs.JumpPatching.{choice_written, repeat_entered, is_repeat, step_written}
use Rattle.arc_lower.proofs.statement.+statement.Goals as goal

pub append_command-returns-in-Sequence-clause-actions : goal.append_command-returns-in-Sequence-clause-actions
append_command-returns-in-Sequence-clause-actions t c =
    let s = c.in-Sequence in
    rw (ap command s.is ∙ sequence_command s.first s.count s.all, ← c.deref.ensures.value) c.append_sequence.ensures.actions

pub append_command-returns-in-Give-clause-actions : goal.append_command-returns-in-Give-clause-actions
append_command-returns-in-Give-clause-actions t c = rw c.in-Give.is (c.append_give.ensures c.args.scopes.now.items)

pub append_command-returns-in_ok-append_command-in-If-2-clause-actions : goal.append_command-returns-in_ok-append_command-in-If-2-clause-actions
append_command-returns-in_ok-append_command-in-If-2-clause-actions t c =
    let e5 = rw c.in_ok-append_command-in-If.ensures.scopes at c.in_ok-append_command-in-If-2.ensures.actions in
    let e = choice_written (program_of c.args.program.now) c.args.body c.args.scopes.now.items (plain_actions c.args.actions.now.items) _ _ _ _ _ _ _ _
    (value c.in-If.test) (command c.deref-in-If.result.now) (command c.deref-in-If-2.result.now) c.in_ok-append_full_expression-in-If.ensures
    (c.len-branch.ensures ∙ c.append_full_expression.new.actions.ok.0) c.in_ok-append-in-If.ensures c.in_ok-append_command-in-If.ensures.actions
    (c.len-skip.ensures ∙ c.append_command.new.actions.ok.0) c.in_ok-append-in-If-2.ensures (c.len-other.ensures ∙ c.append-in-If.new.actions.ok.0) e5
    in
    rw (c.in-If.is, ← c.deref-in-If.ensures, ← c.deref-in-If-2.ensures) (rw e at c.join.ensures)

pub append_command-returns-in_ok-append_turn-in-While-clause-actions : goal.append_command-returns-in_ok-append_turn-in-While-clause-actions
append_command-returns-in_ok-append_turn-in-While-clause-actions t c =
    let P = program_of c.args.program.now in
    let scopes = c.args.scopes.now.items in
    let v0 = c.args.actions.now in
    let first = c.in_ok-begin-in-While in
    let last = c.in_ok-out-in-While in
    let test = value c.in-While.test in
    let step = command c.deref-in-While.result.now in
    let body = command c.deref-in-While-2.result.now in
    let here = c.len-enter.ensures ∙ v0.ok.0 ∙ sym (length-map v0.items plain_action) in
    rw (is_repeat _ _ _ _ _ _ _ c.in-While.is c.deref-in-While.ensures c.deref-in-While-2.ensures)
    (on_ok_weaker c.enter_loop.result
    (repeat_entered P c.args.body scopes (plain_actions v0.items) _ _ first.begin last.out test body last.ensures.actions last.ensures.out _ _ c.in-While.moment step c.len-enter.result here first.ensures.actions first.ensures.begin c.in_ok-append_turn-in-While.ensures)
    c.enter_loop.ensures)

pub append_step-returns-clause-actions : goal.append_step-returns-clause-actions
append_step-returns-clause-actions t c = grind (arith, common_steps, step_written)
