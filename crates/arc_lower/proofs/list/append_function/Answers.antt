use Rattle.std.proofs.Common.{length, sym, ap, ◌∙◌, arith, length-append}
use Rattle.std.proofs.lemmas.Grind.{common_steps}
use Rattle.std.proofs.lemmas.List.{length-map}
use Rattle.arc_lower.specs.PlainActions.{plain_action, plain_actions}
use Rattle.arc_lower.proofs.ActionLists.{slice_after, begins_within, raised_append}
use Rattle.arc_lower.proofs.list.append_function.Goals as goal

pub slice_bounds-raise-start-2 : goal.slice_bounds-raise-start-2
slice_bounds-raise-start-2 c = grind (arith, begins_within, common_steps)

pub slice_bounds-raise-count-2 : goal.slice_bounds-raise-count-2
slice_bounds-raise-count-2 c = grind (arith, begins_within, common_steps)

pub returns-clause-most : goal.returns-clause-most
returns-clause-most c =
    let old = c.args.actions.now in
    let middle = c.append_leave.new.actions in
    let here = c.len-exit.ensures ∙ old.ok.0 ∙ sym (length-map old.items plain_action) in
    let there = ap length c.in_ok-append_leave.ensures ∙ length-append (plain_actions old.items) _ in
    let leave = slice_after old.items _ _ _ _ (c.len-exit.ensures ∙ old.ok.0) c.deref.ensures.value
    c.in_ok-append_leave.ensures in
    let body = slice_after middle.items _ _ _ _ (c.len-entry.ensures ∙ middle.ok.0) c.deref-2.ensures.value
    c.in_ok-append_body.ensures in
    rw (c.in_ok-raise-2.ensures, c.in_ok-raise.ensures, body, leave, c.between-base.ensures, c.between-left.ensures)
    (rw (c.passed-entered.ensures, c.object_parameters-given.ensures, c.in_ok-names.ensures, c.in_ok-one_more.ensures)
    (rw (raised_append, there, here)))
