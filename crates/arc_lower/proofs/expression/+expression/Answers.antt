use Rattle.std.proofs.Common.{◌∙◌, arith}
use Rattle.std.proofs.lemmas.Grind.{common_steps}
use Rattle.arc_lower.proofs.JumpPatching.{patch_fork}
use Rattle.arc_checked.proofs.NodeParts.{is_print, is_invoked, is_sent, is_object_invoked, is_object_sent}
use Rattle.arc_lower.proofs.ExpressionWeight.{argument_in}
use Rattle.arc_lower.proofs.expression.+expression.Goals as goal

pub append_value-append_printed-requires : goal.append_value-append_printed-requires
append_value-append_printed-requires t c =
    (omega (arith, rw (is_print _ _ _ _ _ c.in-Print.is c.deref.ensures.value c.deref-in-Print.ensures.value) at c.decreases), tt)

pub append_value-returns-in-Print : goal.append_value-returns-in-Print
append_value-returns-in-Print t c =
    rw (is_print _ _ _ _ _ c.in-Print.is c.deref.ensures.value c.deref-in-Print.ensures.value) c.append_printed.ensures

pub append_value-append_function_call-requires : goal.append_value-append_function_call-requires
append_value-append_function_call-requires t c =
    (omega (arith, rw (is_invoked _ _ _ _ c.in-Call.is c.deref-in-Call.ensures.value) at c.decreases), tt)

pub append_value-returns-in-Call : goal.append_value-returns-in-Call
append_value-returns-in-Call t c = rw (is_invoked _ _ _ _ c.in-Call.is c.deref-in-Call.ensures.value) c.append_function_call.ensures

pub append_value-append_message-requires : goal.append_value-append_message-requires
append_value-append_message-requires t c =
    (omega (arith, rw (is_sent _ _ _ _ _ _ c.in-Send.is c.deref-in-Send.ensures c.deref-in-Send-2.ensures.value) at c.decreases), tt)

pub append_value-returns-in-Send : goal.append_value-returns-in-Send
append_value-returns-in-Send t c =
    rw (is_sent _ _ _ _ _ _ c.in-Send.is c.deref-in-Send.ensures c.deref-in-Send-2.ensures.value) c.append_message.ensures

pub append_reference-append_function_call-requires : goal.append_reference-append_function_call-requires
append_reference-append_function_call-requires t c =
    (omega (arith, rw (is_object_invoked _ _ _ _ c.in-ObjectCall.is c.deref-in-ObjectCall.ensures.value) at c.decreases), tt)

pub append_reference-returns-in-ObjectCall : goal.append_reference-returns-in-ObjectCall
append_reference-returns-in-ObjectCall t c =
    rw (is_object_invoked _ _ _ _ c.in-ObjectCall.is c.deref-in-ObjectCall.ensures.value) c.append_function_call.ensures

pub append_reference-append_message-requires : goal.append_reference-append_message-requires
append_reference-append_message-requires t c = (
  omega (
    arith,
    rw (is_object_sent _ _ _ _ _ _ c.in-ObjectSend.is c.deref-in-ObjectSend.ensures c.deref-in-ObjectSend-2.ensures.value)
        at c.decreases,
  ),
  tt,
)

pub append_reference-returns-in-ObjectSend : goal.append_reference-returns-in-ObjectSend
append_reference-returns-in-ObjectSend t c =
    rw (is_object_sent _ _ _ _ _ _ c.in-ObjectSend.is c.deref-in-ObjectSend.ensures c.deref-in-ObjectSend-2.ensures.value)
    c.append_message.ensures

pub append_arguments-append_value-requires : goal.append_arguments-append_value-requires
append_arguments-append_value-requires t c =
    let i = c.loop-argument.argument-index in
    let within = argument_in c.args.all.now i c.argument-item.result c.loop-argument-test.true c.argument-item.is in
    (omega (arith, rw (c.in-Number.is, ← c.deref.ensures) at within, c.decreases), tt)

pub append_arguments-append_reference-requires : goal.append_arguments-append_reference-requires
append_arguments-append_reference-requires t c =
    let i = c.loop-argument.argument-index in
    let within = argument_in c.args.all.now i c.argument-item.result c.loop-argument-test.true c.argument-item.is in
    (omega (arith, rw (c.in-Object.is, ← c.deref-in-Object.ensures) at within, c.decreases), tt)

pub append_conditional-returns : goal.append_conditional-returns
append_conditional-returns t c =
    let e = patch_fork _ _ _ _ _ _ _ _ _ _ _ _ c.in_ok-append_value.ensures (c.len-branch.ensures ∙ c.append_value.new.actions.ok.0) c.in_ok-append.ensures
    c.in_ok-append_value-2.ensures (c.len-skip.ensures ∙ c.append_value-2.new.actions.ok.0) c.in_ok-append-2.ensures (c.len-other.ensures ∙ c.append-2.new.actions.ok.0) c.in_ok-append_value-3.ensures
    in
    rw e at c.join.ensures

pub append_object_conditional-returns : goal.append_object_conditional-returns
append_object_conditional-returns t c =
    let e = patch_fork _ _ _ _ _ _ _ _ _ _ _ _ c.in_ok-append_value.ensures (c.len-branch.ensures ∙ c.append_value.new.actions.ok.0) c.in_ok-append.ensures
    c.in_ok-append_reference.ensures (c.len-skip.ensures ∙ c.append_reference.new.actions.ok.0) c.in_ok-append-2.ensures (c.len-other.ensures ∙ c.append-2.new.actions.ok.0) c.in_ok-append_reference-2.ensures
    in
    rw e at c.join.ensures

pub append_update_field-returns : goal.append_update_field-returns
append_update_field-returns t c = grind (arith, common_steps)
