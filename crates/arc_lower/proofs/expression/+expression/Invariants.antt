use Rattle.std.proofs.Common.{◌≡◌, suc, ◌+◌, ◌++◌, drop}
use Rattle.arc_checked.specs.Checked.{value, reference, receiver, arguments, program_of}
use Rattle.arc_lower.specs.PlainActions.{plain_actions}
use Rattle.arc_lower.specs.Lowered.{argument_actions}
use Rattle.arc_lower.proofs.ExpressionWeight.{value_weight, reference_weight, receiver_weight, arguments_weight}
use Rattle.arc_lower.proofs.expression.+expression.Given as goal

abbrev pub decreases-append_value : goal.decreases-append_value
decreases-append_value l = value_weight (value l.expression.now)

abbrev pub decreases-append_reference : goal.decreases-append_reference
decreases-append_reference l = reference_weight (reference l.expression.now)

abbrev pub decreases-append_arguments : goal.decreases-append_arguments
decreases-append_arguments l = arguments_weight (arguments l.all.now)

abbrev pub decreases-append_receiver : goal.decreases-append_receiver
decreases-append_receiver l = receiver_weight (receiver l.receiver.now)

abbrev pub decreases-append_set_object_field : goal.decreases-append_set_object_field
decreases-append_set_object_field l = suc (reference_weight (reference l.object.now) + reference_weight (reference l.operand.now))

abbrev pub decreases-append_printed : goal.decreases-append_printed
decreases-append_printed l = suc (arguments_weight (arguments l.arguments.now))

abbrev pub decreases-append_function_call : goal.decreases-append_function_call
decreases-append_function_call l = suc (arguments_weight (arguments l.arguments.now))

abbrev pub decreases-append_new_object : goal.decreases-append_new_object
decreases-append_new_object l = suc (value_weight (value l.class.now))

abbrev pub decreases-append_value_then : goal.decreases-append_value_then
decreases-append_value_then l = suc (value_weight (value l.operand.now))

abbrev pub decreases-append_convert : goal.decreases-append_convert
decreases-append_convert l = suc (value_weight (value l.operand.now))

abbrev pub decreases-append_assign_number : goal.decreases-append_assign_number
decreases-append_assign_number l = suc (value_weight (value l.operand.now))

abbrev pub decreases-append_reference_then : goal.decreases-append_reference_then
decreases-append_reference_then l = suc (reference_weight (reference l.object.now))

abbrev pub decreases-append_both : goal.decreases-append_both
decreases-append_both l = suc (value_weight (value l.left.now) + value_weight (value l.right.now))

abbrev pub decreases-append_conditional : goal.decreases-append_conditional
decreases-append_conditional l = suc (value_weight (value l.test.now) + value_weight (value l.first.now) + value_weight (value l.second.now))

abbrev pub decreases-append_object_conditional : goal.decreases-append_object_conditional
decreases-append_object_conditional l = suc (value_weight (value l.test.now) + reference_weight (reference l.first.now) + reference_weight (reference l.second.now))

abbrev pub decreases-append_message : goal.decreases-append_message
decreases-append_message l = suc (receiver_weight (receiver l.receiver.now) + arguments_weight (arguments l.arguments.now))

abbrev pub decreases-append_set_field : goal.decreases-append_set_field
decreases-append_set_field l = suc (reference_weight (reference l.object.now) + value_weight (value l.operand.now))

abbrev pub decreases-append_update_variable : goal.decreases-append_update_variable
decreases-append_update_variable l = suc (suc (value_weight (value l.operand.now)))

abbrev pub decreases-append_update_field : goal.decreases-append_update_field
decreases-append_update_field l = suc (suc (reference_weight (reference l.object.now) + value_weight (value l.operand.now)))

abbrev pub decreases-append_update : goal.decreases-append_update
decreases-append_update l = suc (value_weight (value l.operand.now))

abbrev pub decreases-append_not_same : goal.decreases-append_not_same
decreases-append_not_same l = suc (reference_weight (reference l.left.now) + reference_weight (reference l.right.now))

-- the actions of the arguments that are left come after those so far
abbrev pub invariant-append_arguments-loop-argument : goal.invariant-append_arguments-loop-argument
invariant-append_arguments-loop-argument l = plain_actions l.actions.items ++ argument_actions (program_of l.program) l.frame.slots l.frame.names l.operands (arguments (drop l.argument-index l.all))
    ≡ plain_actions l.initial.actions.items ++ argument_actions (program_of l.program) l.frame.slots l.frame.names l.frame.operands (arguments l.all)
