use Rattle.std.proofs.Common.{◌≡◌, ◌+◌, ◌-◌, suc, drop, length, vec_len}
use Rattle.arc_checked.specs.Checked as checked
use Rattle.arc_checked.specs.Checked.{program_of}
use Rattle.arc_spec.specs.Classes.{superclasses, ancestry, ancestry_within}
use Rattle.arc_spec.specs.Meaning.{all_evaluated, full_expression, executed, all_executed, turns, looped, all_dropped, variables_dropped, deallocs_run, fields_dropped}
use Rattle.arc_plain.specs.Views.{world, given_of, deeper}
use Rattle.arc_plain.proofs.LoopsAndFailures.{front}
use Rattle.arc_plain.proofs.TerminationMeasure.{levels_left, program_weight, value_weight, arguments_weight, receiver_weight, reference_weight, command_weight, commands_weight}
use Rattle.arc_plain.proofs.+running.Given as goal

abbrev pub decreases-call::call : goal.decreases-call::call
decreases-call::call l = levels_left l.context.now

abbrev pub decreases-call::end : goal.decreases-call::end
decreases-call::end l = levels_left l.context.now

abbrev pub decreases-call::release : goal.decreases-call::release
decreases-call::release l = levels_left l.context.now + 1

abbrev pub decreases-call::drop_temporaries : goal.decreases-call::drop_temporaries
decreases-call::drop_temporaries l = levels_left l.context.now + 2

abbrev pub decreases-call::drop_made : goal.decreases-call::drop_made
decreases-call::drop_made l = levels_left l.context.now + 2

abbrev pub decreases-call::drop_variables : goal.decreases-call::drop_variables
decreases-call::drop_variables l = levels_left l.context.now + 2

abbrev pub decreases-call::drop_fields : goal.decreases-call::drop_fields
decreases-call::drop_fields l = levels_left l.context.now + 2

abbrev pub decreases-call::empty : goal.decreases-call::empty
decreases-call::empty l = levels_left l.context.now + 3

abbrev pub decreases-call::enter : goal.decreases-call::enter
decreases-call::enter l = levels_left l.context.now + (3 + program_weight l.context.now)

abbrev pub decreases-call::run_dealloc : goal.decreases-call::run_dealloc
decreases-call::run_dealloc l = levels_left l.context.now + (4 + program_weight l.context.now)

abbrev pub decreases-call::run_deallocs : goal.decreases-call::run_deallocs
decreases-call::run_deallocs l = levels_left l.context.now + (5 + program_weight l.context.now)

abbrev pub decreases-expression::evaluate : goal.decreases-expression::evaluate
decreases-expression::evaluate l = levels_left l.context.now + value_weight (checked.value l.value.now)

abbrev pub decreases-expression::evaluate_print : goal.decreases-expression::evaluate_print
decreases-expression::evaluate_print l = levels_left l.context.now + suc (arguments_weight (checked.arguments l.arguments.now))

abbrev pub decreases-expression::evaluate_both : goal.decreases-expression::evaluate_both
decreases-expression::evaluate_both l = levels_left l.context.now + (1 + value_weight (checked.value l.left.now) + value_weight (checked.value l.right.now))

abbrev pub decreases-expression::invoke : goal.decreases-expression::invoke
decreases-expression::invoke l = levels_left l.context.now + suc (arguments_weight (checked.arguments l.arguments.now))

abbrev pub decreases-expression::assign_field : goal.decreases-expression::assign_field
decreases-expression::assign_field l = levels_left l.context.now + (1 + reference_weight (checked.reference l.object.now) + value_weight (checked.value l.operand.now))

abbrev pub decreases-expression::update_variable : goal.decreases-expression::update_variable
decreases-expression::update_variable l = levels_left l.context.now + (1 + value_weight (checked.value l.operand.now))

abbrev pub decreases-expression::update_field : goal.decreases-expression::update_field
decreases-expression::update_field l = levels_left l.context.now + (1 + reference_weight (checked.reference l.object.now) + value_weight (checked.value l.operand.now))

abbrev pub decreases-expression::compare : goal.decreases-expression::compare
decreases-expression::compare l = levels_left l.context.now + (1 + reference_weight (checked.reference l.left.now) + reference_weight (checked.reference l.right.now))

abbrev pub decreases-expression::refer : goal.decreases-expression::refer
decreases-expression::refer l = levels_left l.context.now + reference_weight (checked.reference l.reference.now)

abbrev pub decreases-expression::evaluate_all : goal.decreases-expression::evaluate_all
decreases-expression::evaluate_all l = levels_left l.context.now + arguments_weight (checked.arguments l.arguments.now)

abbrev pub decreases-expression::evaluate_whole : goal.decreases-expression::evaluate_whole
decreases-expression::evaluate_whole l = levels_left l.context.now + (3 + value_weight (checked.value l.value.now))

abbrev pub decreases-sending::send : goal.decreases-sending::send
decreases-sending::send l = levels_left l.context.now + (2 + receiver_weight (checked.receiver l.receiver.now) + arguments_weight (checked.arguments l.arguments.now))

abbrev pub decreases-sending::receive : goal.decreases-sending::receive
decreases-sending::receive l = levels_left l.context.now + receiver_weight (checked.receiver l.receiver.now)

abbrev pub decreases-sending::send_to : goal.decreases-sending::send_to
decreases-sending::send_to l = levels_left l.context.now + 2

abbrev pub decreases-expression::store_field : goal.decreases-expression::store_field
decreases-expression::store_field l = levels_left l.context.now + (3 + reference_weight (checked.reference l.object.now) + reference_weight (checked.reference l.operand.now))

abbrev pub decreases-sending::dispatch : goal.decreases-sending::dispatch
decreases-sending::dispatch l = suc (levels_left l.context.now)

abbrev pub decreases-sending::dispatch_to : goal.decreases-sending::dispatch_to
decreases-sending::dispatch_to l = suc (levels_left l.context.now)

abbrev pub decreases-sending::send_new : goal.decreases-sending::send_new
decreases-sending::send_new l = levels_left l.context.now + 4

abbrev pub decreases-sending::make_new : goal.decreases-sending::make_new
decreases-sending::make_new l = levels_left l.context.now + 3

abbrev pub decreases-statement::begin : goal.decreases-statement::begin
decreases-statement::begin l = levels_left l.context.now + (3 + reference_weight (checked.reference l.value.now))

abbrev pub decreases-statement::execute : goal.decreases-statement::execute
decreases-statement::execute l = levels_left l.context.now + command_weight (checked.command l.command.now)

abbrev pub decreases-statement::execute_block : goal.decreases-statement::execute_block
decreases-statement::execute_block l = levels_left l.context.now + (3 + commands_weight (checked.commands l.commands.now))

abbrev pub decreases-statement::execute_all : goal.decreases-statement::execute_all
decreases-statement::execute_all l = levels_left l.context.now + commands_weight (checked.commands l.commands.now)

abbrev pub decreases-statement::repeat : goal.decreases-statement::repeat
decreases-statement::repeat l = levels_left l.context.now + (5 + value_weight (checked.value l.test.now) + command_weight (checked.command l.step.now) + command_weight (checked.command l.body.now))

abbrev pub decreases-statement::turn : goal.decreases-statement::turn
decreases-statement::turn l = levels_left l.context.now + (3 + command_weight (checked.command l.step.now) + command_weight (checked.command l.body.now))

abbrev pub decreases-statement::run_step : goal.decreases-statement::run_step
decreases-statement::run_step l = levels_left l.context.now + (1 + command_weight (checked.command l.step.now))

abbrev pub decreases-statement::repeat_after : goal.decreases-statement::repeat_after
decreases-statement::repeat_after l = levels_left l.context.now + (6 + value_weight (checked.value l.test.now) + command_weight (checked.command l.step.now) + command_weight (checked.command l.body.now))

-- the whole is what was found in front of what is to come
abbrev pub invariant-expression::evaluate_all-loop-argument : goal.invariant-expression::evaluate_all-loop-argument
invariant-expression::evaluate_all-loop-argument l =
    all_evaluated (deeper l.context) (checked.arguments l.arguments) (world l.initial.progress) ≡ front (given_of l.given) (all_evaluated (deeper l.context) (checked.arguments (drop l.argument-index l.arguments)) (world l.progress))

-- what is to come is the whole
abbrev pub invariant-statement::execute_all-loop-command : goal.invariant-statement::execute_all-loop-command
invariant-statement::execute_all-loop-command l =
    all_executed (deeper l.context) l.context.bound (checked.commands l.commands) (world l.initial.progress) ≡ all_executed (deeper l.context) l.context.bound (checked.commands (drop l.command-index l.commands)) (world l.progress)

-- the turns that are left are the whole
abbrev pub invariant-statement::repeat-loop : goal.invariant-statement::repeat-loop
invariant-statement::repeat-loop l =
    let test = full_expression (deeper l.context) (checked.value l.test) in
    let body = executed (deeper l.context) l.context.bound (checked.command l.body) in
    let step = executed (deeper l.context) l.context.bound (checked.command l.step) in
    turns l.most test step body (world l.initial.progress) ≡ turns (l.most - l.counter) test step body (world l.progress)

-- the temporaries that are left are the whole
abbrev pub invariant-call::drop_temporaries-loop-object : goal.invariant-call::drop_temporaries-loop-object
invariant-call::drop_temporaries-loop-object l = all_dropped (deeper l.context) (world l.initial.progress) ≡ all_dropped (deeper l.context) (world l.progress)

abbrev pub decreases-call::drop_temporaries-loop-object : goal.decreases-call::drop_temporaries-loop-object
decreases-call::drop_temporaries-loop-object l = vec_len l.progress.frame.temporaries

-- the variables that are left are the whole
abbrev pub invariant-call::drop_variables-loop-offset : goal.invariant-call::drop_variables-loop-offset
invariant-call::drop_variables-loop-offset l = variables_dropped (deeper l.context) l.first l.count (world l.initial.progress) ≡ variables_dropped (deeper l.context) l.first l.offset (world l.progress)

-- the deallocs from the next class up are the whole
abbrev pub invariant-call::run_deallocs-loop-passed : goal.invariant-call::run_deallocs-loop-passed
invariant-call::run_deallocs-loop-passed l =
    let program = program_of l.context.program.now in
    deallocs_run program (deeper l.context) l.context.bound (ancestry (superclasses program.classes) l.fn.class) l.object (world l.initial.progress)
    ≡ deallocs_run program (deeper l.context) l.context.bound (ancestry_within (length l.context.program.now.classes.items - l._passed) (superclasses program.classes) l.next) l.object (world l.progress)

-- the fields that are left are the whole
abbrev pub invariant-call::drop_fields-loop-index : goal.invariant-call::drop_fields-loop-index
invariant-call::drop_fields-loop-index l =
    fields_dropped (deeper l.context) l.order l.object (world l.initial.progress) ≡ fields_dropped (deeper l.context) (drop l.index-index l.order) l.object (world l.progress)
