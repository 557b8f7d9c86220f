use Rattle.std.proofs.Common.{rules, arith, option_map, false, suc, length, map, take, Some, vec_len, to_z, of_z, w64, ◌∷◌, ◌++◌, [], refl, ◌≡◌, ◌-◌, ◌<◌, ◌≤◌, Err, sym, subst, ap, ◌∙◌}
use Rattle.std.proofs.lemmas.Grind.{common_steps}
use Rattle.std.proofs.lemmas.Int.{to_z-of_z}
use Rattle.std.proofs.lemmas.Bool.{ltb-true, ltb-false}
use Rattle.std.proofs.lemmas.Result.{err_from_is_err_and}
use Rattle.arc_checked.specs.Checked as checked
use Rattle.arc_spec.specs.declared.class.Gives.TheVariants as gives
use Rattle.arc_spec.specs.Classes.{same_gives, classes_of, superclasses, ancestry, field_order}
use Rattle.arc_spec.specs.Number.{is_zero}
use Rattle.arc_spec.proofs.Ancestry.{all_classes}
use Rattle.arc_checked.specs.Checked.{program_of}
use Rattle.arc_spec.specs.Meaning.{referred, released, updated, given_by, field_set, evaluated, full_expression, all_evaluated, all_executed, executed, turns, looped, called, function_at, all_dropped, variables_dropped, class_in, deallocs_run, dying, emptied, gone, level}
use Rattle.arc_spec.specs.Resolved.{Update, UpdateField, SetObjectField, Function, no_arguments}
use Rattle.arc_spec.specs.Objects.{object_at}
use Rattle.arc_spec.specs.World.{World, Outcome, Done, then_do, Finished, name_at, takes}
use Rattle.arc_plain.specs.Views.{world, given_of, answer_of, invoked, sent_to, Reports, deeper, flow_of, nothing_of, object_of, function_of, left_at, object_field_replaced}
use Rattle.arc_plain.proofs.CallsAndEndsReported.{call_reported, body_failed, drop_failed, nothing_reported, function_there, function_unwanted, function_absent, temporary_step, temporaries_fewer, no_temporary, variable_step, variable_failed, layer_done, layer_failed, emptied_is}
use Rattle.arc_plain.proofs.FramesKept.{level_steady}
use Rattle.arc_checked.proofs.NodeParts.{is_print, is_invoked, is_sent, is_object_invoked, is_object_sent, is_sequence}
use Rattle.arc_plain.proofs.LoopsAndFailures.{value_reported, command_reported, with_numbers, with_named, is_number, is_object, number_step, object_step, test_failed, turns_step, turns_left, turn_failed, first_step, first_left, first_failed, call_is, end_is, level_classes, finds_through}
use Rattle.arc_plain.proofs.CallResultsReported.{number_invoked, number_sent, object_invoked, object_sent, number_reported, number_failed, object_reported, object_failed}
use Rattle.arc_plain.proofs.UpdateOutcomes.{variable_stored, field_stored, variable_updated, field_updated, field_named}
use Rattle.arc_plain.proofs.TerminationMeasure.{print_lighter, call_lighter, sent_lighter, object_call_lighter, object_sent_lighter, sequence_lighter, number_lighter, object_lighter, receiver_counts, command_in, commands_weight, level_lighter, body_lighter}
use Rattle.arc_plain.specs.declared.progress.Progress.{Progress}
use Rattle.arc_plain.proofs.+running.Goals.{expression::evaluate_all-in-Number+in_ok-number-in-Number+in_ok-push-in-Number, expression::evaluate_all-in-Object+in_ok-object-in-Object+in_ok-push-in-Object}
use Rattle.arc_plain.proofs.+running.Goals as goal

pub expression::evaluate-returns-in-Print : goal.expression::evaluate-returns-in-Print
expression::evaluate-returns-in-Print t c =
    value_reported (deeper c.args.context.now) c.args.value.now _ c.evaluate_print.result (world c.args.progress.now) (world c.evaluate_print.new.progress)
    (is_print c.args.value.now c.in-Print.pieces c.in-Print.arguments c.deref.result.now c.deref-in-Print.result.now c.in-Print.is c.deref.ensures.value c.deref-in-Print.ensures.value) c.evaluate_print.ensures

pub expression::evaluate-returns-in_ok-answered-in-Call : goal.expression::evaluate-returns-in_ok-answered-in-Call
expression::evaluate-returns-in_ok-answered-in-Call t c =
    let D = deeper c.args.context.now in
    let all = checked.arguments c.deref-in-Call.result.now in
    let w = world c.args.progress.now in
    let a = c.in_ok-answered-in-Call.answered in
    let n = to_z w64 (of_z w64 a.number) in
    let same : n ≡ a.number = grind (arith, to_z-of_z) in
    number_reported (evaluated D (checked.value c.args.value.now) w) (invoked D gives.Number c.in-Call.function all w) a n (world c.invoke.new.progress)
    (number_invoked D c.args.value.now c.in-Call.function all w (is_invoked c.args.value.now c.in-Call.function c.in-Call.arguments c.deref-in-Call.result.now c.in-Call.is c.deref-in-Call.ensures.value))
    c.in_ok-answered-in-Call.ensures same

pub expression::evaluate-returns-in_err-answered-in-Call : goal.expression::evaluate-returns-in_err-answered-in-Call
expression::evaluate-returns-in_err-answered-in-Call t c =
    let D = deeper c.args.context.now in
    let all = checked.arguments c.deref-in-Call.result.now in
    let w = world c.args.progress.now in
    let p = err_from_is_err_and c.from_residual-in_err-answered-in-Call.result c.from_residual-in_err-answered-in-Call.ensures.1 in
    number_failed (evaluated D (checked.value c.args.value.now) w) (invoked D gives.Number c.in-Call.function all w) c.in_err-answered-in-Call.field-0.0 c.from_residual-in_err-answered-in-Call.result (world c.invoke.new.progress)
    (number_invoked D c.args.value.now c.in-Call.function all w (is_invoked c.args.value.now c.in-Call.function c.in-Call.arguments c.deref-in-Call.result.now c.in-Call.is c.deref-in-Call.ensures.value))
    (p.1 ∙ ap Err p.2) c.in_err-answered-in-Call.ensures

pub expression::evaluate-returns-in_ok-answered-in-Send : goal.expression::evaluate-returns-in_ok-answered-in-Send
expression::evaluate-returns-in_ok-answered-in-Send t c =
    let D = deeper c.args.context.now in
    let receiver = checked.receiver c.deref-in-Send.result.now in
    let all = checked.arguments c.deref-in-Send-2.result.now in
    let w = world c.args.progress.now in
    let a = c.in_ok-answered-in-Send.answered in
    let n = to_z w64 (of_z w64 a.number) in
    let same : n ≡ a.number = grind (arith, to_z-of_z) in
    number_reported (evaluated D (checked.value c.args.value.now) w) (sent_to D gives.Number receiver c.in-Send.selector all w) a n (world c.send.new.progress)
    (number_sent D c.args.value.now receiver c.in-Send.selector all w (is_sent c.args.value.now c.in-Send.receiver c.in-Send.selector c.in-Send.arguments c.deref-in-Send.result.now c.deref-in-Send-2.result.now c.in-Send.is c.deref-in-Send.ensures c.deref-in-Send-2.ensures.value))
    c.in_ok-answered-in-Send.ensures same

pub expression::evaluate-returns-in_err-answered-in-Send : goal.expression::evaluate-returns-in_err-answered-in-Send
expression::evaluate-returns-in_err-answered-in-Send t c =
    let D = deeper c.args.context.now in
    let receiver = checked.receiver c.deref-in-Send.result.now in
    let all = checked.arguments c.deref-in-Send-2.result.now in
    let w = world c.args.progress.now in
    let p = err_from_is_err_and c.from_residual-in_err-answered-in-Send.result c.from_residual-in_err-answered-in-Send.ensures.1 in
    number_failed (evaluated D (checked.value c.args.value.now) w) (sent_to D gives.Number receiver c.in-Send.selector all w) c.in_err-answered-in-Send.field-0.0 c.from_residual-in_err-answered-in-Send.result (world c.send.new.progress)
    (number_sent D c.args.value.now receiver c.in-Send.selector all w (is_sent c.args.value.now c.in-Send.receiver c.in-Send.selector c.in-Send.arguments c.deref-in-Send.result.now c.deref-in-Send-2.result.now c.in-Send.is c.deref-in-Send.ensures c.deref-in-Send-2.ensures.value))
    (p.1 ∙ ap Err p.2) c.in_err-answered-in-Send.ensures

pub expression::refer-invoke-requires : goal.expression::refer-invoke-requires
expression::refer-invoke-requires t c =
    (omega (arith, object_call_lighter c.args.reference.now c.in-ObjectCall.function c.in-ObjectCall.arguments c.deref-in-ObjectCall.result.now c.in-ObjectCall.is c.deref-in-ObjectCall.ensures.value, c.decreases), tt)

pub expression::refer-send-requires : goal.expression::refer-send-requires
expression::refer-send-requires t c =
    (omega (arith, object_sent_lighter c.args.reference.now c.in-ObjectSend.receiver c.in-ObjectSend.selector c.in-ObjectSend.arguments c.deref-in-ObjectSend.result.now c.deref-in-ObjectSend-2.result.now c.in-ObjectSend.is c.deref-in-ObjectSend.ensures c.deref-in-ObjectSend-2.ensures.value, c.decreases), tt)

pub expression::refer-returns-in_ok-answered-in-ObjectCall : goal.expression::refer-returns-in_ok-answered-in-ObjectCall
expression::refer-returns-in_ok-answered-in-ObjectCall t c =
    let D = deeper c.args.context.now in
    let all = checked.arguments c.deref-in-ObjectCall.result.now in
    let w = world c.args.progress.now in
    object_reported (referred D (checked.reference c.args.reference.now) w) (invoked D gives.Object c.in-ObjectCall.function all w) c.in_ok-answered-in-ObjectCall.answered c.take-in-ObjectCall.result (world c.invoke.new.progress) (world c.take-in-ObjectCall.new.progress)
    (object_invoked D c.args.reference.now c.in-ObjectCall.function all w (is_object_invoked c.args.reference.now c.in-ObjectCall.function c.in-ObjectCall.arguments c.deref-in-ObjectCall.result.now c.in-ObjectCall.is c.deref-in-ObjectCall.ensures.value))
    c.in_ok-answered-in-ObjectCall.ensures c.take-in-ObjectCall.ensures

pub expression::refer-returns-in_err-answered-in-ObjectCall : goal.expression::refer-returns-in_err-answered-in-ObjectCall
expression::refer-returns-in_err-answered-in-ObjectCall t c =
    let D = deeper c.args.context.now in
    let all = checked.arguments c.deref-in-ObjectCall.result.now in
    let w = world c.args.progress.now in
    let p = err_from_is_err_and c.from_residual-in_err-answered-in-ObjectCall.result c.from_residual-in_err-answered-in-ObjectCall.ensures.1 in
    object_failed (referred D (checked.reference c.args.reference.now) w) (invoked D gives.Object c.in-ObjectCall.function all w) c.in_err-answered-in-ObjectCall.field-0.0 c.from_residual-in_err-answered-in-ObjectCall.result (world c.invoke.new.progress)
    (object_invoked D c.args.reference.now c.in-ObjectCall.function all w (is_object_invoked c.args.reference.now c.in-ObjectCall.function c.in-ObjectCall.arguments c.deref-in-ObjectCall.result.now c.in-ObjectCall.is c.deref-in-ObjectCall.ensures.value))
    (p.1 ∙ ap Err p.2) c.in_err-answered-in-ObjectCall.ensures

pub expression::refer-returns-in_ok-answered-in-ObjectSend : goal.expression::refer-returns-in_ok-answered-in-ObjectSend
expression::refer-returns-in_ok-answered-in-ObjectSend t c =
    let D = deeper c.args.context.now in
    let receiver = checked.receiver c.deref-in-ObjectSend.result.now in
    let all = checked.arguments c.deref-in-ObjectSend-2.result.now in
    let w = world c.args.progress.now in
    object_reported (referred D (checked.reference c.args.reference.now) w) (sent_to D gives.Object receiver c.in-ObjectSend.selector all w) c.in_ok-answered-in-ObjectSend.answered c.take-in-ObjectSend.result (world c.send.new.progress) (world c.take-in-ObjectSend.new.progress)
    (object_sent D c.args.reference.now receiver c.in-ObjectSend.selector all w (is_object_sent c.args.reference.now c.in-ObjectSend.receiver c.in-ObjectSend.selector c.in-ObjectSend.arguments c.deref-in-ObjectSend.result.now c.deref-in-ObjectSend-2.result.now c.in-ObjectSend.is c.deref-in-ObjectSend.ensures c.deref-in-ObjectSend-2.ensures.value))
    c.in_ok-answered-in-ObjectSend.ensures c.take-in-ObjectSend.ensures

pub expression::refer-returns-in_err-answered-in-ObjectSend : goal.expression::refer-returns-in_err-answered-in-ObjectSend
expression::refer-returns-in_err-answered-in-ObjectSend t c =
    let D = deeper c.args.context.now in
    let receiver = checked.receiver c.deref-in-ObjectSend.result.now in
    let all = checked.arguments c.deref-in-ObjectSend-2.result.now in
    let w = world c.args.progress.now in
    let p = err_from_is_err_and c.from_residual-in_err-answered-in-ObjectSend.result c.from_residual-in_err-answered-in-ObjectSend.ensures.1 in
    object_failed (referred D (checked.reference c.args.reference.now) w) (sent_to D gives.Object receiver c.in-ObjectSend.selector all w) c.in_err-answered-in-ObjectSend.field-0.0 c.from_residual-in_err-answered-in-ObjectSend.result (world c.send.new.progress)
    (object_sent D c.args.reference.now receiver c.in-ObjectSend.selector all w (is_object_sent c.args.reference.now c.in-ObjectSend.receiver c.in-ObjectSend.selector c.in-ObjectSend.arguments c.deref-in-ObjectSend.result.now c.deref-in-ObjectSend-2.result.now c.in-ObjectSend.is c.deref-in-ObjectSend.ensures c.deref-in-ObjectSend-2.ensures.value))
    (p.1 ∙ ap Err p.2) c.in_err-answered-in-ObjectSend.ensures

pub expression::update_variable-returns-in_err-new : goal.expression::update_variable-returns-in_err-new
expression::update_variable-returns-in_err-new t c =
    let D = deeper c.args.context.now in
    let u = c.args.update in
    let w = world c.args.progress.now in
    let between = world c.evaluate.new.progress in
    let old = to_z w64 (of_z w64 c.held-old.result) in
    let right = to_z w64 (of_z w64 c.in_ok-right.right) in
    let olds : old ≡ c.held-old.result = grind (arith, to_z-of_z) in
    let rights : right ≡ c.in_ok-right.right = grind (arith, to_z-of_z) in
    let meant = variable_updated D u.moment u.operator u.computed u.kept c.args.location (checked.value c.args.operand.now) c.held-old.result c.in_ok-right.right old right w between olds rights c.held-old.ensures c.in_ok-right.ensures in
    let p = err_from_is_err_and c.from_residual-in_err-new.result c.from_residual-in_err-new.ensures.1 in
    subst (λ r. Reports (λ n. n) r (evaluated D (Update u.moment c.args.location u.operator u.computed u.kept (checked.value c.args.operand.now)) w) between) (sym (p.1 ∙ ap Err p.2))
    (finds_through c.in_err-new.field-0.0 (λ n. n) (λ n. n) between (variable_stored D u.moment u.operator u.computed u.kept c.args.location old) (updated u.operator u.computed u.kept old right between) _ meant (c.in_err-new.ensures between))

pub expression::update_variable-returns : goal.expression::update_variable-returns
expression::update_variable-returns t c =
    let D = deeper c.args.context.now in
    let u = c.args.update in
    let w = world c.args.progress.now in
    let between = world c.evaluate.new.progress in
    let old = to_z w64 (of_z w64 c.held-old.result) in
    let right = to_z w64 (of_z w64 c.in_ok-right.right) in
    let olds : old ≡ c.held-old.result = grind (arith, to_z-of_z) in
    let rights : right ≡ c.in_ok-right.right = grind (arith, to_z-of_z) in
    let meant = variable_updated D u.moment u.operator u.computed u.kept c.args.location (checked.value c.args.operand.now) c.held-old.result c.in_ok-right.right old right w between olds rights c.held-old.ensures c.in_ok-right.ensures in
    let new = to_z w64 (of_z w64 c.in_ok-new.new) in
    let news : new ≡ c.in_ok-new.new = grind (arith, to_z-of_z) in
    let given = to_z w64 (of_z w64 c.given_by.result) in
    let gives : given ≡ c.given_by.result = grind (arith, to_z-of_z) in
    let stored = variable_stored D u.moment u.operator u.computed u.kept c.args.location old in
    meant
    ∙ ap (λ o. then_do o stored) (c.in_ok-new.ensures between)
    ∙ ap (λ n. stored n between) (sym news)
    ∙ ap (Done (given_by u.moment old new)) (sym c.assign.ensures)
    ∙ ap (λ n. Done n (world c.assign.new.progress)) (sym (gives ∙ c.given_by.ensures))

pub expression::update_field-returns-in_err-new : goal.expression::update_field-returns-in_err-new
expression::update_field-returns-in_err-new t c =
    let D = deeper c.args.context.now in
    let u = c.args.update in
    let w = world c.args.progress.now in
    let between = world c.evaluate.new.progress in
    let found = world c.refer.new.progress in
    let r = c.in_ok-number.number in
    let old = to_z w64 (of_z w64 c.in_ok-old.old) in
    let right = to_z w64 (of_z w64 c.in_ok-right.right) in
    let olds : old ≡ c.in_ok-old.old = grind (arith, to_z-of_z) in
    let rights : right ≡ c.in_ok-right.right = grind (arith, to_z-of_z) in
    let meant = field_updated D u.moment u.operator u.computed u.kept c.args.class c.args.index (checked.reference c.args.object.now) (checked.value c.args.operand.now) r c.in_ok-old.old c.in_ok-right.right old right w found between olds rights c.in_ok-number.ensures c.in_ok-old.ensures c.in_ok-right.ensures in
    let p = err_from_is_err_and c.from_residual-in_err-new.result c.from_residual-in_err-new.ensures.1 in
    subst (λ x. Reports (λ n. n) x (evaluated D (UpdateField u.moment (checked.reference c.args.object.now) c.args.class c.args.index u.operator u.computed u.kept (checked.value c.args.operand.now)) w) between) (sym (p.1 ∙ ap Err p.2))
    (finds_through c.in_err-new.field-0.0 (λ n. n) (λ n. n) between (field_stored D u.moment u.operator u.computed u.kept r c.args.class c.args.index old) (updated u.operator u.computed u.kept old right between) _ meant (c.in_err-new.ensures between))

pub expression::update_field-returns-in_err-set_field : goal.expression::update_field-returns-in_err-set_field
expression::update_field-returns-in_err-set_field t c =
    let D = deeper c.args.context.now in
    let u = c.args.update in
    let w = world c.args.progress.now in
    let between = world c.evaluate.new.progress in
    let found = world c.refer.new.progress in
    let r = c.in_ok-number.number in
    let old = to_z w64 (of_z w64 c.in_ok-old.old) in
    let right = to_z w64 (of_z w64 c.in_ok-right.right) in
    let olds : old ≡ c.in_ok-old.old = grind (arith, to_z-of_z) in
    let rights : right ≡ c.in_ok-right.right = grind (arith, to_z-of_z) in
    let meant = field_updated D u.moment u.operator u.computed u.kept c.args.class c.args.index (checked.reference c.args.object.now) (checked.value c.args.operand.now) r c.in_ok-old.old c.in_ok-right.right old right w found between olds rights c.in_ok-number.ensures c.in_ok-old.ensures c.in_ok-right.ensures in
    let new = to_z w64 (of_z w64 c.in_ok-new.new) in
    let news : new ≡ c.in_ok-new.new = grind (arith, to_z-of_z) in
    let stored = field_stored D u.moment u.operator u.computed u.kept r c.args.class c.args.index old in
    let p = err_from_is_err_and c.from_residual-in_err-set_field.result c.from_residual-in_err-set_field.ensures.1 in
    let after = world c.set_field.new.progress in
    subst (λ x. Reports (λ n. n) x (evaluated D (UpdateField u.moment (checked.reference c.args.object.now) c.args.class c.args.index u.operator u.computed u.kept (checked.value c.args.operand.now)) w) after) (sym (p.1 ∙ ap Err p.2))
    (finds_through c.in_err-set_field.field-0.0 (λ n. n) (λ n. n) after (λ _ w1. Done (given_by u.moment old new) w1) (field_set D r c.args.class c.args.index new between) _
    (meant ∙ ap (λ o. then_do o stored) (c.in_ok-new.ensures between) ∙ ap (λ n. stored n between) (sym news)) c.in_err-set_field.ensures)

pub expression::update_field-returns : goal.expression::update_field-returns
expression::update_field-returns t c =
    let D = deeper c.args.context.now in
    let u = c.args.update in
    let w = world c.args.progress.now in
    let between = world c.evaluate.new.progress in
    let found = world c.refer.new.progress in
    let r = c.in_ok-number.number in
    let old = to_z w64 (of_z w64 c.in_ok-old.old) in
    let right = to_z w64 (of_z w64 c.in_ok-right.right) in
    let olds : old ≡ c.in_ok-old.old = grind (arith, to_z-of_z) in
    let rights : right ≡ c.in_ok-right.right = grind (arith, to_z-of_z) in
    let meant = field_updated D u.moment u.operator u.computed u.kept c.args.class c.args.index (checked.reference c.args.object.now) (checked.value c.args.operand.now) r c.in_ok-old.old c.in_ok-right.right old right w found between olds rights c.in_ok-number.ensures c.in_ok-old.ensures c.in_ok-right.ensures in
    let new = to_z w64 (of_z w64 c.in_ok-new.new) in
    let news : new ≡ c.in_ok-new.new = grind (arith, to_z-of_z) in
    let given = to_z w64 (of_z w64 c.given_by.result) in
    let gives : given ≡ c.given_by.result = grind (arith, to_z-of_z) in
    let stored = field_stored D u.moment u.operator u.computed u.kept r c.args.class c.args.index old in
    meant
    ∙ ap (λ o. then_do o stored) (c.in_ok-new.ensures between)
    ∙ ap (λ n. stored n between) (sym news)
    ∙ ap (λ o. then_do o (λ _ w1. Done (given_by u.moment old new) w1)) c.in_ok-set_field.ensures
    ∙ ap (λ n. Done n (world c.set_field.new.progress)) (sym (gives ∙ c.given_by.ensures))

pub statement::execute-returns-in-Sequence : goal.statement::execute-returns-in-Sequence
statement::execute-returns-in-Sequence t c =
    command_reported (deeper c.args.context.now) c.args.context.now.bound c.args.command.now _ c.execute_block.result (world c.args.progress.now) (world c.execute_block.new.progress)
    (is_sequence c.args.command.now c.in-Sequence.first c.in-Sequence.names c.in-Sequence.commands c.deref.result.now c.in-Sequence.is c.deref.ensures.value) c.execute_block.ensures

pub statement::execute-execute_block-requires : goal.statement::execute-execute_block-requires
statement::execute-execute_block-requires t c =
    (omega (arith, sequence_lighter c.args.command.now c.in-Sequence.first c.in-Sequence.names c.in-Sequence.commands c.deref.result.now c.in-Sequence.is c.deref.ensures.value, c.decreases), tt)

pub expression::evaluate-evaluate_print-requires : goal.expression::evaluate-evaluate_print-requires
expression::evaluate-evaluate_print-requires t c =
    (omega (arith, print_lighter c.args.value.now c.in-Print.pieces c.in-Print.arguments c.deref.result.now c.deref-in-Print.result.now c.in-Print.is c.deref.ensures.value c.deref-in-Print.ensures.value, c.decreases), tt)

pub expression::evaluate-invoke-requires : goal.expression::evaluate-invoke-requires
expression::evaluate-invoke-requires t c =
    (omega (arith, call_lighter c.args.value.now c.in-Call.function c.in-Call.arguments c.deref-in-Call.result.now c.in-Call.is c.deref-in-Call.ensures.value, c.decreases), tt)

pub expression::evaluate-send-requires : goal.expression::evaluate-send-requires
expression::evaluate-send-requires t c =
    (omega (arith, sent_lighter c.args.value.now c.in-Send.receiver c.in-Send.selector c.in-Send.arguments c.deref-in-Send.result.now c.deref-in-Send-2.result.now c.in-Send.is c.deref-in-Send.ensures c.deref-in-Send-2.ensures.value, c.decreases), tt)

pub statement::execute_all-execute-requires : goal.statement::execute_all-execute-requires
statement::execute_all-execute-requires t c =
    (omega (arith, command_in c.args.commands.now c.loop-command.command-index c.command-item.result c.loop-command-test.true c.command-item.is, c.decreases), tt)

pub statement::repeat-loop-preserved : goal.statement::repeat-loop-preserved
statement::repeat-loop-preserved t c =
    let bound = c.args.most in
    let run = executed (deeper c.args.context.now) c.args.context.now.bound in
    let test = full_expression (deeper c.args.context.now) (checked.value c.args.test.now) in
    let step = run (checked.command c.args.step.now) in
    let body = run (checked.command c.args.body.now) in
    let same : to_z w64 (of_z w64 c.in_ok-number.number) ≡ c.in_ok-number.number = grind (arith, to_z-of_z) in
    turns_step bound c.loop.counter test step body (turns bound test step body (world c.args.progress.now)) c.in_ok-number.number
    (world c.loop.progress) (world c.evaluate_whole.new.progress) (world c.turn.new.progress)
    c.loop-test.true c.loop.invariant c.in_ok-number.ensures (ap is_zero (sym same) ∙ sym c.is_zero.ensures ∙ c.if-is_zero.false) (search rules)

pub statement::repeat-returns-in-Some : goal.statement::repeat-returns-in-Some
statement::repeat-returns-in-Some t c =
    let bound = c.args.most in
    let run = executed (deeper c.args.context.now) c.args.context.now.bound in
    let test = full_expression (deeper c.args.context.now) (checked.value c.args.test.now) in
    let step = run (checked.command c.args.step.now) in
    let body = run (checked.command c.args.body.now) in
    let same : to_z w64 (of_z w64 c.in_ok-number.number) ≡ c.in_ok-number.number = grind (arith, to_z-of_z) in
    turns_left bound c.loop.counter test step body (turns bound test step body (world c.args.progress.now)) c.in_ok-number.number (flow_of c.in-Some.flow)
    (world c.loop.progress) (world c.evaluate_whole.new.progress) (world c.turn.new.progress)
    c.loop-test.true c.loop.invariant c.in_ok-number.ensures (ap is_zero (sym same) ∙ sym c.is_zero.ensures ∙ c.if-is_zero.false) (search rules)

pub statement::repeat-returns-in_err-number : goal.statement::repeat-returns-in_err-number
statement::repeat-returns-in_err-number t c =
    let bound = c.args.most in
    let run = executed (deeper c.args.context.now) c.args.context.now.bound in
    let test = full_expression (deeper c.args.context.now) (checked.value c.args.test.now) in
    let step = run (checked.command c.args.step.now) in
    let body = run (checked.command c.args.body.now) in
    let p = err_from_is_err_and c.from_residual.result c.from_residual.ensures.1 in
    test_failed (λ n. n) (bound - c.loop.counter) test step body (turns bound test step body (world c.args.progress.now)) c.in_err-number.field-0.0 c.from_residual.result
    (world c.loop.progress) (world c.evaluate_whole.new.progress) c.loop.invariant (p.1 ∙ ap Err p.2) c.in_err-number.ensures

pub statement::repeat-returns-in_err-flow : goal.statement::repeat-returns-in_err-flow
statement::repeat-returns-in_err-flow t c =
    let bound = c.args.most in
    let run = executed (deeper c.args.context.now) c.args.context.now.bound in
    let test = full_expression (deeper c.args.context.now) (checked.value c.args.test.now) in
    let step = run (checked.command c.args.step.now) in
    let body = run (checked.command c.args.body.now) in
    let same : to_z w64 (of_z w64 c.in_ok-number.number) ≡ c.in_ok-number.number = grind (arith, to_z-of_z) in
    let p = err_from_is_err_and c.from_residual-in_err-flow.result c.from_residual-in_err-flow.ensures.1 in
    turn_failed (option_map flow_of) bound c.loop.counter test step body (turns bound test step body (world c.args.progress.now)) c.in_ok-number.number
    c.in_err-flow.field-0.0 c.from_residual-in_err-flow.result (world c.loop.progress) (world c.evaluate_whole.new.progress) (world c.turn.new.progress)
    c.loop-test.true c.loop.invariant c.in_ok-number.ensures (ap is_zero (sym same) ∙ sym c.is_zero.ensures ∙ c.if-is_zero.false) (p.1 ∙ ap Err p.2) c.in_err-flow.ensures

pub call::call-returns : goal.call::call-returns
call::call-returns t c =
    let context = c.args.context.now in
    let one : context.levels ≡ suc (context.levels - 1) = omega (arith, c.if-context-eq0.false) in
    subst (λ o. Reports answer_of c.enter.result o (world c.enter.new.progress))
    (sym (call_is (program_of context.program.now) context.bound context.levels (context.levels - 1) c.args.wanted c.args.function c.args.itself (given_of c.args.given.now) (world c.args.progress.now) one)) c.enter.ensures

pub call::call-enter-requires : goal.call::call-enter-requires
call::call-enter-requires t c =
    let context = c.args.context.now in
    let one : context.levels ≡ suc (context.levels - 1) = omega (arith, c.if-context-eq0.false) in
    (omega (arith, level_lighter context (record { program = context.program; bound = context.bound; levels = context.levels - 1 }) one refl, c.decreases), tt)

pub call::drop_temporaries-loop-object-preserved : goal.call::drop_temporaries-loop-object-preserved
call::drop_temporaries-loop-object-preserved t c =
    let context = c.args.context.now in
    let D = deeper context in
    temporary_step D (level_steady (program_of context.program.now) context.bound context.levels) (all_dropped D (world c.args.progress.now)) c.in-Some.object
    (world c.loop-object.progress) (world c.drop_last.new.progress) (world c.release.new.progress)
    c.loop-object.invariant c.in-Some.ensures.last c.in-Some.ensures.others c.in_ok-release.ensures

pub call::drop_temporaries-loop-object-smaller : goal.call::drop_temporaries-loop-object-smaller
call::drop_temporaries-loop-object-smaller t c =
    let context = c.args.context.now in
    let before = c.loop-object.progress.frame.temporaries in
    let now = c.release.new.progress.frame.temporaries in
    let fewer : length now.items < length before.items =
    temporaries_fewer (deeper context) (level_steady (program_of context.program.now) context.bound context.levels) c.in-Some.object
    (world c.loop-object.progress) (world c.drop_last.new.progress) (world c.release.new.progress) before.items now.items
    c.in-Some.ensures.last c.in_ok-release.ensures refl refl in
    let less : vec_len now < vec_len before = omega (arith, fewer, before.ok.0, now.ok.0) in
    less

pub call::drop_temporaries-returns : goal.call::drop_temporaries-returns
call::drop_temporaries-returns t c =
    let D = deeper c.args.context.now in
    let none = c.in_default.ensures.last in
    no_temporary D (all_dropped D (world c.args.progress.now)) (world c.loop-object.progress) (world c.drop_last.new.progress) c.loop-object.invariant none.0 c.in_default.ensures.others (none.1 ∙ sym none.0)

pub call::drop_variables-loop-offset-preserved : goal.call::drop_variables-loop-offset-preserved
call::drop_variables-loop-offset-preserved t c =
    let D = deeper c.args.context.now in
    let n = c.loop-offset.offset in
    variable_step D (variables_dropped D c.args.first c.args.count (world c.args.progress.now)) c.args.first n (n - 1) c.clear-before.result
    (world c.loop-offset.progress) (world c.clear-before.new.progress) (world c.release.new.progress)
    (omega (arith, c.loop-offset-test.true)) c.loop-offset.invariant c.clear-before.ensures.before c.clear-before.ensures.after c.in_ok-release.ensures

pub call::drop_variables-returns-in_err-release : goal.call::drop_variables-returns-in_err-release
call::drop_variables-returns-in_err-release t c =
    let D = deeper c.args.context.now in
    let n = c.loop-offset.offset in
    let p = err_from_is_err_and c.from_residual.result c.from_residual.ensures.1 in
    variable_failed D (variables_dropped D c.args.first c.args.count (world c.args.progress.now)) c.args.first n (n - 1) c.clear-before.result
    (world c.loop-offset.progress) (world c.clear-before.new.progress) (world c.release.new.progress) nothing_of nothing_of c.in_err-release.field-0.0 c.from_residual.result
    (omega (arith, c.loop-offset-test.true)) c.loop-offset.invariant c.clear-before.ensures.before c.clear-before.ensures.after (p.1 ∙ ap Err p.2) c.in_err-release.ensures

pub call::enter-returns-in_default : goal.call::enter-returns-in_default
call::enter-returns-in_default t c =
    let context = c.args.context.now in
    let all = c.deref.result.now in
    let past : length all ≤ c.args.function = ltb-false c.args.function (length all) (sym c.in_default.ensures.lookup.0) in
    nothing_reported (deeper context) context.bound c.args.itself c.args.wanted (given_of c.args.given.now) (world c.args.progress.now) (function_at (program_of context.program.now) c.args.wanted c.args.function) (answer_of c.object_given.result)
    (function_absent context all c.args.wanted c.args.function c.deref.ensures.value past) c.object_given.ensures

pub call::enter-returns-then-not-is_giving : goal.call::enter-returns-then-not-is_giving
call::enter-returns-then-not-is_giving t c =
    let context = c.args.context.now in
    let all = c.deref.result.now in
    let below : c.args.function < length all = ltb-true c.args.function (length all) (sym c.in-Some.ensures.lookup.0) in
    let other : same_gives c.in-Some.entered.now.gives c.args.wanted ≡ false = sym c.is_giving.ensures ∙ c.if-not-is_giving.true in
    nothing_reported (deeper context) context.bound c.args.itself c.args.wanted (given_of c.args.given.now) (world c.args.progress.now) (function_at (program_of context.program.now) c.args.wanted c.args.function) (answer_of c.object_given-then-not-is_giving.result)
    (function_unwanted context all c.args.wanted c.args.function c.deref.ensures.value c.in-Some.entered.now below c.in-Some.ensures.lookup.1 other) c.object_given-then-not-is_giving.ensures

pub call::enter-execute_all-requires : goal.call::enter-execute_all-requires
call::enter-execute_all-requires t c =
    let all = c.deref.result.now in
    let below : c.args.function < length all = ltb-true c.args.function (length all) (sym c.in-Some.ensures.lookup.0) in
    let least = body_lighter c.args.context.now all c.args.function c.in-Some.entered.now c.deref.ensures.value below c.in-Some.ensures.lookup.1 in
    let body = ap (λ l. commands_weight (checked.commands l)) c.deref-2.ensures.value in
    (omega (arith, least, body, c.decreases), tt)

pub call::enter-returns-in_err-flow : goal.call::enter-returns-in_err-flow
call::enter-returns-in_err-flow t c =
    let context = c.args.context.now in
    let P = program_of context.program.now in
    let D = deeper context in
    let f = c.in-Some.entered.now in
    let all = c.deref.result.now in
    let w0 = world c.args.progress.now in
    let w1 = world c.push_frame.new.progress in
    let after = world c.execute_all.new.progress in
    let below : c.args.function < length all = ltb-true c.args.function (length all) (sym c.in-Some.ensures.lookup.0) in
    let found : function_at P c.args.wanted c.args.function ≡ function_of f =
    function_there context all c.args.wanted c.args.function c.deref.ensures.value f below c.in-Some.ensures.lookup.1 (sym c.is_giving.ensures ∙ c.if-not-is_giving.false) in
    let p = err_from_is_err_and c.from_residual-in_err-flow.result c.from_residual-in_err-flow.ensures.1 in
    let body : Reports flow_of (Err c.in_err-flow.field-0.0) (all_executed D context.bound (checked.commands f.body.items) w1) after =
    subst (λ l. Reports flow_of (Err c.in_err-flow.field-0.0) (all_executed D context.bound (checked.commands l) w1) after) c.deref-2.ensures.value c.in_err-flow.ensures in
    subst (λ (g : Function). Reports answer_of c.from_residual-in_err-flow.result (called D context.bound g c.args.itself (given_of c.args.given.now) w0) after) (sym found)
    (body_failed D (level_steady P context.bound context.levels) context.bound (function_of f) c.args.itself (given_of c.args.given.now) w0 w1 c.in_ok-kept.ensures.world
    flow_of c.in_err-flow.field-0.0 c.from_residual-in_err-flow.result after (p.1 ∙ ap Err p.2) body)

pub call::enter-returns-in_err-drop_variables : goal.call::enter-returns-in_err-drop_variables
call::enter-returns-in_err-drop_variables t c =
    let context = c.args.context.now in
    let P = program_of context.program.now in
    let D = deeper context in
    let f = c.in-Some.entered.now in
    let all = c.deref.result.now in
    let w0 = world c.args.progress.now in
    let w1 = world c.push_frame.new.progress in
    let w2 = world c.execute_all.new.progress in
    let after = world c.drop_variables.new.progress in
    let below : c.args.function < length all = ltb-true c.args.function (length all) (sym c.in-Some.ensures.lookup.0) in
    let found : function_at P c.args.wanted c.args.function ≡ function_of f =
    function_there context all c.args.wanted c.args.function c.deref.ensures.value f below c.in-Some.ensures.lookup.1 (sym c.is_giving.ensures ∙ c.if-not-is_giving.false) in
    let p = err_from_is_err_and c.from_residual-in_err-drop_variables.result c.from_residual-in_err-drop_variables.ensures.1 in
    let body : all_executed D context.bound (checked.commands f.body.items) w1 ≡ Done (flow_of c.in_ok-flow.flow) w2 =
    ap (λ l. all_executed D context.bound (checked.commands l) w1) (sym c.deref-2.ensures.value) ∙ c.in_ok-flow.ensures in
    subst (λ (g : Function). Reports answer_of c.from_residual-in_err-drop_variables.result (called D context.bound g c.args.itself (given_of c.args.given.now) w0) after) (sym found)
    (drop_failed D (level_steady P context.bound context.levels) context.bound (function_of f) c.args.itself (given_of c.args.given.now) w0 w1 c.in_ok-kept.ensures.world
    nothing_of (flow_of c.in_ok-flow.flow) w2 c.in_err-drop_variables.field-0.0 c.from_residual-in_err-drop_variables.result after body (p.1 ∙ ap Err p.2) c.in_err-drop_variables.ensures)

pub call::enter-returns : goal.call::enter-returns
call::enter-returns t c =
    let context = c.args.context.now in
    let P = program_of context.program.now in
    let D = deeper context in
    let f = c.in-Some.entered.now in
    let all = c.deref.result.now in
    let w0 = world c.args.progress.now in
    let w1 = world c.push_frame.new.progress in
    let w2 = world c.execute_all.new.progress in
    let w3 = world c.drop_variables.new.progress in
    let w4 = world c.pop_frame.new.progress in
    let old = c.args.progress.now.waiting in
    let begun = c.push_frame.new.progress.waiting.items in
    let last = c.drop_variables.new.progress.waiting.items in
    let number = to_z w64 (of_z w64 c.number_of.result) in
    let same : number ≡ c.number_of.result = grind (arith, to_z-of_z) in
    let below : c.args.function < length all = ltb-true c.args.function (length all) (sym c.in-Some.ensures.lookup.0) in
    let found : function_at P c.args.wanted c.args.function ≡ function_of f =
    function_there context all c.args.wanted c.args.function c.deref.ensures.value f below c.in-Some.ensures.lookup.1 (sym c.is_giving.ensures ∙ c.if-not-is_giving.false) in
    let body : all_executed D context.bound (checked.commands f.body.items) w1 ≡ Done (flow_of c.in_ok-flow.flow) w2 =
    ap (λ l. all_executed D context.bound (checked.commands l) w1) (sym c.deref-2.ensures.value) ∙ c.in_ok-flow.ensures in
    let count : c.len-waiting.result ≡ length old.items = c.len-waiting.ensures ∙ old.ok.0 in
    let kept : take c.len-waiting.result begun ≡ old.items = ap (λ n. take n begun) count ∙ c.in_ok-kept.ensures.below in
    let leaves : w4 ≡ left_at w0.frame (take c.len-waiting.result last) w3 = c.pop_frame.ensures ∙ ap (λ x. left_at x (take c.len-waiting.result last) w3) c.in_ok-kept.ensures.kept in
    let object = c.name_at-object.result in
    let names : object ≡ name_at w3.frame.strong f.names = c.name_at-object.ensures ∙ ap (λ l. name_at l f.names) c.deref-3.ensures.value in
    subst (λ (g : Function). called D context.bound g c.args.itself (given_of c.args.given.now) w0 ≡ Done (record { number = number; object = object }) w4) (sym found)
    (call_reported D (level_steady P context.bound context.levels) context.bound (function_of f) c.args.itself (given_of c.args.given.now) w0 w1 c.in_ok-kept.ensures.world
    w2 w3 w4 (flow_of c.in_ok-flow.flow) number object c.len-waiting.result old.items begun last body c.in_ok-drop_variables.ensures refl refl refl kept leaves (same ∙ c.number_of.ensures) names)

pub call::end-returns-in_err-run_deallocs : goal.call::end-returns-in_err-run_deallocs
call::end-returns-in_err-run_deallocs t c =
    let context = c.args.context.now in
    let P = program_of context.program.now in
    let w = world c.args.progress.now in
    let w1 = world c.begin_end.new.progress in
    let class = c.class_of-class.result in
    let o = c.args.object in
    let n = context.levels - 1 in
    let one : context.levels ≡ suc n = omega (arith, c.if-context-eq0.false) in
    let known : class ≡ class_in (object_at w.objects o) = c.class_of-class.ensures ∙ ap (λ l. class_in (object_at (map object_of l) o)) c.deref.ensures.value in
    let p = err_from_is_err_and c.from_residual-in_err-run_deallocs.result c.from_residual-in_err-run_deallocs.ensures.1 in
    let full_expression = (deeper context).end_of o w in
    let rest : Finished → World → Outcome Finished = λ _ w2. then_do (emptied (level P context.bound n) o (object_at w2.objects o) w2) (λ _ w3. gone o w3) in
    let after = world c.run_deallocs.new.progress in
    let meant : full_expression ≡ then_do (deallocs_run P (level P context.bound n) context.bound (ancestry (superclasses P.classes) class) o w1) rest =
    end_is P context.bound context.levels n o w one
    ∙ ap (λ x. then_do (deallocs_run P (level P context.bound n) context.bound (ancestry (superclasses P.classes) x) o (dying o (object_at w.objects o) w)) rest) (sym known)
    ∙ ap (λ v. then_do (deallocs_run P (level P context.bound n) context.bound (ancestry (superclasses P.classes) class) o v) rest) (sym c.in_ok-begin_end.ensures) in
    subst (λ r. Reports nothing_of r full_expression after) (sym (p.1 ∙ ap Err p.2))
    (finds_through c.in_err-run_deallocs.field-0.0 nothing_of nothing_of after rest (deallocs_run P (level P context.bound n) context.bound (ancestry (superclasses P.classes) class) o w1) full_expression meant c.in_err-run_deallocs.ensures)

pub call::run_deallocs-loop-passed-init : goal.call::run_deallocs-loop-passed-init
call::run_deallocs-loop-passed-init t c =
    let context = c.args.context.now in
    let P = program_of context.program.now in
    ap (λ classes. deallocs_run P (deeper context) context.bound classes c.args.object (world c.args.progress.now)) (all_classes context.program.now.classes.items c.args.class)

pub call::run_deallocs-returns-in_default : goal.call::run_deallocs-returns-in_default
call::run_deallocs-returns-in_default t c =
    let context = c.args.context.now in
    c.loop-passed.invariant ∙ c.in_default.ensures (deeper context) context.bound (length context.program.now.classes.items - c.loop-passed._passed) c.args.object (world c.loop-passed.progress)

pub call::run_deallocs-loop-passed-preserved : goal.call::run_deallocs-loop-passed-preserved
call::run_deallocs-loop-passed-preserved t c =
    let context = c.args.context.now in
    let P = program_of context.program.now in
    let D = deeper context in
    let all = context.program.now.classes.items in
    let i = c.loop-passed._passed in
    let layer = c.in-Some.layer in
    let w = world c.loop-passed.progress in
    let below : i < length all = omega (arith, c.loop-passed-test.true, c.len-passed-end.ensures, context.program.now.classes.ok.0) in
    layer_done P D context.bound (deallocs_run P D context.bound (ancestry (superclasses P.classes) c.args.class) c.args.object (world c.args.progress.now)) (length all) i c.args.object c.loop-passed.next layer.0 layer.1 w (world c.run_dealloc.new.progress)
    below c.loop-passed.invariant (λ n. c.in-Some.ensures D context.bound n c.args.object w) c.in_ok-run_dealloc.ensures

pub call::run_deallocs-returns-in_err-run_dealloc : goal.call::run_deallocs-returns-in_err-run_dealloc
call::run_deallocs-returns-in_err-run_dealloc t c =
    let context = c.args.context.now in
    let P = program_of context.program.now in
    let D = deeper context in
    let all = context.program.now.classes.items in
    let i = c.loop-passed._passed in
    let layer = c.in-Some.layer in
    let w = world c.loop-passed.progress in
    let below : i < length all = omega (arith, c.loop-passed-test.true, c.len-passed-end.ensures, context.program.now.classes.ok.0) in
    let p = err_from_is_err_and c.from_residual.result c.from_residual.ensures.1 in
    layer_failed P D context.bound (deallocs_run P D context.bound (ancestry (superclasses P.classes) c.args.class) c.args.object (world c.args.progress.now)) (length all) i c.args.object c.loop-passed.next layer.0 layer.1 w (world c.run_dealloc.new.progress)
    nothing_of nothing_of c.in_err-run_dealloc.field-0.0 c.from_residual.result
    below c.loop-passed.invariant (λ n. c.in-Some.ensures D context.bound n c.args.object w) (p.1 ∙ ap Err p.2) c.in_err-run_dealloc.ensures

pub call::empty-returns : goal.call::empty-returns
call::empty-returns t c =
    let context = c.args.context.now in
    let P = program_of context.program.now in
    let o = c.args.object in
    let w = world c.args.progress.now in
    let class = c.in-Some.class in
    let known : Some class ≡ class_in (object_at w.objects o) = sym c.in-Some.is ∙ (c.class_of.ensures ∙ ap (λ l. class_in (object_at (map object_of l) o)) c.deref.ensures.value) in
    let meant = emptied_is (deeper context) (classes_of context.program.now.classes.items) o class (object_at w.objects o) c.deref-3.result.now w (world c.begin_emptying.new.progress)
    (level_classes P context.bound context.levels) known (c.deref-3.ensures.value ∙ c.in_ok-order.ensures ∙ ap (λ l. field_order (classes_of l) class) c.deref-2.ensures.value) c.begin_emptying.ensures in
    subst (λ x. Reports nothing_of c.drop_fields.result x (world c.drop_fields.new.progress)) (sym meant) c.drop_fields.ensures

pub expression::evaluate_all-evaluate-requires : goal.expression::evaluate_all-evaluate-requires
expression::evaluate_all-evaluate-requires t c =
    let kind = is_number c.argument-item.result c.in-Number.value c.deref.result.now c.in-Number.is c.deref.ensures in
    (omega (arith, number_lighter c.args.arguments.now c.loop-argument.argument-index c.argument-item.result (checked.value c.deref.result.now) c.loop-argument-test.true c.argument-item.is (kind no_arguments), c.decreases), tt)

pub expression::evaluate_all-refer-requires : goal.expression::evaluate_all-refer-requires
expression::evaluate_all-refer-requires t c =
    let kind = is_object c.argument-item.result c.in-Object.reference c.deref-in-Object.result.now c.in-Object.is c.deref-in-Object.ensures in
    (omega (arith, object_lighter c.args.arguments.now c.loop-argument.argument-index c.argument-item.result (checked.reference c.deref-in-Object.result.now) c.loop-argument-test.true c.argument-item.is (kind no_arguments), c.decreases), tt)

pub expression::evaluate_all-loop-argument-preserved : goal.expression::evaluate_all-loop-argument-preserved
expression::evaluate_all-loop-argument-preserved t c =
    let D = deeper c.args.context.now in
    let vs = c.args.arguments.now in
    let i = c.loop-argument.argument-index in
    let v = c.argument-item.result in
    let found = given_of c.loop-argument.given in
    let more = given_of c.match-argument.given in
    let full_expression = all_evaluated D (checked.arguments vs) (world c.args.progress.now) in
    let before = world c.loop-argument.progress in
    let after = world c.match-argument.progress in
    elim c.match-argument.branch [
      | expression::evaluate_all-in-Number+in_ok-number-in-Number+in_ok-push-in-Number w ↦
          let n = w.in_ok-number-in-Number.number in
          let same : to_z w64 (of_z w64 n) ≡ n = grind (arith, to_z-of_z) in
          number_step D vs i v (checked.value w.deref.result.now) found more n full_expression before after c.loop-argument-test.true c.argument-item.is
          (is_number v w.in-Number.value w.deref.result.now w.in-Number.is w.deref.ensures) c.loop-argument.invariant
          (w.in_ok-number-in-Number.ensures ∙ ap (λ (p : Progress). Done n (world p)) (sym w.progress-is))
          (ap given_of w.given-is ∙ ap (λ l. with_numbers found l) (w.in_ok-push-in-Number.ensures.items ∙ ap (λ x. found.numbers ++ x ∷ []) same))
      | expression::evaluate_all-in-Object+in_ok-object-in-Object+in_ok-push-in-Object w ↦
          let r = w.in_ok-object-in-Object.object in
          object_step D vs i v (checked.reference w.deref-in-Object.result.now) found more r full_expression before after c.loop-argument-test.true c.argument-item.is
          (is_object v w.in-Object.reference w.deref-in-Object.result.now w.in-Object.is w.deref-in-Object.ensures) c.loop-argument.invariant
          (w.in_ok-object-in-Object.ensures ∙ ap (λ (p : Progress). Done r (world p)) (sym w.progress-is))
          (ap given_of w.given-is ∙ ap (λ l. with_named found l) w.in_ok-push-in-Object.ensures.items)
    ]

pub expression::store_field-returns-in_err-replaced : goal.expression::store_field-returns-in_err-replaced
expression::store_field-returns-in_err-replaced t c =
    let D = deeper c.args.context.now in
    let a = checked.reference c.args.object.now in
    let b = checked.reference c.args.operand.now in
    let r = c.in_ok-number.number in
    let named = c.in_ok-named.named in
    let w = world c.args.progress.now in
    let between = world c.refer-2.new.progress in
    let after = world c.replace_object_field.new.progress in
    let e = c.in_err-replaced.field-0.0 in
    let replaced = object_field_replaced D r c.args.class c.args.index named between in
    let drop : Outcome Finished = then_do replaced (λ old w1. released D old w1) in
    let meant = field_named D c.args.class c.args.index a b r named w (world c.refer.new.progress) between c.in_ok-number.ensures c.in_ok-named.ensures in
    let p = err_from_is_err_and c.from_residual-in_err-replaced.result c.from_residual-in_err-replaced.ensures.1 in
    let part : Reports nothing_of (Err e) drop after = finds_through e (λ n. n) nothing_of after (λ old w1. released D old w1) replaced drop refl c.in_err-replaced.ensures in
    subst (λ x. Reports (λ n. n) x (referred D (SetObjectField a c.args.class c.args.index b) w) after) (sym (p.1 ∙ ap Err p.2))
    (finds_through e nothing_of (λ n. n) after (λ _ w1. Done named (takes named w1)) drop _ meant part)

pub expression::store_field-returns-in_err-release : goal.expression::store_field-returns-in_err-release
expression::store_field-returns-in_err-release t c =
    let D = deeper c.args.context.now in
    let a = checked.reference c.args.object.now in
    let b = checked.reference c.args.operand.now in
    let r = c.in_ok-number.number in
    let named = c.in_ok-named.named in
    let w = world c.args.progress.now in
    let between = world c.refer-2.new.progress in
    let stored = world c.replace_object_field.new.progress in
    let after = world c.release.new.progress in
    let e = c.in_err-release.field-0.0 in
    let taken : Finished → World → Outcome _ = λ _ w1. Done named (takes named w1) in
    let meant : referred D (SetObjectField a c.args.class c.args.index b) w ≡ then_do (released D c.in_ok-replaced.replaced stored) taken =
    field_named D c.args.class c.args.index a b r named w (world c.refer.new.progress) between c.in_ok-number.ensures c.in_ok-named.ensures
    ∙ ap (λ o. then_do (then_do o (λ old w1. released D old w1)) taken) c.in_ok-replaced.ensures in
    let p = err_from_is_err_and c.from_residual-in_err-release.result c.from_residual-in_err-release.ensures.1 in
    subst (λ x. Reports (λ n. n) x (referred D (SetObjectField a c.args.class c.args.index b) w) after) (sym (p.1 ∙ ap Err p.2))
    (finds_through e nothing_of (λ n. n) after taken (released D c.in_ok-replaced.replaced stored) _ meant c.in_err-release.ensures)

pub expression::store_field-returns : goal.expression::store_field-returns
expression::store_field-returns t c =
    let D = deeper c.args.context.now in
    let a = checked.reference c.args.object.now in
    let b = checked.reference c.args.operand.now in
    let r = c.in_ok-number.number in
    let named = c.in_ok-named.named in
    let w = world c.args.progress.now in
    let between = world c.refer-2.new.progress in
    let taken : Finished → World → Outcome _ = λ _ w1. Done named (takes named w1) in
    let meant : referred D (SetObjectField a c.args.class c.args.index b) w ≡ Done named (takes named (world c.release.new.progress)) =
    field_named D c.args.class c.args.index a b r named w (world c.refer.new.progress) between c.in_ok-number.ensures c.in_ok-named.ensures
    ∙ ap (λ o. then_do (then_do o (λ old w1. released D old w1)) taken) c.in_ok-replaced.ensures
    ∙ ap (λ o. then_do o taken) c.in_ok-release.ensures in
    subst (λ x. Reports (λ n. n) c.take.result x (world c.take.new.progress)) (sym meant) c.take.ensures

pub sending::send-send_to-requires : goal.sending::send-send_to-requires
sending::send-send_to-requires t c = (omega (arith, receiver_counts (checked.receiver c.args.receiver.now), c.decreases), tt)

pub statement::execute_all-returns : goal.statement::execute_all-returns
statement::execute_all-returns c = grind (arith, common_steps)

pub call::drop_fields-returns-in_err-release : goal.call::drop_fields-returns-in_err-release
call::drop_fields-returns-in_err-release c = grind (arith, common_steps)

pub statement::execute_all-returns-in_default : goal.statement::execute_all-returns-in_default
statement::execute_all-returns-in_default c = grind (arith, common_steps)

pub expression::evaluate_all-returns-in_err-object-in-Object : goal.expression::evaluate_all-returns-in_err-object-in-Object
expression::evaluate_all-returns-in_err-object-in-Object c = grind (arith, common_steps)

pub call::drop_fields-loop-index-preserved : goal.call::drop_fields-loop-index-preserved
call::drop_fields-loop-index-preserved c = grind (arith, common_steps)

pub statement::execute_all-loop-command-preserved : goal.statement::execute_all-loop-command-preserved
statement::execute_all-loop-command-preserved c = grind (arith, common_steps)

pub expression::evaluate_all-returns : goal.expression::evaluate_all-returns
expression::evaluate_all-returns c = grind (arith, common_steps)

pub statement::execute_all-returns-in_err-flow : goal.statement::execute_all-returns-in_err-flow
statement::execute_all-returns-in_err-flow c = grind (arith, common_steps)

pub expression::evaluate_all-returns-in_err-number-in-Number : goal.expression::evaluate_all-returns-in_err-number-in-Number
expression::evaluate_all-returns-in_err-number-in-Number c = grind (arith, common_steps)
