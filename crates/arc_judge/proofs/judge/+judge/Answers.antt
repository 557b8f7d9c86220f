use Rattle.std.proofs.Common.{◌≡◌, ◌<◌, ◌&&◌, false, length, Some, is_none, refl, sym, ap, subst, ◌∙◌, option_map, arith}
use Rattle.std.proofs.lemmas.Grind.{common_steps}
use Rattle.arc_ast.specs.Tree.{expr_tree, expr_trees, type_tree, place}
use Rattle.arc_ast.specs.Types.{type_kind}
use Rattle.arc_class.specs.BrokenRules.{first, earlier_of}
use Rattle.arc_class.specs.Table.{number_of_class}
use Rattle.arc_judge.specs.Fault.{reported}
use Rattle.arc_scope.specs.Formats.{wanted}
use Rattle.arc_scope.specs.declared.callee.Callee.TheVariants.{Printf}
use Rattle.arc_judge.specs.private.ExpressionJudgements.{Judges, JudgesCall, counted}
use Rattle.arc_scope.specs.ParameterKinds.{receiver_sign}
use Rattle.arc_judge.specs.Rules.{place_if, broken_arguments, kind_if, no_such}
use Rattle.arc_scope.specs.Kinds.{is_object}
use Rattle.arc_scope.specs.Scopes.{either_class, is_nil}
use Rattle.arc_scope.specs.Views.{kinds_wanted, seen}
use Rattle.arc_judge.proofs.ExpressionViolations.{judges_call, judges_send, judges_super, judges_unary, judges_cast, judges_arrow, judges_message, judges_super_message, judges_binary, judges_choice, judges_assign, judges_update, judges_other, fit_turn, fault_turn, taken_turn}
use Rattle.arc_judge.proofs.judge.+judge.Goals as goal
use Rattle.arc_judge.proofs.judge.+judge.Goals.{judge_arguments-then-reported, judge_arguments-else-reported}

pub judge-returns-in-Itself : goal.judge-returns-in-Itself
judge-returns-in-Itself t c = rw c.in-Itself.is (c.judge_itself.ensures c.args.table.now)

pub judge-returns-in-Paren : goal.judge-returns-in-Paren
judge-returns-in-Paren t c =
    let s = seen c.args.table.now c.args.visible.now in
    let h : Judges s c.args.before (expr_tree c.in-Paren.inside.value) c.judge.result = rw c.deref.ensures at c.judge.ensures in
    rw c.in-Paren.is (record { kind = h.kind; class = h.class; fault = h.fault; taken = h.taken; unread = h.unread })

pub judge-returns-in-Unary : goal.judge-returns-in-Unary
judge-returns-in-Unary t c = rw c.in-Unary.is (rw c.deref-in-Unary.ensures at (c.judge_unary.ensures c.in-Unary.field-0))

pub judge-returns-in-Cast : goal.judge-returns-in-Cast
judge-returns-in-Cast t c = rw c.in-Cast.is (rw c.deref-in-Cast.ensures at (c.judge_cast.ensures c.in-Cast.field-0))

pub judge-returns-in-Arrow : goal.judge-returns-in-Arrow
judge-returns-in-Arrow t c = rw c.in-Arrow.is (rw (c.deref-in-Arrow.ensures, c.deref-in-Arrow-2.ensures.value) at (c.judge_arrow.ensures c.in-Arrow.field-0))

pub judge-returns-in-Assign : goal.judge-returns-in-Assign
judge-returns-in-Assign t c = rw c.in-Assign.is (rw (c.deref-in-Assign.ensures, c.deref-in-Assign-2.ensures) at (c.judge_assignment.ensures c.in-Assign.field-0))

pub judge-returns-in-Update : goal.judge-returns-in-Update
judge-returns-in-Update t c = rw c.in-Update.is (rw (c.deref-in-Update.ensures, c.deref-in-Update-2.ensures) at (c.judge_update.ensures c.in-Update.field-0 c.in-Update.field-2 c.in-Update.field-3))

pub judge-returns-in-Call : goal.judge-returns-in-Call
judge-returns-in-Call t c =
    judges_call (seen c.args.table.now c.args.visible.now) c.args.before c.args.expr.now c.in-Call.at c.in-Call.name c.in-Call.arguments c.deref-in-Call.result.now c.deref-in-Call-2.result.now c.judge_call.result c.in-Call.is c.deref-in-Call.ensures.value c.deref-in-Call-2.ensures.value c.judge_call.ensures

pub judge-returns-in-Send : goal.judge-returns-in-Send
judge-returns-in-Send t c =
    judges_send (seen c.args.table.now c.args.visible.now) c.args.before c.args.expr.now c.in-Send.field-0 c.in-Send.part c.in-Send.receiver c.deref-in-Send.result.now c.in-Send.selector c.in-Send.arguments c.deref-in-Send-2.result.now c.deref-in-Send-3.result.now c.judge_send.result c.in-Send.is
    c.deref-in-Send.ensures c.deref-in-Send-2.ensures.value c.deref-in-Send-3.ensures.value c.judge_send.ensures

pub judge-returns-in-SendSuper : goal.judge-returns-in-SendSuper
judge-returns-in-SendSuper t c =
    judges_super (seen c.args.table.now c.args.visible.now) c.args.before c.args.expr.now c.in-SendSuper.field-0 c.in-SendSuper.part c.in-SendSuper.at c.in-SendSuper.selector c.in-SendSuper.arguments c.deref-in-SendSuper.result.now c.deref-in-SendSuper-2.result.now c.judge_super.result c.in-SendSuper.is
    c.deref-in-SendSuper.ensures.value c.deref-in-SendSuper-2.ensures.value c.judge_super.ensures

pub judge-returns-in-Binary : goal.judge-returns-in-Binary
judge-returns-in-Binary t c =
    let s = seen c.args.table.now c.args.visible.now in
    let a = expr_tree c.in-Binary.left.value in
    let b = expr_tree c.in-Binary.right.value in
    let one = c.judge-first.result in
    let two = c.judge-second.result in
    let left : Judges s c.args.before a one = rw c.deref-in-Binary.ensures at c.judge-first.ensures in
    let right : Judges s one.taken b two = rw c.deref-in-Binary-2.ensures at c.judge-second.ensures in
    let here : c.place.result ≡ place a = c.place.ensures ∙ ap (λ e. place (expr_tree e)) c.deref-in-Binary-3.ensures in
    let there : c.place-in-Binary.result ≡ place b = c.place-in-Binary.ensures ∙ ap (λ e. place (expr_tree e)) c.deref-in-Binary-4.ensures in
    rw c.in-Binary.is (judges_binary s c.args.before _ _ a b one two c.combined.result c.place.result c.place-in-Binary.result left right here there c.combined.ensures.kind c.combined.ensures.class c.combined.ensures.fault c.combined.ensures.taken)

pub judge-returns-in-Conditional : goal.judge-returns-in-Conditional
judge-returns-in-Conditional t c = rw c.in-Conditional.is (rw (c.deref-in-Conditional.ensures, c.deref-in-Conditional-2.ensures, c.deref-in-Conditional-3.ensures) at (c.judge_choice.ensures c.in-Conditional.field-0))

pub judge_choice-returns : goal.judge_choice-returns
judge_choice-returns t c = λ at.
    let a = expr_tree c.args.first.now in
    let b = expr_tree c.args.second.now in
    let one = option_map number_of_class c.judge-one.result.class in
    let other = option_map number_of_class c.judge-other.result.class in
    judges_choice (seen c.args.table.now c.args.visible.now) c.args.before at (expr_tree c.args.test.now) a b c.judge-by_test.result c.judge-one.result c.judge-other.result c.chosen.result c.place.result c.place-2.result c.place-3.result c.judge-by_test.ensures c.judge-one.ensures c.judge-other.ensures
    c.place.ensures c.place-2.ensures c.place-3.ensures c.chosen.ensures.kind
    (ap (option_map number_of_class) c.chosen.ensures.class ∙ c.either_class-class.ensures ∙ ap (λ p. either_class p c.is_nil-2.result one other) c.is_nil.ensures ∙ ap (λ p. either_class (is_nil a) p one other) c.is_nil-2.ensures) c.chosen.ensures.fault c.chosen.ensures.taken

pub judge_unary-returns : goal.judge_unary-returns
judge_unary-returns t c = λ at.
    judges_unary (seen c.args.table.now c.args.visible.now) c.args.before at c.args.operator (expr_tree c.args.operand.now) c.judge-judged.result c.number.result c.place.result c.judge-judged.ensures c.place.ensures (ap (λ j. j.kind) c.number.ensures ∙ c.unary_kind.ensures) (ap (λ j. j.class) c.number.ensures)
    (ap (λ j. option_map reported j.fault) c.number.ensures ∙ c.earlier.ensures ∙ ap (earlier_of (option_map reported c.judge-judged.result.fault)) c.no_operand.ensures) (ap (λ j. j.taken) c.number.ensures)

pub judge_cast-returns : goal.judge_cast-returns
judge_cast-returns t c = λ at.
    let type = type_tree c.args.type_name.now in
    let same : Some c.kind.result ≡ Some (type_kind type) = ap Some c.kind.ensures in
    judges_cast (seen c.args.table.now c.args.visible.now) c.args.before at type (expr_tree c.args.operand.now) c.judge-judged.result
    (record { kind = Some c.kind.result; class = c.static_class.result; fault = c.earlier.result; taken = c.judge-judged.result.taken; unread = c.judge-judged.result.taken }) c.place.result c.judge-judged.ensures c.place.ensures same c.static_class.ensures
    (c.earlier.ensures ∙ ap (earlier_of (option_map reported c.judge-judged.result.fault)) (c.no_such.ensures ∙ ap (λ k. first (no_such k c.judge-judged.result.kind c.place.result)) same)) refl

pub judge_arrow-returns : goal.judge_arrow-returns
judge_arrow-returns t c = λ at.
    judges_arrow (seen c.args.table.now c.args.visible.now) c.args.before at c.args.name_at (expr_tree c.args.base.now) c.args.name.now c.judge-judged.result c.field_of.result c.place.result c.field-found.result c.judge-judged.ensures c.place.ensures c.field-found.ensures
    c.field_of.ensures.kind c.field_of.ensures.class c.field_of.ensures.fault c.field_of.ensures.taken c.field_of.ensures.unread

pub judge_assignment-returns : goal.judge_assignment-returns
judge_assignment-returns t c = λ at.
    judges_assign (seen c.args.table.now c.args.visible.now) c.args.before c.taken_by_left-between.result at c.args.sign (expr_tree c.args.left.now) (expr_tree c.args.right.now) c.is_assignable-is_assignable.result c.judge-first.result c.judge-second.result c.assigned.result c.place.result c.judge-first.ensures
    c.taken_by_left-between.ensures c.judge-second.ensures c.is_assignable-is_assignable.ensures c.place.ensures c.assigned.ensures.kind c.assigned.ensures.class c.assigned.ensures.fault c.assigned.ensures.taken

pub judge_update-returns : goal.judge_update-returns
judge_update-returns t c = λ at moment operator.
    judges_update (seen c.args.table.now c.args.visible.now) c.args.before at c.args.sign moment operator (expr_tree c.args.left.now) (expr_tree c.args.right.now) c.is_updatable-is_updatable.result c.judge-first.result c.judge-second.result c.updated.result c.place.result c.judge-first.ensures c.judge-second.ensures
    (c.is_updatable-is_updatable.ensures c.args.table.now) c.place.ensures c.updated.ensures.kind c.updated.ensures.class c.updated.ensures.fault c.updated.ensures.taken

pub judge_send-returns : goal.judge_send-returns
judge_send-returns t c = λ at.
    let visible = c.args.visible.now in
    let s = seen c.args.table.now visible in
    let args = expr_trees c.args.arguments.now in
    let passed = c.judge_arguments-passed.result in
    let fault : option_map reported passed.fault ≡ first (broken_arguments s (Some (s.known.passed (receiver_sign (option_map number_of_class c.class_receiver-class.result)) c.args.selector.now)) false args) =
    c.judge_arguments-passed.ensures.fault ∙ ap (λ ks. first (broken_arguments s (Some ks) false args)) (c.parameters_passed.ensures ∙ ap (λ g. s.known.passed g c.args.selector.now) c.receiver_sign.ensures) in
    judges_message s c.args.before c.one_if-between.result at c.args.part (expr_tree c.args.receiver.now) c.args.selector.now args (option_map number_of_class c.class_receiver-class.result) c.judge-judged.result
    (record { kind = c.message_kind-kind.result; class = c.sent_class.result; fault = c.earlier-2.result; taken = passed.taken; unread = passed.taken }) passed c.place.result (option_map reported c.receiver_fault-own.result) (option_map reported c.method_fault-unknown.result)
    c.class_receiver-class.ensures c.judge-judged.ensures c.place.ensures (c.message_kind-kind.ensures visible) (c.receiver_fault-own.ensures) (c.method_fault-unknown.ensures c.args.table.now visible c.args.selector.now (c.message_kind-kind.ensures visible))
    (c.one_if-between.ensures ∙ ap (λ b. counted c.judge-judged.result.taken (place_if b c.args.part)) c.is_object.ensures) fault c.judge_arguments-passed.ensures.taken c.sent_class.ensures (c.earlier-2.ensures ∙ ap (λ o. earlier_of o (option_map reported passed.fault)) c.earlier.ensures) refl

pub judge_super-returns : goal.judge_super-returns
judge_super-returns t c = λ at.
    let s = seen c.args.table.now c.args.visible.now in
    let args = expr_trees c.args.arguments.now in
    let passed = c.judge_arguments-passed.result in
    let fault : option_map reported passed.fault ≡ first (broken_arguments s (Some (s.known.passed s.sign c.args.selector.now)) false args) =
    c.judge_arguments-passed.ensures.fault ∙ ap (λ ks. first (broken_arguments s (Some ks) false args)) c.parameters_passed.ensures in
    judges_super_message s c.args.before c.taken_by_super-between.result at c.args.part c.args.super_at c.args.selector.now args
    (record { kind = c.super_kind-kind.result; class = c.super_class.result; fault = c.earlier.result; taken = passed.taken; unread = passed.taken }) passed (option_map reported c.unknown_method.result) c.super_kind-kind.ensures c.super_class.ensures
    c.unknown_method.ensures (c.taken_by_super-between.ensures c.args.table.now) fault c.judge_arguments-passed.ensures.taken c.earlier.ensures refl

pub judge_call-returns-in-Printf : goal.judge_call-returns-in-Printf
judge_call-returns-in-Printf t c =
    let s = seen c.args.table.now c.args.visible.now in
    let kinds = s.known.parameters c.args.name.now in
    let class = ap (option_map number_of_class) c.function_class-class.ensures in
    rw (sym c.callee_of-callee.ensures, c.in-Printf.is) (subst (λ given. JudgesCall s c.args.before c.args.at Printf given kinds (expr_trees c.args.arguments.now) c.judge_print.result) class (c.judge_print.ensures kinds))

pub judge_call-returns-in_default : goal.judge_call-returns-in_default
judge_call-returns-in_default t c =
    let s = seen c.args.table.now c.args.visible.now in
    let all = expr_trees c.args.arguments.now in
    let fault : option_map reported c.judge_arguments-inside.result.fault ≡ first (broken_arguments s (Some (s.known.parameters c.args.name.now)) false all) =
    c.judge_arguments-inside.ensures.fault ∙ ap (λ ks. first (broken_arguments s (Some ks) false all)) c.parameters.ensures in
    rw (sym c.callee_of-callee.ensures) (judges_other s c.args.before c.one_if-between.result c.args.at c.callee_of-callee.result (s.known.function_class c.args.name.now) (s.known.parameters c.args.name.now) c.args.arguments.now c.call_fault-own.result c.judge_arguments-inside.result c.called.result
    c.in_default.not-Printf c.call_fault-own.ensures (c.called.ensures.kind ∙ c.call_kind-kind.ensures ∙ ap (kind_if (is_none c.call_fault-own.result)) c.result_kind.ensures) (ap (option_map number_of_class) (c.called.ensures.class ∙ c.function_class.ensures)) c.called.ensures.fault
    (c.one_if-between.ensures ∙ ap (λ b. counted c.args.before (place_if b c.args.at)) (c.is_object.ensures ∙ ap is_object (sym c.called.ensures.kind))) c.called.ensures.taken fault c.judge_arguments-inside.ensures.taken)

pub judge_arguments-loop-argument-preserved : goal.judge_arguments-loop-argument-preserved
judge_arguments-loop-argument-preserved t c =
    let s = seen c.args.table.now c.args.visible.now in
    let xs = c.args.arguments.now in
    let i = c.loop-argument.argument-index in
    let x = c.argument-item.result in
    let l : i < length xs = c.loop-argument-test.true in
    let now : c.if-reported.reported ≡ (c.loop-argument.reported.fit && c.take_conversion-fit.result.0) = elim c.if-reported.branch [ judge_arguments-then-reported w ↦ rw (w.reported-is, w.if-reported.true) refl | judge_arguments-else-reported w ↦ rw (w.reported-is, w.if-reported.false) refl ] in
    record {
      fit = fit_turn s xs i x c.judge_argument-judged.result.kind (wanted c.loop-argument.rest.now) (wanted c.take_conversion-fit.result.1.now) c.loop-argument.reported.fit c.take_conversion-fit.result.0 c.if-reported.reported _ l c.argument-item.is c.judge_argument-judged.ensures.kind
          c.take_conversion-fit.ensures c.loop-argument.invariant.fit now;
      taken = taken_turn s xs i x c.loop-argument.reported.taken c.judge_argument-judged.result.taken _ l c.argument-item.is c.judge_argument-judged.ensures.taken c.loop-argument.invariant.taken;
      fault = fault_turn s (kinds_wanted c.loop-argument.parameters) c.first_wanted-wanted.result (kinds_wanted c.after_first-parameters.result) xs i x (option_map reported c.loop-argument.reported.fault) (option_map reported c.judge_argument-judged.result.fault) (option_map reported c.earlier.result) _ l c.argument-item.is c.first_wanted-wanted.ensures c.after_first-parameters.ensures c.judge_argument-judged.ensures.fault c.earlier.ensures c.loop-argument.invariant.fault;
    }

pub judge_arguments-returns : goal.judge_arguments-returns
judge_arguments-returns c = grind (arith, common_steps)
