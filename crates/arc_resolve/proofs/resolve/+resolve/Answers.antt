use Rattle.std.proofs.Common.{Some, option_map, refl, sym, ap, ◌∙◌}
use Rattle.std.specs.Option.{unwrap_or}
use Rattle.std.proofs.lemmas.Result.{IfOk-weaker}
use Rattle.arc_class.specs.Table.{number_of_class}
use Rattle.arc_ast.specs.declared.tree.Kind.TheVariants.{Int}
use Rattle.arc_scope.specs.declared.callee.Callee.TheVariants.{Printf, GetChar, Defined, Unknown}
use Rattle.arc_resolve.specs.declared.resolution.Typed.{Typed}
use Rattle.arc_resolve.specs.private.ResolvedNodes.{part_of, resolution}
use Rattle.arc_scope.specs.ParameterKinds as passing
use Rattle.arc_checked.specs.Checked as checked
use Rattle.arc_ast.specs.Tree.{expr_tree, expr_trees, type_tree}
use Rattle.arc_ast.specs.Operators.{sort_of}
use Rattle.arc_ast.specs.Types.{type_kind}
use Rattle.arc_resolve.specs.SourceResolution as resolving
use Rattle.arc_resolve.specs.SourceResolution.{Gives, unary, binary, updated, cast, conditional, invoked, resolved, resolved_all}
use Rattle.arc_scope.specs.Scopes.{class_of, either_class, is_nil}
use Rattle.arc_scope.specs.Views.{kinds_wanted, seen}
use Rattle.arc_ast.proofs.Trees.{call_tree, send_tree, send_super_tree}
use Rattle.arc_checked.proofs.NodeParts.{print_value}
use Rattle.arc_resolve.proofs.CallResolution.{values_turn, values_end, printing_some, printing_none, resolves_call}
use Rattle.arc_resolve.proofs.MessageResolution.{assigned_other, resolves_class, resolves_object, resolves_super}
use Rattle.arc_resolve.proofs.resolve.+resolve.Goals as goal
use Rattle.arc_resolve.proofs.resolve.+resolve.Goals.{call-in-Printf+in_ok-value-in-Printf, call-in-Defined+in_ok-all-in-Defined, call-in-GetChar, call-in-Unknown}

pub expression-returns-in-Call : goal.expression-returns-in-Call
expression-returns-in-Call t c =
    IfOk-weaker c.call.result _ _ (λ typed h. rw (c.in-Call.is, call_tree c.in-Call.field-0 c.in-Call.name c.in-Call.arguments, sym c.deref-in-Call.ensures.value, sym c.deref-in-Call-2.ensures.value) (h c.in-Call.field-0)) c.call.ensures

pub expression-returns-in-Send : goal.expression-returns-in-Send
expression-returns-in-Send t c =
    IfOk-weaker c.message.result _ _ (λ typed h. rw (c.in-Send.is, send_tree c.in-Send.field-0 c.in-Send.field-1 c.in-Send.receiver c.in-Send.selector c.in-Send.arguments, sym c.deref-in-Send.ensures, sym c.deref-in-Send-2.ensures.value, sym c.deref-in-Send-3.ensures.value)
    (h c.in-Send.field-0 c.in-Send.field-1)) c.message.ensures

pub expression-returns-in-SendSuper : goal.expression-returns-in-SendSuper
expression-returns-in-SendSuper t c =
    IfOk-weaker c.super_message.result _ _ (λ typed h. rw (c.in-SendSuper.is, send_super_tree c.in-SendSuper.field-0 c.in-SendSuper.field-1 c.in-SendSuper.field-2 c.in-SendSuper.selector c.in-SendSuper.arguments, sym c.deref-in-SendSuper.ensures.value, sym c.deref-in-SendSuper-2.ensures.value)
    (h c.in-SendSuper.field-0 c.in-SendSuper.field-1 c.in-SendSuper.field-2)) c.super_message.ensures

pub expression-returns-in-Itself : goal.expression-returns-in-Itself
expression-returns-in-Itself t c = rw c.in-Itself.is (record { class = c.own_class.ensures c.args.table.now; value = ap resolving.Refers c.itself.ensures })

pub expression-returns-in-Integer : goal.expression-returns-in-Integer
expression-returns-in-Integer t c = rw c.in-Integer.is (c.integer.ensures (seen c.args.table.now c.args.visible.now) c.in-Integer.field-0)

pub expression-returns-in-Text : goal.expression-returns-in-Text
expression-returns-in-Text t c = rw c.in-Text.is (c.text.ensures (seen c.args.table.now c.args.visible.now) c.in-Text.field-0 c.in-Text.field-1.items)

pub expression-returns-in-Name : goal.expression-returns-in-Name
expression-returns-in-Name t c = IfOk-weaker c.variable.result _ _ (λ typed h. rw (c.in-Name.is, sym c.deref-in-Name.ensures.value) (h c.in-Name.field-0)) c.variable.ensures

pub expression-returns-in-Unary : goal.expression-returns-in-Unary
expression-returns-in-Unary t c = IfOk-weaker c.signed.result _ _ (λ typed h. rw (c.in-Unary.is, sym c.deref-in-Unary.ensures) (h c.in-Unary.field-0)) c.signed.ensures

pub expression-returns-in-Cast : goal.expression-returns-in-Cast
expression-returns-in-Cast t c = IfOk-weaker c.cast.result _ _ (λ typed h. rw (c.in-Cast.is, sym c.deref-in-Cast.ensures) (h c.in-Cast.field-0)) c.cast.ensures

pub expression-returns-in-Binary : goal.expression-returns-in-Binary
expression-returns-in-Binary t c = IfOk-weaker c.operation.result _ _ (λ typed h. rw (c.in-Binary.is, sym c.deref-in-Binary.ensures, sym c.deref-in-Binary-2.ensures) (h c.in-Binary.field-0)) c.operation.ensures

pub expression-returns-in-Conditional : goal.expression-returns-in-Conditional
expression-returns-in-Conditional t c = IfOk-weaker c.choice.result _ _ (λ typed h. rw (c.in-Conditional.is, sym c.deref-in-Conditional.ensures, sym c.deref-in-Conditional-2.ensures, sym c.deref-in-Conditional-3.ensures) (h c.in-Conditional.field-0)) c.choice.ensures

pub expression-returns-in-Arrow : goal.expression-returns-in-Arrow
expression-returns-in-Arrow t c = IfOk-weaker c.arrow.result _ _ (λ typed h. rw (c.in-Arrow.is, sym c.deref-in-Arrow.ensures, sym c.deref-in-Arrow-2.ensures.value) (h c.in-Arrow.field-0 c.in-Arrow.field-1)) c.arrow.ensures

pub expression-returns-in-Assign : goal.expression-returns-in-Assign
expression-returns-in-Assign t c = IfOk-weaker c.assignment.result _ _ (λ typed h. rw (c.in-Assign.is, sym c.deref-in-Assign.ensures, sym c.deref-in-Assign-2.ensures) (h c.in-Assign.field-0 c.in-Assign.field-1)) c.assignment.ensures

pub expression-returns-in-Update : goal.expression-returns-in-Update
expression-returns-in-Update t c = IfOk-weaker c.update.result _ _ (λ typed h. rw (c.in-Update.is, sym c.deref-in-Update.ensures, sym c.deref-in-Update-2.ensures) (h c.in-Update.field-0 c.in-Update.field-1)) c.update.ensures

pub signed-returns : goal.signed-returns
signed-returns t c = λ at. record { class = refl; value = c.in_ok-value.ensures ∙ ap (unary c.args.operator) c.in_ok-operand.ensures.value }

pub cast-returns : goal.cast-returns
cast-returns t c = λ at. record { class = c.static_class.ensures; value = c.in_ok-value.ensures ∙ ap (λ k. cast k (resolution c.in_ok-operand.operand.value)) c.kind.ensures ∙ ap (cast (type_kind (type_tree c.args.type_name.now))) c.in_ok-operand.ensures.value }

pub operation-returns : goal.operation-returns
operation-returns t c = λ at.
    record {
      class = refl;
      value = c.in_ok-value.ensures ∙ ap (λ a. binary (sort_of c.args.operator) c.args.operator a (part_of c.in_ok-right.right.value)) c.in_ok-left.ensures.value
          ∙ ap (binary (sort_of c.args.operator) c.args.operator (resolved (seen c.args.table.now c.args.visible.now) (expr_tree c.args.left.now))) c.in_ok-right.ensures.value;
    }

pub update-returns : goal.update-returns
update-returns t c = λ at sign.
    record {
      class = refl;
      value = c.in_ok-value.ensures ∙ ap (λ a. updated c.args.moment c.args.operator a (part_of c.in_ok-right.right.value)) c.in_ok-left.ensures.value
          ∙ ap (updated c.args.moment c.args.operator (resolved (seen c.args.table.now c.args.visible.now) (expr_tree c.args.left.now))) c.in_ok-right.ensures.value;
    }

pub choice-returns : goal.choice-returns
choice-returns t c = λ at.
    let s = seen c.args.table.now c.args.visible.now in
    let a = expr_tree c.args.first.now in
    let b = expr_tree c.args.second.now in
    let test = resolving.number_in (resolved s (expr_tree c.args.test.now)) in
    let one = option_map number_of_class c.in_ok-first.first.class in
    let other = option_map number_of_class c.in_ok-second.second.class in
    record {
      class = c.either_class-class.ensures ∙ ap (λ p. either_class p c.is_nil-other_nil.result one other) c.is_nil-one_nil.ensures ∙ ap (λ p. either_class (is_nil a) p one other) c.is_nil-other_nil.ensures
          ∙ ap (λ k. either_class (is_nil a) (is_nil b) k other) c.in_ok-first.ensures.class ∙ ap (either_class (is_nil a) (is_nil b) (class_of s a)) c.in_ok-second.ensures.class;
      value = c.in_ok-value.ensures ∙ ap (λ x. conditional (resolving.number_in x) (part_of c.in_ok-first.first.value) (part_of c.in_ok-second.second.value)) c.in_ok-test.ensures.value
          ∙ ap (λ x. conditional test x (part_of c.in_ok-second.second.value)) c.in_ok-first.ensures.value ∙ ap (conditional test (resolved s a)) c.in_ok-second.ensures.value;
    }

pub class_in-returns : goal.class_in-returns
class_in-returns t c = c.in_ok-part.ensures.class

pub argument-returns : goal.argument-returns
argument-returns t c = IfOk-weaker c.passed.result _ _ (λ new h others. h others ∙ ap (λ x. resolving.argument c.args.wanted x others) c.in_ok-part.ensures.value) c.passed.ensures

pub assigned-returns-in_ok-itself_assigned-in-Itself-clause-class : goal.assigned-returns-in_ok-itself_assigned-in-Itself-clause-class
assigned-returns-in_ok-itself_assigned-in-Itself-clause-class t c = rw c.in-Itself.is (c.own_class.ensures c.args.table.now)

pub assigned-returns-in-Name-clause-class : goal.assigned-returns-in-Name-clause-class
assigned-returns-in-Name-clause-class t c = rw (c.in-Name.is, sym c.deref-in-Name.ensures.value) c.to_name.ensures.class

pub assigned-returns-in-Name-clause-value : goal.assigned-returns-in-Name-clause-value
assigned-returns-in-Name-clause-value t c = rw (c.in-Name.is, sym c.deref-in-Name.ensures.value) c.to_name.ensures.value

pub assigned-returns-in-Arrow-clause-class : goal.assigned-returns-in-Arrow-clause-class
assigned-returns-in-Arrow-clause-class t c = rw (c.in-Arrow.is, sym c.deref-in-Arrow.ensures, sym c.deref-in-Arrow-2.ensures.value) c.to_field.ensures.class

pub assigned-returns-in-Arrow-clause-value : goal.assigned-returns-in-Arrow-clause-value
assigned-returns-in-Arrow-clause-value t c = rw (c.in-Arrow.is, sym c.deref-in-Arrow.ensures, sym c.deref-in-Arrow-2.ensures.value) c.to_field.ensures.value

pub assigned-returns-in_ok-class-in_default : goal.assigned-returns-in_ok-class-in_default
assigned-returns-in_ok-class-in_default t c = record { class = c.in_ok-class-in_default.ensures; value = c.unboxed.ensures ∙ assigned_other (seen c.args.table.now c.args.visible.now) c.args.left.now _ c.in_default.not-Paren c.in_default.not-Itself c.in_default.not-Name c.in_default.not-Arrow }

pub message-returns-in_ok-class_message-in-Some : goal.message-returns-in_ok-class_message-in-Some
message-returns-in_ok-class_message-in-Some t c = λ at part.
    let s = seen c.args.table.now c.args.visible.now in
    let r = expr_tree c.args.receiver.now in
    let args = expr_trees c.args.arguments.now in
    let name = c.args.selector.now in
    let class = c.class_receiver-class.ensures in
    let passed = c.in_ok-all.ensures ∙ ap (λ k. resolved_all s (Some k) args) (c.parameters_passed.ensures ∙ ap (λ g. s.known.passed g name) (c.receiver_sign.ensures ∙ ap passing.receiver_sign class)) in
    resolves_class s at part r name args (number_of_class c.in-Some.class) (checked.arguments c.in_ok-all.all.items) (record { class = c.sent_class.result; value = c.in_ok-class_message-in-Some.field-0 })
    (sym (ap (option_map number_of_class) c.in-Some.is) ∙ class) passed c.sent_class.ensures (c.in_ok-class_message-in-Some.ensures c.args.visible.now (class_of s r) (resolved s r))

pub message-returns-in_ok-object_message-in-None : goal.message-returns-in_ok-object_message-in-None
message-returns-in_ok-object_message-in-None t c = λ at part.
    let s = seen c.args.table.now c.args.visible.now in
    let r = expr_tree c.args.receiver.now in
    let args = expr_trees c.args.arguments.now in
    let name = c.args.selector.now in
    let class = c.class_receiver-class.ensures in
    let passed = c.in_ok-all.ensures ∙ ap (λ k. resolved_all s (Some k) args) (c.parameters_passed.ensures ∙ ap (λ g. s.known.passed g name) (c.receiver_sign.ensures ∙ ap passing.receiver_sign class)) in
    resolves_object s at part r name args c.in_ok-object-in-None.object (record { class = c.sent_class-in-None.result; value = c.in_ok-object_message-in-None.field-0 }) (checked.arguments c.in_ok-all.all.items)
    (sym (ap (option_map number_of_class) c.in-None.is) ∙ class) c.in_ok-object-in-None.ensures passed c.sent_class-in-None.ensures (c.in_ok-object_message-in-None.ensures c.args.visible.now r)

pub super_message-returns : goal.super_message-returns
super_message-returns t c = λ at part super_at.
    resolves_super (seen c.args.table.now c.args.visible.now) at part super_at c.args.selector.now (expr_trees c.args.arguments.now) c.super_kind-kind.result c.class_number.result c.selector_number-number.result (checked.arguments c.in_ok-all.all.items)
    (record { class = c.super_class.result; value = c.in_ok-to_super.field-0 }) c.super_kind-kind.ensures (c.class_number.ensures ∙ ap (λ n. unwrap_or n 0) c.above.ensures) (c.selector_number-number.ensures ∙ ap (λ n. unwrap_or n 0) c.selector.ensures)
    (c.in_ok-all.ensures ∙ ap (λ k. resolved_all (seen c.args.table.now c.args.visible.now) (Some k) (expr_trees c.args.arguments.now)) c.parameters_passed.ensures)
    c.super_class.ensures c.in_ok-to_super.ensures

pub call-returns : goal.call-returns
call-returns t c = λ at.
    let s = seen c.args.table.now c.args.visible.now in
    let name = c.args.name.now in
    let all = expr_trees c.args.arguments.now in
    let typed : Typed = record { class = c.function_class.result; value = c.match-callee.value } in
    let class = ap (option_map number_of_class) c.function_class.ensures in
    elim c.match-callee.branch [
      | call-in-Printf+in_ok-value-in-Printf w ↦ resolves_call s at name all Printf typed (sym w.in-Printf.ensures) class (ap resolution w.value-is ∙ ap (Gives Int) w.in_ok-value-in-Printf.ensures)
      | call-in-Defined+in_ok-all-in-Defined w ↦ resolves_call s at name all (Defined w.in-Defined.kind w.in-Defined.field-1 w.in-Defined.body) typed (sym w.in-Defined.ensures) class
          (ap resolution w.value-is ∙ w.invoked-value.ensures ∙ ap (λ f. invoked w.in-Defined.kind f (checked.arguments w.in_ok-all-in-Defined.all.items)) w.number.ensures
          ∙ ap (invoked w.in-Defined.kind (unwrap_or w.in-Defined.body 0)) (w.in_ok-all-in-Defined.ensures ∙ ap (λ k. resolved_all s (Some k) all) w.parameters.ensures))
      | call-in-GetChar w ↦ resolves_call s at name all GetChar typed (sym w.in-GetChar.ensures) class (ap resolution w.value-is)
      | call-in-Unknown w ↦ resolves_call s at name all Unknown typed (sym w.in-Unknown.ensures) class (ap resolution w.value-is)
    ]

pub print-returns-in_ok-pieces-in-Some : goal.print-returns-in_ok-pieces-in-Some
print-returns-in_ok-pieces-in-Some t c = print_value c.in_ok-pieces-in-Some.pieces c.in_ok-values-in-Some.values
    ∙ printing_some (seen c.args.table.now c.args.visible.now) c.args.arguments.now c.in-Some.first.now c.in-Some.others.now c.text_of.result.now c.in_ok-pieces-in-Some.pieces.items c.in_ok-values-in-Some.values.items c.in-Some.ensures.cases.0 c.text_of.ensures c.in_ok-pieces-in-Some.ensures c.in_ok-values-in-Some.ensures

pub print-returns-in_ok-resolved_arguments-in-None : goal.print-returns-in_ok-resolved_arguments-in-None
print-returns-in_ok-resolved_arguments-in-None t c = print_value c.new.result c.in_ok-resolved_arguments-in-None.field-0
    ∙ printing_none (seen c.args.table.now c.args.visible.now) c.args.arguments.now c.new.result.items c.in_ok-resolved_arguments-in-None.field-0.items c.in-None.ensures.cases c.new.ensures.items c.in_ok-resolved_arguments-in-None.ensures

pub resolved_arguments-loop-one-preserved : goal.resolved_arguments-loop-one-preserved
resolved_arguments-loop-one-preserved t c =
    let s = seen c.args.table.now c.args.visible.now in
    values_turn s (kinds_wanted c.loop-one.rest) (kinds_wanted c.after_first-rest.result) c.args.arguments.now c.loop-one.one-index c.one-item.result c.loop-one.all.items c.keep.new.all.items c.in_ok-argument.field-0 c.first_wanted-kind.result
    (resolved_all s (kinds_wanted c.args.wanted) (expr_trees c.args.arguments.now)) c.loop-one-test.true c.one-item.is c.loop-one.invariant c.in_ok-keep.ensures.items
    c.in_ok-argument.ensures c.first_wanted-kind.ensures c.after_first-rest.ensures

pub resolved_arguments-returns : goal.resolved_arguments-returns
resolved_arguments-returns t c =
    let s = seen c.args.table.now c.args.visible.now in
    values_end s (kinds_wanted c.loop-one.rest) c.args.arguments.now c.loop-one.one-index c.loop-one.all.items (resolved_all s (kinds_wanted c.args.wanted) (expr_trees c.args.arguments.now)) c.loop-one-test.false c.loop-one.invariant
