use Rattle.arc_form.proofs.Joining.{all_push}
use Rattle.arc_parse.proofs.Given.{read_cast_or_product, read_last_part, read_sent, read_arguments, read_parenthesized, read_given}
use Rattle.arc_parse.proofs.Fix.{read_binary, read_condition, read_expr, read_past}
use Rattle.arc_parse.proofs.Fewer.{as_before}
use Rattle.std.proofs.Common.{rules, Ok, arith, length, refl, ap}
use Rattle.std.proofs.lemmas.Result.{err_from_is_err_and, IfOk-weaker}
use Rattle.arc_lex.specs.Tokens.{toks}
use Rattle.arc_ast.specs.Tree.{expr_tree}
use Rattle.arc_grammar.specs.Grammar as grammar
use Rattle.arc_parse.proofs.Levels.{one_more, no_operand}
use Rattle.arc_ast.proofs.Trees.{call_tree, send_tree, send_super_tree}
use Rattle.arc_grammar.proofs.Lists.{exprs_all}
use Rattle.arc_parse.proofs.Fix.{assigning_is, read_continued, read_unary}
use Rattle.arc_parse.proofs.expr.+exprs.Goals as goal

pub named-returns-clause-gives : goal.named-returns-clause-gives
unfolding grammar.named grammar.arguments
named-returns-clause-gives t c = rw (c.in_ok-at.ensures.gives, c.in-Some.ensures.taken.0, c.in-Some.ensures.taken.1, c.in_ok-all.ensures.gives, exprs_all c.in_ok-all.all.items, ← call_tree c.in_ok-at.at c.in_ok-at.called c.in_ok-all.all) (c.boxed-2.ensures.gives (toks c.given.new.reader.rest.now))

pub message-returns-in-Some-clause-gives : goal.message-returns-in-Some-clause-gives
unfolding grammar.message grammar.to_super
message-returns-in-Some-clause-gives t c = rw (c.in_ok-at.ensures.gives, c.in-Some.ensures.taken.0, c.in-Some.ensures.taken.1, c.in_ok-part.ensures.gives, exprs_all c.in_ok-part.all.items, ← send_super_tree c.in_ok-at.at c.in_ok-part.part c.in-Some.super_at c.in_ok-part.selector c.in_ok-part.all) (c.boxed.ensures.gives (toks c.sent.new.reader.rest.now))

pub message-returns-clause-gives : goal.message-returns-clause-gives
unfolding grammar.message grammar.to_object
message-returns-clause-gives t c = rw (c.in_ok-at.ensures.gives, c.in_default.ensures.taken.1, c.in_default.ensures.taken.0, c.in_ok-object.ensures.gives, c.in_ok-part-2.ensures.gives, exprs_all c.in_ok-part-2.all.items, ← send_tree c.in_ok-at.at c.in_ok-part-2.part c.in_ok-object.object c.in_ok-part-2.selector c.in_ok-part-2.all) (c.boxed-2.ensures.gives (toks c.sent-2.new.reader.rest.now))

pub up_to-returns-in_err-right-clause-gives : goal.up_to-returns-in_err-right-clause-gives
up_to-returns-in_err-right-clause-gives t c =
    let p = err_from_is_err_and c.from_residual-in_err-right.result c.from_residual-in_err-right.ensures.1 in
    rw (p.1, p.2) (no_operand c.in-Some.found (expr_tree c.args.left.value) (toks c.args.reader.now.rest.now) (toks c.operator.new.reader.rest.now) (c.in_ok-operator.field-0-0, c.in_ok-operator.operator) c.in-Some.ensures.none_tighter c.in-Some.ensures.there c.in_ok-operator.ensures.gives c.args.level c.in_err-right.field-0.0 (toks c.binary.new.reader.rest.now) c.in-Some.ensures.within.0 c.in-Some.ensures.within.1 c.in_err-right.ensures.gives)

pub up_to-returns-clause-gives : goal.up_to-returns-clause-gives
up_to-returns-clause-gives t c =
    let one = one_more c.in-Some.found (expr_tree c.args.left.value) (toks c.args.reader.now.rest.now) (toks c.operator.new.reader.rest.now) (c.in_ok-operator.field-0-0, c.in_ok-operator.operator) c.in-Some.ensures.none_tighter c.in-Some.ensures.there c.in_ok-operator.ensures.gives c.args.level (Ok (expr_tree c.in_ok-right.right.value, toks c.binary.new.reader.rest.now)) c.in-Some.ensures.within.0 c.in-Some.ensures.within.1 c.in_ok-right.ensures.gives c.in_ok-right.ensures.past in
    rw one (search rules)

pub continued-returns-in_err-first-clause-gives : goal.continued-returns-in_err-first-clause-gives
unfolding grammar.choice grammar.chosen
continued-returns-in_err-first-clause-gives t c = grind (arith, read_continued)

pub continued-returns-in_err-second-clause-gives : goal.continued-returns-in_err-second-clause-gives
unfolding grammar.choice grammar.chosen
continued-returns-in_err-second-clause-gives t c = grind (arith, read_continued)

pub operation-returns-then-sees_operator-clause-gives : goal.operation-returns-then-sees_operator-clause-gives
unfolding grammar.operation grammar.assigned grammar.updated
operation-returns-then-sees_operator-clause-gives t c = grind (arith, assigning_is)

pub prefixed-returns-in_err-operand-clause-gives : goal.prefixed-returns-in_err-operand-clause-gives
prefixed-returns-in_err-operand-clause-gives t c = grind (arith, read_unary)

pub continued-returns-in_err-expect-clause-gives : goal.continued-returns-in_err-expect-clause-gives
unfolding grammar.choice grammar.chosen
continued-returns-in_err-expect-clause-gives t c = grind (arith, read_continued)

pub operation-returns-then-not-sees_mark-clause-gives : goal.operation-returns-then-not-sees_mark-clause-gives
unfolding grammar.operation grammar.assigned grammar.updated
operation-returns-then-not-sees_mark-clause-gives t c = grind (arith, assigning_is)

pub continued-returns-in_default-clause-gives : goal.continued-returns-in_default-clause-gives
unfolding grammar.choice grammar.chosen
continued-returns-in_default-clause-gives t c = grind (arith, read_continued)

pub prefixed-returns-then-begins_signed-clause-gives : goal.prefixed-returns-then-begins_signed-clause-gives
prefixed-returns-then-begins_signed-clause-gives t c = grind (arith, read_unary)

pub operation-returns-in_err-right-clause-gives : goal.operation-returns-in_err-right-clause-gives
unfolding grammar.operation grammar.assigned grammar.updated
operation-returns-in_err-right-clause-gives t c = grind (arith, assigning_is)

pub operation-returns-clause-gives : goal.operation-returns-clause-gives
unfolding grammar.operation grammar.assigned grammar.updated
operation-returns-clause-gives t c = grind (arith, assigning_is)

pub prefixed-returns-then-begins_counting-clause-gives : goal.prefixed-returns-then-begins_counting-clause-gives
prefixed-returns-then-begins_counting-clause-gives t c = grind (arith, read_unary)

pub continued-returns-clause-gives : goal.continued-returns-clause-gives
unfolding grammar.choice grammar.chosen
continued-returns-clause-gives t c = grind (arith, read_continued)

pub cast-returns-clause-shorter : goal.cast-returns-clause-shorter
cast-returns-clause-shorter t c = as_before c.boxed.result _ (omega (arith, c.in_ok-expect.ensures.shorter, c.in_ok-operand.ensures.shorter))

pub parenthesized-returns-clause-shorter : goal.parenthesized-returns-clause-shorter
parenthesized-returns-clause-shorter t c = IfOk-weaker c.enclosed.result _ _ (λ x h. omega (arith, c.in_ok-at.ensures.shorter, c.in_ok-inside.ensures.shorter)) c.enclosed.ensures.shorter

pub parenthesized-returns-then-begins_plain_type-clause-shorter : goal.parenthesized-returns-then-begins_plain_type-clause-shorter
parenthesized-returns-then-begins_plain_type-clause-shorter t c = IfOk-weaker c.cast.result _ _ (λ x h. omega (arith, c.in_ok-at.ensures.shorter, c.in_ok-written.ensures.shorter)) c.cast.ensures.shorter

pub parenthesized-returns-then-sees_name_and-clause-shorter : goal.parenthesized-returns-then-sees_name_and-clause-shorter
parenthesized-returns-then-sees_name_and-clause-shorter t c = IfOk-weaker c.cast_or_product.result _ _ (λ x h. omega (arith, c.in_ok-at.ensures.shorter)) c.cast_or_product.ensures.shorter

pub cast_or_product-returns-clause-shorter : goal.cast_or_product-returns-clause-shorter
cast_or_product-returns-clause-shorter t c = IfOk-weaker c.enclosed.result _ _ (λ x h. omega (arith, c.in_ok-name_at.ensures.shorter, c.in_ok-expect.ensures.shorter, c.in_ok-right.ensures.shorter, c.in_ok-inside.ensures.shorter)) c.enclosed.ensures.shorter

pub cast_or_product-returns-then-sees_mark-clause-shorter : goal.cast_or_product-returns-then-sees_mark-clause-shorter
cast_or_product-returns-then-sees_mark-clause-shorter t c = IfOk-weaker c.cast.result _ _ (λ x h. omega (arith, c.in_ok-name_at.ensures.shorter, c.in_ok-expect.ensures.shorter)) c.cast.ensures.shorter

pub operation-returns-then-sees_operator-clause-shorter : goal.operation-returns-then-sees_operator-clause-shorter
operation-returns-then-sees_operator-clause-shorter t c = as_before c.boxed.result _ (omega (arith, c.in_ok-sign.ensures.shorter, c.in_ok-right.ensures.shorter))

pub up_to-returns-clause-shorter : goal.up_to-returns-clause-shorter
up_to-returns-clause-shorter t c = IfOk-weaker c.up_to.result _ _ (λ x h. omega (arith, c.in_ok-operator.ensures.shorter, c.in_ok-right.ensures.shorter)) c.up_to.ensures.shorter

pub prefixed-returns-then-begins_signed-clause-shorter : goal.prefixed-returns-then-begins_signed-clause-shorter
prefixed-returns-then-begins_signed-clause-shorter t c = as_before c.boxed.result _ (omega (arith, c.in_ok-at.ensures.shorter, c.in_ok-operand.ensures.shorter))

pub named-returns-clause-shorter : goal.named-returns-clause-shorter
named-returns-clause-shorter t c = as_before c.boxed-2.result _ (omega (arith, c.in_ok-at.ensures.shorter, c.in-Some.ensures.shorter, c.in_ok-all.ensures.shorter))

pub message-returns-in-Some-clause-shorter : goal.message-returns-in-Some-clause-shorter
message-returns-in-Some-clause-shorter t c = as_before c.boxed.result _ (omega (arith, c.in_ok-at.ensures.shorter, c.in-Some.ensures.shorter, c.in_ok-part.ensures.shorter))

pub arguments-returns-in-Some-clause-shorter : goal.arguments-returns-in-Some-clause-shorter
arguments-returns-in-Some-clause-shorter t c = IfOk-weaker c.arguments.result _ _ (λ x h. omega (arith, c.in_ok-next.ensures.shorter, c.in-Some.ensures.shorter)) c.arguments.ensures.shorter

pub parts-returns-clause-shorter : goal.parts-returns-clause-shorter
parts-returns-clause-shorter t c = IfOk-weaker c.parts.result _ _ (λ x h. omega (arith, c.in_ok-expect.ensures.shorter, c.in_ok-one.ensures.shorter, c.in_ok-called.ensures.shorter)) c.parts.ensures.shorter

pub parts-returns-then-not-sees_name-clause-shorter : goal.parts-returns-then-not-sees_name-clause-shorter
parts-returns-then-not-sees_name-clause-shorter t c = omega (arith, c.in_ok-expect.ensures.shorter, c.in_ok-one.ensures.shorter)

pub cast_or_product-returns-in_err-inside-clause-gives : goal.cast_or_product-returns-in_err-inside-clause-gives
cast_or_product-returns-in_err-inside-clause-gives t c = grind (arith, read_cast_or_product)

pub parts-returns-then-not-sees_name-clause-gives : goal.parts-returns-then-not-sees_name-clause-gives
parts-returns-then-not-sees_name-clause-gives t c = grind (arith, read_last_part, all_push)

pub parts-returns-clause-gives : goal.parts-returns-clause-gives
parts-returns-clause-gives t c = grind (arith, read_last_part, all_push)

pub cast_or_product-returns-clause-gives : goal.cast_or_product-returns-clause-gives
cast_or_product-returns-clause-gives t c = grind (arith, read_cast_or_product)

pub sent-returns-in_err-parts-clause-gives : goal.sent-returns-in_err-parts-clause-gives
sent-returns-in_err-parts-clause-gives t c = grind (arith, read_sent)

pub arguments-returns-clause-gives : goal.arguments-returns-clause-gives
arguments-returns-clause-gives t c = grind (arith, read_arguments, all_push)

pub cast_or_product-returns-in_err-right-clause-gives : goal.cast_or_product-returns-in_err-right-clause-gives
cast_or_product-returns-in_err-right-clause-gives t c = grind (arith, read_cast_or_product)

pub cast_or_product-returns-then-sees_mark-clause-gives : goal.cast_or_product-returns-then-sees_mark-clause-gives
cast_or_product-returns-then-sees_mark-clause-gives t c = grind (arith, read_cast_or_product)

pub parenthesized-returns-clause-gives : goal.parenthesized-returns-clause-gives
parenthesized-returns-clause-gives t c = grind (arith, read_parenthesized)

pub parts-returns-in_err-one-clause-gives : goal.parts-returns-in_err-one-clause-gives
parts-returns-in_err-one-clause-gives t c = grind (arith, read_last_part, all_push)

pub arguments-returns-in_err-expect-clause-gives : goal.arguments-returns-in_err-expect-clause-gives
arguments-returns-in_err-expect-clause-gives t c = grind (arith, read_arguments, all_push)

pub parenthesized-returns-in_err-inside-clause-gives : goal.parenthesized-returns-in_err-inside-clause-gives
parenthesized-returns-in_err-inside-clause-gives t c = grind (arith, read_parenthesized)

pub parenthesized-returns-then-begins_plain_type-clause-gives : goal.parenthesized-returns-then-begins_plain_type-clause-gives
parenthesized-returns-then-begins_plain_type-clause-gives t c = grind (arith, read_parenthesized)

pub arguments-returns-in-Some-clause-gives : goal.arguments-returns-in-Some-clause-gives
arguments-returns-in-Some-clause-gives t c = grind (arith, read_arguments, all_push)

pub given-returns-in_err-arguments-clause-gives : goal.given-returns-in_err-arguments-clause-gives
given-returns-in_err-arguments-clause-gives t c = grind (arith, read_given)

pub given-returns-clause-gives : goal.given-returns-clause-gives
given-returns-clause-gives t c = grind (arith, read_given)

pub cast_or_product-returns-in_err-expect-clause-gives : goal.cast_or_product-returns-in_err-expect-clause-gives
cast_or_product-returns-in_err-expect-clause-gives t c = grind (arith, read_cast_or_product)

pub prefixed-returns-in_err-operator-clause-gives : goal.prefixed-returns-in_err-operator-clause-gives
prefixed-returns-in_err-operator-clause-gives t c = grind (arith, read_unary)

pub prefixed-returns-then-sees_mark-clause-gives : goal.prefixed-returns-then-sees_mark-clause-gives
prefixed-returns-then-sees_mark-clause-gives t c = grind (arith, read_unary)

pub continued-returns-in_err-test-clause-gives : goal.continued-returns-in_err-test-clause-gives
unfolding grammar.choice grammar.chosen
continued-returns-in_err-test-clause-gives t c = grind (arith, read_continued)

pub prefixed-returns-in_err-at-clause-gives : goal.prefixed-returns-in_err-at-clause-gives
prefixed-returns-in_err-at-clause-gives t c = grind (arith, read_unary)

pub prefixed-returns-else-sees_mark-clause-gives : goal.prefixed-returns-else-sees_mark-clause-gives
prefixed-returns-else-sees_mark-clause-gives t c = grind (arith, read_unary)

pub sent-returns-in_err-expect-clause-gives : goal.sent-returns-in_err-expect-clause-gives
sent-returns-in_err-expect-clause-gives t c = grind (arith, read_sent)

pub sent-returns-clause-gives : goal.sent-returns-clause-gives
sent-returns-clause-gives t c = grind (arith, read_sent)

pub sent-returns-in_err-at-clause-gives : goal.sent-returns-in_err-at-clause-gives
sent-returns-in_err-at-clause-gives t c = grind (arith, read_sent)

pub prefixed-returns-in_err-operand-2-clause-gives : goal.prefixed-returns-in_err-operand-2-clause-gives
prefixed-returns-in_err-operand-2-clause-gives t c = grind (arith, read_unary)

pub parenthesized-returns-then-sees_name_and-clause-gives : goal.parenthesized-returns-then-sees_name_and-clause-gives
parenthesized-returns-then-sees_name_and-clause-gives t c = grind (arith, read_parenthesized)

pub parenthesized-returns-in_err-written-clause-gives : goal.parenthesized-returns-in_err-written-clause-gives
parenthesized-returns-in_err-written-clause-gives t c = grind (arith, read_parenthesized)

pub parenthesized-returns-in_err-at-clause-gives : goal.parenthesized-returns-in_err-at-clause-gives
parenthesized-returns-in_err-at-clause-gives t c = grind (arith, read_parenthesized)

pub parts-returns-in_err-expect-clause-gives : goal.parts-returns-in_err-expect-clause-gives
parts-returns-in_err-expect-clause-gives t c = grind (arith, read_last_part, all_push)

pub up_to-returns-in-None-clause-gives : goal.up_to-returns-in-None-clause-gives
up_to-returns-in-None-clause-gives t c = grind (arith, read_past)

pub binary-returns-clause-gives : goal.binary-returns-clause-gives
binary-returns-clause-gives t c = grind (arith, read_binary)

pub binary-returns-in_err-left-clause-gives : goal.binary-returns-in_err-left-clause-gives
binary-returns-in_err-left-clause-gives t c = grind (arith, read_binary)

pub expr-returns-clause-gives : goal.expr-returns-clause-gives
expr-returns-clause-gives t c = grind (arith, read_expr)

pub expr-returns-in_err-left-clause-gives : goal.expr-returns-in_err-left-clause-gives
expr-returns-in_err-left-clause-gives t c = grind (arith, read_expr)

pub condition-returns-clause-gives : goal.condition-returns-clause-gives
condition-returns-clause-gives t c = grind (arith, read_condition)

pub condition-returns-in_err-left-clause-gives : goal.condition-returns-in_err-left-clause-gives
condition-returns-in_err-left-clause-gives t c = grind (arith, read_condition)

pub cast_or_product-returns-in_err-name_at-clause-gives : goal.cast_or_product-returns-in_err-name_at-clause-gives
cast_or_product-returns-in_err-name_at-clause-gives t c = grind (arith, read_cast_or_product)

pub arguments-returns-in_err-next-clause-gives : goal.arguments-returns-in_err-next-clause-gives
arguments-returns-in_err-next-clause-gives t c = grind (arith, read_arguments, all_push)

pub message-returns-clause-shorter : goal.message-returns-clause-shorter
message-returns-clause-shorter t c = as_before c.boxed-2.result _ (omega (arith, c.in_ok-at.ensures.shorter, ap length (c.in_default.ensures.kept refl), c.in_ok-object.ensures.shorter, c.in_ok-part-2.ensures.shorter))

pub prefixed-returns-then-begins_counting-clause-shorter : goal.prefixed-returns-then-begins_counting-clause-shorter
prefixed-returns-then-begins_counting-clause-shorter t c = as_before c.by_one.result _ (omega (arith, c.in_ok-operator.ensures.shorter, c.in_ok-operand-2.ensures.shorter))

pub arguments-returns-clause-shorter : goal.arguments-returns-clause-shorter
arguments-returns-clause-shorter t c = omega (arith, c.in_ok-next.ensures.shorter, ap length (c.in_default.ensures.kept refl), c.in_ok-expect.ensures.shorter)

pub given-returns-clause-shorter : goal.given-returns-clause-shorter
given-returns-clause-shorter t c = omega (arith, ap length (c.in_default.ensures.kept refl), c.in_ok-arguments.ensures.shorter)

pub operation-returns-clause-shorter : goal.operation-returns-clause-shorter
operation-returns-clause-shorter t c = as_before c.boxed-2.result _ (omega (arith, c.in_ok-sign-2.ensures.shorter, c.in_ok-right-2.ensures.shorter))

pub continued-returns-clause-shorter : goal.continued-returns-clause-shorter
continued-returns-clause-shorter t c = as_before c.boxed.result _ (omega (arith, c.in_ok-test.ensures.shorter, c.in-Some.ensures.shorter, c.in_ok-first.ensures.shorter, c.in_ok-expect.ensures.shorter, c.in_ok-second.ensures.shorter))

pub given-returns-in-Some-clause-gives : goal.given-returns-in-Some-clause-gives
given-returns-in-Some-clause-gives t c = grind (arith, read_given)
