use Rattle.std.proofs.Common.{◌∙◌, arith, codes, rules}
use Rattle.std.specs.Str.Parse.{ParsesUnsigned, ExplainsUnsignedError, HasUnsignedDigitsIfOk}
use Rattle.clap.specs.Words.{found_of}
use Rattle.clap.proofs.WalkLemmas.{one_text-rows}
use Rattle.arc_words.proofs.Steps.{absent, beyond, unread, within}
use Rattle.arc_words.proofs.words.steps_of.Goals as goal

pub returns-in-Ok-Some-clause-said : goal.returns-in-Ok-Some-clause-said
returns-in-Ok-Some-clause-said c =
    let same = one_text-rows (found_of c.args.options.now) (codes "steps") in
    let tried = c.try_get_one.ensures in
    within _ (λ bs r. ParsesUnsigned 64 10 bs r × ExplainsUnsignedError 10 bs r × HasUnsignedDigitsIfOk bs r) (λ u x g. g.0) _ c.try_get_one.result
    (λ e. tried.none (same ∙ e)) (λ t e. tried.value t (same ∙ e)) c.in-Ok-Some.steps (search rules) (omega (arith, c.if-steps-ge1.true)) (omega (arith, c.if-steps-le-MOST_STEPS.true))

pub returns-in-Ok-None-clause-said : goal.returns-in-Ok-None-clause-said
returns-in-Ok-None-clause-said c =
    let same = one_text-rows (found_of c.args.options.now) (codes "steps") in
    let tried = c.try_get_one.ensures in
    absent _ (λ bs r. ParsesUnsigned 64 10 bs r × ExplainsUnsignedError 10 bs r × HasUnsignedDigitsIfOk bs r) (λ u x g. g.0) _ c.try_get_one.result
    (λ t e. tried.value t (same ∙ e)) (search rules)

pub returns-in_default-clause-said : goal.returns-in_default-clause-said
returns-in_default-clause-said c =
    let same = one_text-rows (found_of c.args.options.now) (codes "steps") in
    let tried = c.try_get_one.ensures in
    beyond _ (λ bs r. ParsesUnsigned 64 10 bs r × ExplainsUnsignedError 10 bs r × HasUnsignedDigitsIfOk bs r) (λ u x g. g.0) _ c.try_get_one.result
    (λ e. tried.none (same ∙ e)) (λ t e. tried.value t (same ∙ e)) c.in-Ok-Some.steps (search rules) (λ low high. absurd (omega (arith, c.if-steps-le-MOST_STEPS.false)))

pub returns-in_default-2-clause-said : goal.returns-in_default-2-clause-said
returns-in_default-2-clause-said c =
    let same = one_text-rows (found_of c.args.options.now) (codes "steps") in
    let tried = c.try_get_one.ensures in
    beyond _ (λ bs r. ParsesUnsigned 64 10 bs r × ExplainsUnsignedError 10 bs r × HasUnsignedDigitsIfOk bs r) (λ u x g. g.0) _ c.try_get_one.result
    (λ e. tried.none (same ∙ e)) (λ t e. tried.value t (same ∙ e)) c.in-Ok-Some.steps (search rules) (λ low high. absurd (omega (arith, c.if-steps-ge1.false)))

pub returns-in_default-3-clause-said : goal.returns-in_default-3-clause-said
returns-in_default-3-clause-said c =
    let same = one_text-rows (found_of c.args.options.now) (codes "steps") in
    let tried = c.try_get_one.ensures in
    unread _ (λ bs r. ParsesUnsigned 64 10 bs r × ExplainsUnsignedError 10 bs r × HasUnsignedDigitsIfOk bs r) (λ u x g. g.0) _ c.try_get_one.result
    (λ e. tried.none (same ∙ e)) (λ t e. tried.value t (same ∙ e)) c.in_default.field-0 c.in_default.is
