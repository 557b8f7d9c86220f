use Rattle.std.proofs.Common.{◌≡◌, ℕ, ◌∙◌, ◌-◌, ◌+◌, refl, sym, ap, length, map, slice_get, Some}
use Rattle.std.proofs.lemmas.Option.{slice_get_read}
use Rattle.std.proofs.lemmas.Bool.{ltb-true}
use Rattle.arc_spec.specs.Classes.{ancestry_within, first_that_has}
use Rattle.arc_spec.proofs.Ancestry.{all_rows, in_row}
use Rattle.arc_class.specs.Lookups.{superclass_of_entry, own_given_in}
use Rattle.arc_class.proofs.FirstDeclaration.{own_first, above_next}
use Rattle.arc_class.proofs.table.result_from.Goals as goal
use Rattle.std.specs.Option.{option_or}

pub loop-passed-init : goal.loop-passed-init
loop-passed-init c =
    ap (first_that_has (λ class. own_given_in c.args.names.now class (slice_get c.args.entries.now class) c.args.sign c.args.selector.now)) (all_rows superclass_of_entry c.args.entries.now c.args.class)

pub loop-passed-preserved : goal.loop-passed-preserved
loop-passed-preserved c =
    let all = c.args.entries.now in
    let sign = c.args.sign in
    let names = c.args.names.now in
    let name = c.args.selector.now in
    let known = c.in-Some-get.entry.now in
    let number = c.in-Some.number in
    let passed = c.loop-passed._passed in
    let own = λ (class : ℕ). own_given_in names class (slice_get all class) sign name in
    let further = first_that_has own (ancestry_within (length all - (passed + 1)) (map superclass_of_entry all) known.superclass) in
    let there : slice_get all number ≡ Some known =
    slice_get_read all (length all) number known refl (ltb-true _ _ (sym c.in-Some-get.ensures.lookup.0)) c.in-Some-get.ensures.lookup.1 in
    above_next (own_given_in names number (Some known) sign name) _ _ (sym c.own_result.ensures ∙ c.in_default-own_result.is)
    (c.loop-passed.invariant ∙ ap (λ n. first_that_has own (ancestry_within (length all - passed) (map superclass_of_entry all) n)) c.in-Some.is
    ∙ ap (first_that_has own) (in_row superclass_of_entry all passed number known c.loop-passed-test.true there) ∙ ap (λ o. option_or (own_given_in names number o sign name) further) there)

pub returns-in-Some-own_result : goal.returns-in-Some-own_result
returns-in-Some-own_result c =
    let all = c.args.entries.now in
    let sign = c.args.sign in
    let names = c.args.names.now in
    let name = c.args.selector.now in
    let known = c.in-Some-get.entry.now in
    let number = c.in-Some.number in
    let passed = c.loop-passed._passed in
    let own = λ (class : ℕ). own_given_in names class (slice_get all class) sign name in
    let further = first_that_has own (ancestry_within (length all - (passed + 1)) (map superclass_of_entry all) known.superclass) in
    let there : slice_get all number ≡ Some known =
    slice_get_read all (length all) number known refl (ltb-true _ _ (sym c.in-Some-get.ensures.lookup.0)) c.in-Some-get.ensures.lookup.1 in
    own_first (own_given_in names number (Some known) sign name) c.in-Some-own_result.given _ _ (sym c.own_result.ensures ∙ c.in-Some-own_result.is)
    (c.loop-passed.invariant ∙ ap (λ n. first_that_has own (ancestry_within (length all - passed) (map superclass_of_entry all) n)) c.in-Some.is
    ∙ ap (first_that_has own) (in_row superclass_of_entry all passed number known c.loop-passed-test.true there) ∙ ap (λ entry. option_or (own_given_in names number entry sign name) further) there)
