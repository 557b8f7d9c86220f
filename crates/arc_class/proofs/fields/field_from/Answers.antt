use Rattle.std.proofs.Common.{◌≡◌, ℕ, ◌∙◌, ◌-◌, ◌+◌, refl, sym, ap, length, map, slice_get, None, Some}
use Rattle.std.proofs.lemmas.Option.{slice_get_past, slice_get_read}
use Rattle.std.proofs.lemmas.Bool.{ltb-false, ltb-true}
use Rattle.arc_spec.specs.Classes.{ancestry_within, first_that_has}
use Rattle.arc_spec.proofs.Ancestry.{all_rows, no_row, in_row}
use Rattle.arc_class.specs.Table.{superclass_of_fields, own_field_in}
use Rattle.arc_class.proofs.FirstDeclaration.{own_first, above_next}
use Rattle.arc_class.proofs.fields.field_from.Goals as goal
use Rattle.std.specs.Option.{option_or}

pub loop-passed-init : goal.loop-passed-init
loop-passed-init c =
    ap (first_that_has (λ class. own_field_in (slice_get c.args.classes.now class) c.args.name.now)) (all_rows superclass_of_fields c.args.classes.now c.args.class)

pub returns-in_default-get : goal.returns-in_default-get
returns-in_default-get c =
    let all = c.args.classes.now in
    let name = c.args.name.now in
    let number = c.in-Some.number in
    let passed = c.loop-passed._passed in
    let own = λ (class : ℕ). own_field_in (slice_get all class) name in
    let none : slice_get all number ≡ None = slice_get_past all number (ltb-false _ _ (sym c.in_default-get.ensures.lookup.0)) in
    sym (c.loop-passed.invariant ∙ ap (λ n. first_that_has own (ancestry_within (length all - passed) (map superclass_of_fields all) n)) c.in-Some.is
    ∙ ap (first_that_has own) (no_row superclass_of_fields all passed number c.loop-passed-test.true none))

pub returns-in-Some-at_name : goal.returns-in-Some-at_name
returns-in-Some-at_name c =
    let all = c.args.classes.now in
    let name = c.args.name.now in
    let known = c.in-Some-get.known.now in
    let number = c.in-Some.number in
    let passed = c.loop-passed._passed in
    let own = λ (class : ℕ). own_field_in (slice_get all class) name in
    let further = first_that_has own (ancestry_within (length all - (passed + 1)) (map superclass_of_fields all) known.superclass) in
    let there : slice_get all number ≡ Some known =
    slice_get_read all (length all) number known refl (ltb-true _ _ (sym c.in-Some-get.ensures.lookup.0)) c.in-Some-get.ensures.lookup.1 in
    own_first (own_field_in (Some known) name) c.in-Some-at_name.field _ _ (sym c.at_name.ensures ∙ c.in-Some-at_name.is)
    (c.loop-passed.invariant ∙ ap (λ n. first_that_has own (ancestry_within (length all - passed) (map superclass_of_fields all) n)) c.in-Some.is
    ∙ ap (first_that_has own) (in_row superclass_of_fields all passed number known c.loop-passed-test.true there) ∙ ap (λ o. option_or (own_field_in o name) further) there)

pub loop-passed-preserved : goal.loop-passed-preserved
loop-passed-preserved c =
    let all = c.args.classes.now in
    let name = c.args.name.now in
    let known = c.in-Some-get.known.now in
    let number = c.in-Some.number in
    let passed = c.loop-passed._passed in
    let own = λ (class : ℕ). own_field_in (slice_get all class) name in
    let further = first_that_has own (ancestry_within (length all - (passed + 1)) (map superclass_of_fields all) known.superclass) in
    let there : slice_get all number ≡ Some known =
    slice_get_read all (length all) number known refl (ltb-true _ _ (sym c.in-Some-get.ensures.lookup.0)) c.in-Some-get.ensures.lookup.1 in
    above_next (own_field_in (Some known) name) _ _ (sym c.at_name.ensures ∙ c.in_default-at_name.is)
    (c.loop-passed.invariant ∙ ap (λ n. first_that_has own (ancestry_within (length all - passed) (map superclass_of_fields all) n)) c.in-Some.is
    ∙ ap (first_that_has own) (in_row superclass_of_fields all passed number known c.loop-passed-test.true there) ∙ ap (λ o. option_or (own_field_in o name) further) there)
