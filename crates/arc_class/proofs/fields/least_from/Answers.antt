use Rattle.std.proofs.Common.{◌≡◌, ℕ, ◌∙◌, ◌-◌, ◌+◌, refl, sym, ap, length, map, slice_get, None, Some}
use Rattle.std.proofs.lemmas.Option.{slice_get_past, slice_get_read}
use Rattle.std.proofs.lemmas.Bool.{ltb-false, ltb-true}
use Rattle.arc_spec.specs.Classes.{ancestry_within}
use Rattle.arc_spec.proofs.Ancestry.{all_rows, no_row, in_row}
use Rattle.arc_class.specs.Lookups.{least_of, least_among}
use Rattle.arc_class.specs.Table.{superclass_of_fields, own_place_in}
use Rattle.arc_class.proofs.LeastPlace.{least_turn, least_over}
use Rattle.arc_class.proofs.fields.least_from.Goals as goal

pub returns-in_default-get : goal.returns-in_default-get
returns-in_default-get c =
    let all = c.args.classes.now in
    let name = c.args.name.now in
    let number = c.in-Some.number in
    let passed = c.loop-passed._passed in
    let place = c.loop-passed.place in
    let own = λ (class : ℕ). own_place_in (slice_get all class) name in
    let none : slice_get all number ≡ None = slice_get_past all number (ltb-false _ _ (sym c.in_default-get.ensures.lookup.0)) in
    least_over place _ _ (ap (least_among own) (no_row superclass_of_fields all passed number c.loop-passed-test.true none))
    (c.loop-passed.invariant ∙ ap (λ n. least_of place (least_among own (ancestry_within (length all - passed) (map superclass_of_fields all) n))) c.in-Some.is)

pub loop-passed-preserved : goal.loop-passed-preserved
loop-passed-preserved c =
    let all = c.args.classes.now in
    let name = c.args.name.now in
    let known = c.in-Some-get.known.now in
    let number = c.in-Some.number in
    let passed = c.loop-passed._passed in
    let place = c.loop-passed.place in
    let own = λ (class : ℕ). own_place_in (slice_get all class) name in
    let further = least_among own (ancestry_within (length all - (passed + 1)) (map superclass_of_fields all) known.superclass) in
    let there : slice_get all number ≡ Some known =
    slice_get_read all (length all) number known refl (ltb-true _ _ (sym c.in-Some-get.ensures.lookup.0)) c.in-Some-get.ensures.lookup.1 in
    least_turn place (own_place_in (Some known) name) _ further _ _
    (ap (least_among own) (in_row superclass_of_fields all passed number known c.loop-passed-test.true there) ∙ ap (λ o. least_of (own_place_in o name) further) there)
    (c.least_of-place.ensures ∙ ap (least_of place) c.at_name.ensures)
    (c.loop-passed.invariant ∙ ap (λ n. least_of place (least_among own (ancestry_within (length all - passed) (map superclass_of_fields all) n))) c.in-Some.is)

pub loop-passed-init : goal.loop-passed-init
loop-passed-init c = ap (least_among (λ class. own_place_in (slice_get c.args.classes.now class) c.args.name.now)) (all_rows superclass_of_fields c.args.classes.now c.args.class)
