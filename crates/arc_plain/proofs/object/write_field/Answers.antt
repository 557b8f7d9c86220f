use Rattle.std.proofs.Common.{◌≡◌, ◌-◌, ◌<◌, to_z, of_z, w64, map, get_or, slice_set, ap, ◌∙◌, arith, rules}
use Rattle.std.proofs.lemmas.Int.{to_z-of_z}
use Rattle.std.proofs.lemmas.List.{with_items_is, places}
use Rattle.std.specs.Vec.{with_items}
use Rattle.arc_spec.specs.Objects.{with_fields}
use Rattle.arc_plain.specs.Views.{object_of}
use Rattle.arc_plain.proofs.ObjectsReported.{unchanged_nil, unchanged_past, changed_there}
use Rattle.arc_plain.proofs.object.write_field.Goals as goal

pub returns-then-number-eq0 : goal.returns-then-number-eq0
returns-then-number-eq0 c = unchanged_nil (map object_of c.args.objects.now) c.args.number (λ o. with_fields o (slice_set o.fields c.args.index c.args.value)) c.if-number-eq0.true

pub returns-then-number-count : goal.returns-then-number-count
returns-then-number-count c = unchanged_past c.args.objects.now c.args.number (λ o. with_fields o (slice_set o.fields c.args.index c.args.value)) (omega arith)

pub returns : goal.returns
returns c =
    let some : 0 < c.args.number = omega (arith, c.if-number-eq0.false) in
    let o = get_or c.args.objects.now (c.args.number - 1) c.index-objects-number.result in
    let same : to_z w64 (of_z w64 c.args.value) ≡ c.args.value = grind (arith, to_z-of_z) in
    let written : (with_items o.fields c.write.new.fields).items ≡ slice_set o.fields.items c.args.index c.args.value =
    with_items_is o.fields c.write.new.fields (search (rules, places)) ∙ c.write.ensures ∙ ap (λ l. slice_set l c.args.index (to_z w64 (of_z w64 c.args.value))) c.deref_mut.ensures.value ∙ ap (slice_set o.fields.items c.args.index) same in
    changed_there c.args.objects.now c.args.number c.index-objects-number.result _ (λ x. with_fields x (slice_set x.fields c.args.index c.args.value)) some c.if-number-count.false c.index-objects-number.is (ap (with_fields (object_of o)) written)
