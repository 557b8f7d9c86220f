use Rattle.std.proofs.Common.{◌≡◌, ◌-◌, ◌<◌, get_or, slice_set, ap, sym, ◌∙◌, arith, rules}
use Rattle.std.proofs.lemmas.List.{with_items_is, places}
use Rattle.std.specs.Vec.{with_items}
use Rattle.arc_spec.specs.Objects.{with_strong_fields}
use Rattle.arc_spec.specs.World.{name_at}
use Rattle.arc_plain.specs.declared.object.Object.{Object}
use Rattle.arc_plain.specs.Views.{object_of, named_in}
use Rattle.arc_plain.proofs.ObjectsReported.{object_here, changed_there}
use Rattle.arc_plain.proofs.object.replace_field.Goals as goal

pub returns-clause-before : goal.returns-clause-before
returns-clause-before c =
    let some : 0 < c.args.number = omega (arith, c.if-number-eq0.false) in
    let there = object_here c.args.objects.now c.args.number c.index-objects-number.result some (omega (arith, some, c.if-number-count.false)) c.index-objects-number.is in
    c.replace.ensures.before ∙ ap (λ l. name_at l c.args.index) c.deref_mut.ensures.value ∙ ap (λ (x : Object). name_at x.strong.items c.args.index) (sym c.index-objects-number.is)
    ∙ ap (λ ob. named_in ob c.args.index) (sym there)

pub returns-clause-after : goal.returns-clause-after
returns-clause-after c =
    let some : 0 < c.args.number = omega (arith, c.if-number-eq0.false) in
    let o = get_or c.args.objects.now (c.args.number - 1) c.index-objects-number.result in
    let written : (with_items o.strong c.replace.new.places).items ≡ slice_set o.strong.items c.args.index c.args.named =
    with_items_is o.strong c.replace.new.places (search (rules, places)) ∙ c.replace.ensures.after ∙ ap (λ l. slice_set l c.args.index c.args.named) c.deref_mut.ensures.value in
    changed_there c.args.objects.now c.args.number c.index-objects-number.result _ (λ x. with_strong_fields x (slice_set x.strong c.args.index c.args.named)) some c.if-number-count.false c.index-objects-number.is (ap (with_strong_fields (object_of o)) written)
