use Rattle.std.proofs.Common.{◌+◌, ◌||◌, map, drop, ap, sym, ◌∙◌}
use Rattle.arc_spec.specs.Objects.{names, field_places}
use Rattle.arc_plain.specs.Views.{object_of}
use Rattle.arc_plain.proofs.ObjectsReported.{names_fields}
use Rattle.arc_plain.proofs.place.has_field.Goals as goal

pub returns-then-holds : goal.returns-then-holds
returns-then-holds c =
    let all = c.args.objects.now in
    let i = c.loop-one.one-index in
    let rest = names c.args.object (field_places (map object_of (drop (i + 1) all))) in
    sym (c.loop-one.invariant ∙ names_fields c.args.object all i c.one-item.result c.loop-one-test.true c.one-item.is ∙ ap (λ b. b || rest) (sym c.holds.ensures ∙ c.if-holds.true))

pub loop-one-preserved : goal.loop-one-preserved
loop-one-preserved c =
    let all = c.args.objects.now in
    let i = c.loop-one.one-index in
    let rest = names c.args.object (field_places (map object_of (drop (i + 1) all))) in
    c.loop-one.invariant ∙ names_fields c.args.object all i c.one-item.result c.loop-one-test.true c.one-item.is ∙ ap (λ b. b || rest) (sym c.holds.ensures ∙ c.if-holds.false)
