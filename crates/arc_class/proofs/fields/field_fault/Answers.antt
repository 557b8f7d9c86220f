use Rattle.std.proofs.Common.{◌≡◌, ℕ, Option, ap, ◌∙◌}
use Rattle.std.specs.List.{flat_map}
use Rattle.arc_spec.specs.Classes.{ancestry}
use Rattle.arc_class.specs.Fields.{own_fields, earlier_superclasses}
use Rattle.arc_class.specs.BrokenRules.{broken_if, first}
use Rattle.arc_class.specs.ClassRules.{broken_pair, field_place, is_earlier}
use Rattle.arc_class.specs.private.Entries.{inherited_place}
use Rattle.arc_class.specs.Table.{at_name}
use Rattle.arc_class.proofs.FirstBrokenRule.{first_both}
use Rattle.arc_class.proofs.LeastPlace.{pairs_least}
use Rattle.arc_class.proofs.fields.field_fault.Goals as goal

pub returns : goal.returns
returns c u all e same =
    let x = c.args.field.now in
    let above = c.args.above in
    let own : ℕ → Option ℕ = λ class. field_place x.name.items (own_fields u class) in
    let stands : c.is_earlier-stands.result ≡ is_earlier (field_place x.name.items all) x.at =
    c.is_earlier-stands.ensures ∙ ap (λ o. is_earlier o x.at) (c.at_name.ensures ∙ ap (at_name c.args.places.now) c.deref.ensures.value ∙ same x.name.items) in
    first_both (broken_if (is_earlier (field_place x.name.items all) x.at) x.at 21) (flat_map (λ class. broken_pair (own class) x.at) (ancestry (earlier_superclasses u.interfaces) above)) _ _ _
    (c.fault_if-again.ensures ∙ ap (λ b. first (broken_if b x.at 21)) stands)
    (c.pair_fault.ensures ∙ ap (λ o. first (broken_pair o x.at)) (c.inherited_place-inherited.ensures u e ∙ ap (inherited_place u above) c.deref-2.ensures.value)
    ∙ pairs_least own (ancestry (earlier_superclasses u.interfaces) above) x.at)
    c.earlier.ensures
