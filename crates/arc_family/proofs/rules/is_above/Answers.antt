use Rattle.std.proofs.Common.{option_map, sym, ap, ◌∙◌}
use Rattle.std.specs.Bool.{nat_eq}
use Rattle.std.specs.List.{list_any}
use Rattle.arc_spec.specs.Classes as spec
use Rattle.arc_class.specs.Table.{number_of_class}
use Rattle.arc_family.specs.Rules as rules
use Rattle.arc_family.proofs.SuperclassesAgree.{same_superclasses}
use Rattle.arc_family.proofs.rules.is_above.Goals as goal

pub returns : goal.returns
returns c = λ u table.
    let other = option_map number_of_class c.args.other in
    let class = number_of_class c.in-Some.class in
    c.descends_from.ensures
    ∙ ap (λ from. spec.descends (spec.classes_of c.deref.result.now) from class) c.number_of.ensures
    ∙ ap (λ all. spec.descends (spec.classes_of all) other class) c.deref.ensures.value
    ∙ ap (λ all. spec.descends all other class) table.classes
    ∙ ap (λ all. list_any (λ a. nat_eq a class) (spec.ancestry all other)) (same_superclasses u)
    ∙ ap (λ o. rules.is_above u (option_map number_of_class o) other) (sym c.in-Some.is)
