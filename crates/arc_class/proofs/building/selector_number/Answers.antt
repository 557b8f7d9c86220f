use Rattle.std.proofs.Common.{unwrap_or, sym, ap, ◌∙◌}
use Rattle.arc_class.proofs.NameEquality.{position_number}
use Rattle.arc_class.proofs.building.selector_number.Goals as goal

pub returns-in-None : goal.returns-in-None
returns-in-None c = ap (λ n. unwrap_or n 0) (sym c.in-None.is ∙ c.get_index_of.ensures.index ∙ position_number c.args.selectors.now.keys c.args.name.now)

pub returns-in-Some : goal.returns-in-Some
returns-in-Some c = ap (λ n. unwrap_or n 0) (sym c.in-Some.is ∙ c.get_index_of.ensures.index ∙ position_number c.args.selectors.now.keys c.args.name.now)
