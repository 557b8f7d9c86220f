use Rattle.std.proofs.Common.{option_map, refl, sym, ap, ◌∙◌}
use Rattle.arc_class.specs.Table.{number_of_class}
use Rattle.arc_scope.proofs.message.super_result.Goals as goal

pub returns-in-None : goal.returns-in-None
returns-in-None c = rw (sym c.above.ensures ∙ ap (option_map number_of_class) c.in-None.is) refl

pub returns-in-Some : goal.returns-in-Some
returns-in-Some c = rw (sym c.above.ensures ∙ ap (option_map number_of_class) c.in-Some.is) c.result.ensures
