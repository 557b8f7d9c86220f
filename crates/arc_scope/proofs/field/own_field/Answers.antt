use Rattle.std.proofs.Common.{ap, ◌∙◌}
use Rattle.arc_class.specs.Table.{field_in_table}
use Rattle.arc_scope.proofs.field.own_field.Goals as goal

pub returns : goal.returns
returns c = c.field.ensures ∙ ap (λ o. field_in_table c.args.table.now o c.args.name.now) (c.own_class.ensures c.args.table.now)
