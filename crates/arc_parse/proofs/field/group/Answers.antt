use Rattle.std.proofs.Common.{arith}
use Rattle.arc_parse.proofs.Fields.{read_group}
use Rattle.arc_parse.proofs.field.group.Goals as goal

pub returns-clause-gives : goal.returns-clause-gives
returns-clause-gives c = grind (arith, read_group)

pub returns-then-begins_qualified_type-clause-gives : goal.returns-then-begins_qualified_type-clause-gives
returns-then-begins_qualified_type-clause-gives c = grind (arith, read_group)

pub returns-in_err-qualifiers-clause-gives : goal.returns-in_err-qualifiers-clause-gives
returns-in_err-qualifiers-clause-gives c = grind (arith, read_group)

pub returns-in_err-next-clause-gives : goal.returns-in_err-next-clause-gives
returns-in_err-next-clause-gives c = grind (arith, read_group)

pub returns-in_err-typed_fields-clause-gives : goal.returns-in_err-typed_fields-clause-gives
returns-in_err-typed_fields-clause-gives c = grind (arith, read_group)
