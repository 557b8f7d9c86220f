use Rattle.arc_parse.proofs.Fields.{read_more_names}
use Rattle.std.proofs.Common.{arith}
use Rattle.arc_parse.proofs.field.named_fields.Goals as goal

pub fields-preserved : goal.fields-preserved
fields-preserved c = grind (arith, read_more_names)

pub returns-clause-gives : goal.returns-clause-gives
returns-clause-gives c = grind (arith, read_more_names)

pub returns-in_err-next_field-2-clause-gives : goal.returns-in_err-next_field-2-clause-gives
returns-in_err-next_field-2-clause-gives c = grind (arith, read_more_names)

pub returns-in_err-expect-clause-gives : goal.returns-in_err-expect-clause-gives
returns-in_err-expect-clause-gives c = grind (arith, read_more_names)
