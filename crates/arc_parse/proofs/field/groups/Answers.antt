use Rattle.std.proofs.Common.{arith}
use Rattle.arc_parse.proofs.Fields.{groups_start, read_groups_on}
use Rattle.arc_parse.proofs.field.groups.Goals as goal

pub groups-preserved : goal.groups-preserved
groups-preserved c = grind (arith, read_groups_on, groups_start)

pub returns-in_err-visibility-clause-gives : goal.returns-in_err-visibility-clause-gives
returns-in_err-visibility-clause-gives c = grind (arith, read_groups_on, groups_start)

pub groups-init : goal.groups-init
groups-init c = grind (arith, read_groups_on, groups_start)

pub returns-clause-gives : goal.returns-clause-gives
returns-clause-gives c = grind (arith, read_groups_on, groups_start)
