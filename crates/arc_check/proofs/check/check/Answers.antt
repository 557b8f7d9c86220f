use Rattle.arc_ast.specs.Tree.{unit_tree}
use Rattle.arc_judge.specs.Rules.{broken_unit}
use Rattle.arc_check.proofs.Refusals.{unbroken, refused}
use Rattle.arc_check.proofs.check.check.Goals as goal

pub returns-clause-unbroken : goal.returns-clause-unbroken
returns-clause-unbroken c = unbroken (broken_unit (unit_tree c.args.unit.now)) c.in_ok-fault.field-0 c.in_ok-fault.ensures c.in_default.is

pub returns-in-Some-clause-refused : goal.returns-in-Some-clause-refused
returns-in-Some-clause-refused c = refused (broken_unit (unit_tree c.args.unit.now)) c.in_ok-fault.field-0 c.in-Some.fault c.in_ok-fault.ensures c.in-Some.is
