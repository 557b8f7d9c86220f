use Rattle.std.proofs.Common.{option_map, ap}
use Rattle.arc_ast.specs.Tree.{unit_tree, function_trees, global_trees, interface_trees, implementation_trees}
use Rattle.arc_judge.specs.Fault.{reported}
use Rattle.arc_judge.proofs.SourceViolations.{reported_of_unit}
use Rattle.arc_judge.proofs.unit.judge_unit.Goals as goal

pub returns : goal.returns
returns c =
    reported_of_unit (unit_tree c.args.unit.now) c.args.table.now (function_trees c.deref.result.now) (global_trees c.deref-2.result.now) (interface_trees c.deref-3.result.now) (implementation_trees c.deref-4.result.now)
    (option_map reported c.in_ok-functions.functions) (option_map reported c.judge_globals-globals.result) (option_map reported c.judge_interfaces-interfaces.result) (option_map reported c.in_ok-implementations.implementations)
    (option_map reported c.earlier-classes.result) (option_map reported c.earlier.result) (option_map reported c.earlier-2.result) c.requires (ap function_trees c.deref.ensures.value) (ap global_trees c.deref-2.ensures.value) (ap interface_trees c.deref-3.ensures.value) (ap implementation_trees c.deref-4.ensures.value)
    c.in_ok-functions.ensures c.judge_globals-globals.ensures c.judge_interfaces-interfaces.ensures c.in_ok-implementations.ensures c.earlier-classes.ensures c.earlier.ensures c.earlier-2.ensures
