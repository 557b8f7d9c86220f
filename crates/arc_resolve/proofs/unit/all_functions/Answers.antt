use Rattle.std.proofs.Common.{ap}
use Rattle.arc_ast.specs.Tree.{unit_tree, function_trees, implementation_trees}
use Rattle.arc_resolve.proofs.UnitResolution.{functions_are}
use Rattle.arc_resolve.proofs.unit.all_functions.Goals as goal

pub returns : goal.returns
returns c =
    functions_are (unit_tree c.args.unit.now) c.args.table.now (function_trees c.deref.result.now) (implementation_trees c.deref-2.result.now) c.in_ok-all.all.items c.add_implementations.new.all.items c.requires
    (ap function_trees c.deref.ensures.value) (ap implementation_trees c.deref-2.ensures.value) c.in_ok-all.ensures c.in_ok-add_implementations.ensures
