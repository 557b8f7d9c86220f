use Rattle.std.proofs.Common.{[], option_map}
use Rattle.std.specs.Option.{option_map_or}
use Rattle.arc_ast.specs.Tree.{expr_tree}
use Rattle.arc_class.proofs.FirstBrokenRule.{first_both}
use Rattle.arc_judge.specs.Rules.{broken_test, broken_whole}
use Rattle.arc_scope.specs.Views.{seen}
use Rattle.arc_judge.proofs.body.clauses.Goals as goal

pub returns : goal.returns
returns c =
    let s = seen c.args.table.now c.args.visible.now in
    first_both (option_map_or (broken_test s) (option_map expr_tree c.args.test.now) []) (option_map_or (broken_whole s) (option_map expr_tree c.args.step.now) []) _ _ _ c.maybe_test-test.ensures c.maybe_step.ensures c.earlier.ensures
