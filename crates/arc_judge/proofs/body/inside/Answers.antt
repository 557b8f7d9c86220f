use Rattle.std.proofs.Common.{false, option_map, ap, ◌∙◌}
use Rattle.arc_ast.specs.Tree.{parameter_trees, stmt_trees}
use Rattle.arc_class.specs.BrokenRules.{first}
use Rattle.arc_class.proofs.FirstBrokenRule.{first_both}
use Rattle.arc_judge.specs.Fault.{reported}
use Rattle.arc_judge.specs.Rules.{broken_parameters, broken_stmts}
use Rattle.arc_scope.specs.Scopes.{with_parameters}
use Rattle.arc_scope.specs.Views.{seen}
use Rattle.arc_judge.proofs.body.inside.Goals as goal

pub returns : goal.returns
returns c =
    let s = seen c.args.table.now c.args.visible in
    let named = parameter_trees c.args.named.now in
    let all = stmt_trees c.args.all.now in
    first_both (broken_parameters s named) (broken_stmts false (with_parameters s named) all) (option_map reported c.in_ok-fault.fault) (option_map reported c.in_ok-statements.field-0) (option_map reported c.earlier.result)
    c.in_ok-fault.ensures.fault (c.in_ok-statements.ensures.fault ∙ ap (λ q. first (broken_stmts false q all)) c.in_ok-fault.ensures.scope) c.earlier.ensures
