use Rattle.std.proofs.Common.{◌-◌, refl, ap, ◌∙◌}
use Rattle.arc_ast.specs.Tree.{parameter_trees, stmt_trees}
use Rattle.arc_scope.specs.Views.{seen}
use Rattle.arc_resolve.proofs.StatementResolution.{function_is}
use Rattle.arc_resolve.proofs.program.function.Goals as goal

pub returns : goal.returns
returns c =
    let table = c.args.table.now in
    let before = c.declare_parameters.new.self in
    let after = c.commands.new.visible in
    function_is (parameter_trees c.args.named.now) (stmt_trees c.args.body.now) (record { slots = c.from-3.result; names = c.from-4.result; parameters = c.saturating_sub-parameters.result; gives = c.gives_of.result; owns = after.owns; body = c.in_ok-body.body }) (seen table c.args.visible)
    (seen table before) (seen table after) c.in_ok-declare_parameters.ensures c.in_ok-body.ensures.scope c.in_ok-body.ensures.commands c.from-3.ensures c.from-4.ensures
    (c.saturating_sub-parameters.ensures ∙ ap (λ n. n - c.from-2.result) c.from.ensures ∙ ap (λ n. before.names - n) (c.from-2.ensures ∙ c.owned_in.ensures.number)) c.gives_of.ensures refl
