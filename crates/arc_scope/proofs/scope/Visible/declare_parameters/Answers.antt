use Rattle.std.proofs.Common.{◌+◌, drop, sym, ap, ◌∙◌}
use Rattle.arc_ast.specs.Tree.{type_tree, parameter_trees}
use Rattle.arc_scope.specs.Scopes.{declare, with_parameters}
use Rattle.arc_scope.specs.Views.{seen}
use Rattle.arc_scope.proofs.ListSuffixes.{drop_turn, drop_end}
use Rattle.arc_scope.proofs.scope.Visible.declare_parameters.Goals as goal

pub loop-parameter-preserved : goal.loop-parameter-preserved
loop-parameter-preserved c =
    let table = c.args.table.now in
    let xs = c.args.all.now in
    let k = c.loop-parameter.parameter-index in
    let x = c.parameter-item.result in
    let old = seen table c.loop-parameter.self in
    let rest = parameter_trees (drop (k + 1) xs) in
    c.loop-parameter.invariant ∙ ap (λ us. with_parameters old (parameter_trees us)) (drop_turn xs k x c.loop-parameter-test.true c.parameter-item.is)
    ∙ ap (λ name. with_parameters (declare name (type_tree x.type_name) old) rest) (sym c.deref.ensures.value) ∙ ap (λ s. with_parameters s rest) (sym c.in_ok-declare.ensures.scope)

pub returns : goal.returns
returns c =
    sym (c.loop-parameter.invariant ∙ ap (λ us. with_parameters (seen c.args.table.now c.loop-parameter.self) (parameter_trees us)) (drop_end c.args.all.now c.loop-parameter.parameter-index c.loop-parameter-test.false))
