use Rattle.std.proofs.Common.{◌≡◌, ap, ◌∙◌, option_map, arith}
use Rattle.std.proofs.lemmas.Grind.{common_steps}
use Rattle.arc_ast.specs.Tree.{type_tree}
use Rattle.arc_judge.specs.Fault.{reported}
use Rattle.arc_scope.specs.Scopes.{declare}
use Rattle.arc_scope.specs.Views.{seen}
use Rattle.arc_scope.proofs.VisibleVariables.{parameters_turn}
use Rattle.arc_judge.proofs.DeclarationViolations.{reported_turn}
use Rattle.arc_judge.proofs.body.parameters.Goals as goal

pub loop-parameter-preserved : goal.loop-parameter-preserved
loop-parameter-preserved c =
    let table = c.args.table.now in
    let xs = c.args.all.now in
    let i = c.loop-parameter.parameter-index in
    let x = c.parameter-item.result in
    let s = seen table c.loop-parameter.visible in
    let new = seen table c.declare.new.self in
    let type = type_tree x.type_name in
    let after : new ≡ declare x.name.items type s = c.in_ok-declare.ensures.scope ∙ ap (λ n. declare n type s) c.deref.ensures.value in
    record {
      fault = reported_turn s new xs i x (option_map reported c.loop-parameter.fault) (option_map reported c.place_fault.result) (option_map reported c.earlier-fault.result) _ c.loop-parameter-test.true c.parameter-item.is (c.place_fault.ensures table) after c.earlier-fault.ensures c.loop-parameter.invariant.fault;
      scope = parameters_turn xs i x s new _ c.loop-parameter-test.true c.parameter-item.is after c.loop-parameter.invariant.scope;
    }

pub returns-clause-scope : goal.returns-clause-scope
returns-clause-scope c = grind (arith, common_steps)
