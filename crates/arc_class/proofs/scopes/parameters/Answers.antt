use Rattle.std.proofs.Common.{map, refl, arith}
use Rattle.std.proofs.lemmas.Grind.{common_steps}
use Rattle.arc_ast.specs.Tree.{parameter_tree, parameter_trees}
use Rattle.arc_class.specs.SiteRules.{as_variable}
use Rattle.arc_class.specs.private.Scopes.{holds}
use Rattle.arc_class.proofs.ScopeNames.{variable_turn}
use Rattle.arc_class.proofs.scopes.parameters.Goals as goal

pub loop-parameter-preserved : goal.loop-parameter-preserved
loop-parameter-preserved c =
    let x = c.parameter-item.result in
    let known = variable_turn (λ us. map as_variable (parameter_trees us)) (as_variable (parameter_tree x)) (holds c.loop-parameter.scope) (holds c.declare.new.scope) _ c.args.all.now c.loop-parameter.parameter-index x _ _ _ _ _ refl c.loop-parameter-test.true c.parameter-item.is c.deref.ensures.value c.in_ok-declare.ensures.fault c.in_ok-declare.ensures.scope c.earlier-fault.ensures c.loop-parameter.invariant.fault c.loop-parameter.invariant.scope in
    record { fault = known.0; scope = known.1 }

pub returns-clause-fault : goal.returns-clause-fault
returns-clause-fault c = grind (arith, common_steps)

pub returns-clause-scope : goal.returns-clause-scope
returns-clause-scope c = grind (arith, common_steps)
