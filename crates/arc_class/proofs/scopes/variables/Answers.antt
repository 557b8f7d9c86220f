use Rattle.std.proofs.Common.{refl, arith}
use Rattle.std.proofs.lemmas.Grind.{common_steps}
use Rattle.arc_ast.specs.Tree.{variable_tree, variable_trees}
use Rattle.arc_class.specs.private.Scopes.{holds}
use Rattle.arc_class.proofs.ScopeNames.{variable_turn}
use Rattle.arc_class.proofs.scopes.variables.Goals as goal

pub loop-variable-preserved : goal.loop-variable-preserved
loop-variable-preserved c =
    let x = c.variable-item.result in
    let known = variable_turn (λ us. variable_trees us) (variable_tree x) (holds c.loop-variable.scope) (holds c.declare.new.scope) _ c.args.all.now c.loop-variable.variable-index x _ _ _ _ _ refl c.loop-variable-test.true c.variable-item.is c.deref.ensures.value c.in_ok-declare.ensures.fault c.in_ok-declare.ensures.scope c.earlier-fault.ensures c.loop-variable.invariant.fault c.loop-variable.invariant.scope in
    record { fault = known.0; scope = known.1 }

pub returns-clause-fault : goal.returns-clause-fault
returns-clause-fault c = grind (arith, common_steps)

pub returns-clause-scope : goal.returns-clause-scope
returns-clause-scope c = grind (arith, common_steps)
