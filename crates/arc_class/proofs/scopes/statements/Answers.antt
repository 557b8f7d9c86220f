use Rattle.std.proofs.Common.{refl, arith}
use Rattle.std.proofs.lemmas.Grind.{common_steps}
use Rattle.arc_ast.specs.Tree.{stmt_tree}
use Rattle.arc_class.specs.SiteRules.{declared_in}
use Rattle.arc_class.specs.private.Scopes.{holds}
use Rattle.arc_class.proofs.ScopeNames.{statement_turn}
use Rattle.arc_class.proofs.scopes.statements.Goals as goal

pub loop-stmt-preserved : goal.loop-stmt-preserved
loop-stmt-preserved c =
    statement_turn (declared_in (stmt_tree c.stmt-item.result)) (holds c.loop-stmt.scope) (holds c.statement.new.scope) c.args.all.now c.loop-stmt.stmt-index c.stmt-item.result _ _ _ _
    refl c.loop-stmt-test.true c.stmt-item.is c.in_ok-statement.ensures.fault c.in_ok-statement.ensures.scope c.earlier-fault.ensures c.loop-stmt.invariant

pub returns : goal.returns
returns c = grind (arith, common_steps)
