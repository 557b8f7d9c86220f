use Rattle.std.proofs.Common.{arith}
use Rattle.std.proofs.lemmas.Grind.{common_steps}
use Rattle.arc_ast.specs.Tree.{type_tree, variable_trees}
use Rattle.arc_resolve.specs.SourceResolution.{resolved_variables}
use Rattle.arc_scope.specs.Views.{seen}
use Rattle.arc_resolve.proofs.StatementResolution.{declared_turn, declared_end}
use Rattle.arc_scope.proofs.VisibleVariables.{keeps_turn}
use Rattle.arc_scope.proofs.DeclaredVariables.{with_turn}
use Rattle.arc_resolve.proofs.program.variables.Goals as goal

pub loop-variable-preserved : goal.loop-variable-preserved
loop-variable-preserved c =
    let table = c.args.table.now in
    let xs = c.args.declared.now in
    let i = c.loop-variable.variable-index in
    let x = c.variable-item.result in
    let s = seen table c.loop-variable.visible in
    let type = type_tree c.args.type_name.now in
    let new = seen table c.add_variable.new.visible in
    let whole = resolved_variables type (seen table c.args.visible.now) (variable_trees xs) in
    let done = c.in_ok-add_variable.ensures in
    record {
      commands = declared_turn type s new xs i x c.loop-variable.all.items c.add_variable.new.all.items whole c.loop-variable-test.true c.variable-item.is done.scope done.commands c.loop-variable.invariant.commands;
      scope = with_turn type s new _ xs i x c.loop-variable-test.true c.variable-item.is done.scope c.loop-variable.invariant.scope;
      keeps = keeps_turn c.args.visible.now.bound.items c.loop-variable.visible.bound.items c.add_variable.new.visible.bound.items c.loop-variable.invariant.keeps done.keeps;
    }

pub returns-clause-commands : goal.returns-clause-commands
returns-clause-commands c =
    let type = type_tree c.args.type_name.now in
    let s = seen c.args.table.now c.loop-variable.visible in
    declared_end type s c.args.declared.now c.loop-variable.variable-index c.loop-variable.all.items (resolved_variables type (seen c.args.table.now c.args.visible.now) (variable_trees c.args.declared.now)) c.loop-variable-test.false c.loop-variable.invariant.commands

pub loop-variable-init : goal.loop-variable-init
loop-variable-init c = grind (arith, common_steps)

pub returns-clause-scope : goal.returns-clause-scope
returns-clause-scope c = grind (arith, common_steps)
