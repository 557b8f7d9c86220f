use Rattle.std.proofs.Common.{◌≡◌, ap, ◌∙◌, option_map, arith}
use Rattle.std.proofs.lemmas.Grind.{common_steps}
use Rattle.arc_ast.specs.Tree.{type_tree}
use Rattle.arc_judge.specs.Fault.{reported}
use Rattle.arc_scope.specs.Scopes.{declare}
use Rattle.arc_scope.specs.Views.{seen}
use Rattle.arc_scope.proofs.VisibleVariables.{keeps_turn}
use Rattle.arc_judge.proofs.DeclarationViolations.{variables_turn}
use Rattle.arc_scope.proofs.DeclaredVariables.{with_turn}
use Rattle.arc_judge.proofs.body.variables.Goals as goal

pub loop-variable-preserved : goal.loop-variable-preserved
loop-variable-preserved c =
    let table = c.args.table.now in
    let xs = c.args.all.now in
    let i = c.loop-variable.variable-index in
    let x = c.variable-item.result in
    let s = seen table c.loop-variable.visible in
    let type = type_tree c.args.type_name.now in
    let new = seen table c.declare.new.self in
    let after : new ≡ declare x.name.items type s = c.in_ok-declare.ensures.scope ∙ ap (λ n. declare n type s) c.deref.ensures.value in
    record {
      fault = variables_turn type s new xs i x (option_map reported c.loop-variable.fault) (option_map reported c.place_fault.result) (option_map reported c.earlier-fault.result) (option_map reported c.initial.result) (option_map reported c.earlier-fault-in-loop-variable.result) _
          c.loop-variable-test.true c.variable-item.is (c.place_fault.ensures table) after c.earlier-fault.ensures c.initial.ensures c.earlier-fault-in-loop-variable.ensures c.loop-variable.invariant.fault;
      scope = with_turn type s new _ xs i x c.loop-variable-test.true c.variable-item.is after c.loop-variable.invariant.scope;
      keeps = keeps_turn c.args.visible.now.bound.items c.loop-variable.visible.bound.items c.declare.new.self.bound.items c.loop-variable.invariant.keeps c.in_ok-declare.ensures.keeps;
    }

pub returns-clause-scope : goal.returns-clause-scope
returns-clause-scope c = grind (arith, common_steps)
