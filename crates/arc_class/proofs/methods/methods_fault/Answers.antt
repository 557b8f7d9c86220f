use Rattle.std.proofs.Common.{take, ap, option_map, refl, arith}
use Rattle.std.proofs.lemmas.Grind.{common_steps}
use Rattle.arc_ast.specs.Tree.{head_tree, method_trees}
use Rattle.arc_class.specs.Classes.{heads}
use Rattle.arc_class.specs.KeptNames.{head_in}
use Rattle.arc_class.proofs.ClassViolations.{methods_turn, methods_held}
use Rattle.arc_class.proofs.methods.methods_fault.Goals as goal

pub loop-method-init : goal.loop-method-init
loop-method-init c = record {
  fault = refl;
  held = λ sign selector. ap (option_map (λ h. head_tree h.now)) (c.new-before.ensures sign selector);
}

pub loop-method-preserved : goal.loop-method-preserved
loop-method-preserved c =
    let xs = c.args.methods.now in
    let k = c.loop-method.method-index in
    let x = c.method-item.result in
    record {
      fault = methods_turn xs k x _ _ _ _ c.loop-method-test.true c.method-item.is
          (c.method_fault.ensures (heads (method_trees (take k xs))) c.loop-method.invariant.held) c.earlier-fault.ensures c.loop-method.invariant.fault;
      held = methods_held xs k x (head_in c.loop-method.before) (head_in c.keep.new.self) c.loop-method-test.true c.method-item.is c.in_ok-keep.ensures c.loop-method.invariant.held;
    }

pub returns : goal.returns
returns c = grind (arith, common_steps)
