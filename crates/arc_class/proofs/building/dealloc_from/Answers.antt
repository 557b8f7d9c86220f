use Rattle.std.proofs.Common.{sym, ◌∙◌, arith}
use Rattle.std.proofs.lemmas.Grind.{common_steps}
use Rattle.arc_class.proofs.RuntimeMethods.{found_dealloc, no_dealloc}
use Rattle.arc_class.proofs.building.dealloc_from.Goals as goal

pub returns-then-is_dealloc-clause-found : goal.returns-then-is_dealloc-clause-found
returns-then-is_dealloc-clause-found c =
    found_dealloc c.args.methods.now c.loop-method.method-index c.method-item.result c.loop-method.runs _ c.loop-method-test.true c.method-item.is (sym c.is_dealloc.ensures ∙ c.if-is_dealloc.true) c.loop-method.invariant.sought

pub loop-method-preserved : goal.loop-method-preserved
loop-method-preserved c = record {
  sought = no_dealloc c.args.methods.now c.loop-method.method-index c.method-item.result c.loop-method.runs _ c.loop-method-test.true c.method-item.is (sym c.is_dealloc.ensures ∙ c.if-is_dealloc.false) c.loop-method.invariant.sought;
  counted = omega (arith, c.loop-method.invariant.counted);
}

pub returns-clause-found : goal.returns-clause-found
returns-clause-found c = grind (arith, common_steps)
