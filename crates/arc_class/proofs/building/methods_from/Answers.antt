use Rattle.std.proofs.Common.{arith}
use Rattle.std.proofs.lemmas.Grind.{common_steps}
use Rattle.arc_class.specs.Table.{names_of}
use Rattle.arc_class.proofs.RuntimeMethods.{method_turn}
use Rattle.arc_class.proofs.building.methods_from.Goals as goal

pub loop-method-preserved : goal.loop-method-preserved
loop-method-preserved c u same =
    method_turn u (names_of c.args.selectors.now.keys) c.args.methods.now c.loop-method.method-index c.method-item.result c.loop-method.runs c.loop-method.all.items c.add_method.new.all.items _ same c.loop-method-test.true c.method-item.is
    c.in_ok-add_method.ensures (c.loop-method.invariant u same)

pub returns-clause-made : goal.returns-clause-made
returns-clause-made c = grind (arith, common_steps)
