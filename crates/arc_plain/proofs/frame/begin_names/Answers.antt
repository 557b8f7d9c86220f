use Rattle.arc_spec.specs.World.{padded}
use Rattle.arc_plain.proofs.InitialVariables.{padded_step}
use Rattle.arc_plain.proofs.frame.begin_names.Goals as goal

pub loop-preserved : goal.loop-preserved
loop-preserved c =
    padded_step 0 c.args.count c.loop.counter (padded 0 c.args.count c.args.objects.now) c.loop.names.items c.push.new.self.items c.loop.rest.now c.take_object-object.result.1.now c.take_object-object.result.0
    c.loop-test.true c.loop.invariant c.take_object-object.ensures c.in_ok-push.ensures.items
