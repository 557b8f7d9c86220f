use Rattle.std.proofs.Common.{◌≡◌, arith, to_z, of_z, w64, ap, ◌∷◌, ◌++◌, [], ◌∙◌}
use Rattle.std.proofs.lemmas.Int.{to_z-of_z}
use Rattle.std.specs.Prelude.{pos}
use Rattle.arc_spec.specs.World.{padded}
use Rattle.arc_plain.proofs.InitialVariables.{padded_step}
use Rattle.arc_plain.proofs.frame.begin_locals.Goals as goal

pub loop-preserved : goal.loop-preserved
loop-preserved c =
    let n = c.take_number-number.result.0 in
    let same : to_z w64 (of_z w64 n) ≡ n = grind (arith, to_z-of_z) in
    padded_step (pos 0) c.args.slots c.loop.counter (padded (pos 0) c.args.slots c.args.arguments.now) c.loop.locals.items c.push.new.self.items c.loop.rest.now c.take_number-number.result.1.now n
    c.loop-test.true c.loop.invariant c.take_number-number.ensures (c.in_ok-push.ensures.items ∙ ap (λ x. c.loop.locals.items ++ x ∷ []) same)
