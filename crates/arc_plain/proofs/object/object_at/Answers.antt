use Rattle.std.proofs.Common.{◌<◌, arith}
use Rattle.arc_plain.proofs.ObjectsReported.{object_found}
use Rattle.arc_plain.proofs.object.object_at.Goals as goal

pub returns : goal.returns
returns c =
    let some : 0 < c.args.number = omega (arith, c.if-number-eq0.false) in
    object_found c.get.result c.args.objects.now c.args.number some c.get.ensures.lookup.0 c.get.ensures.lookup.1
