use Rattle.std.proofs.Common.{◌<◌, map, refl, arith}
use Rattle.arc_spec.specs.Objects.{in_phase}
use Rattle.arc_plain.specs.Views.{object_of, phase_of}
use Rattle.arc_plain.proofs.ObjectsReported.{unchanged_nil, unchanged_past, changed_there}
use Rattle.arc_plain.proofs.object.turn.Goals as goal

pub returns-then-number-eq0 : goal.returns-then-number-eq0
returns-then-number-eq0 c = unchanged_nil (map object_of c.args.objects.now) c.args.number (in_phase (phase_of c.args.phase)) c.if-number-eq0.true

pub returns-then-number-count : goal.returns-then-number-count
returns-then-number-count c = unchanged_past c.args.objects.now c.args.number (in_phase (phase_of c.args.phase)) (omega arith)

pub returns : goal.returns
returns c =
    let some : 0 < c.args.number = omega (arith, c.if-number-eq0.false) in
    changed_there c.args.objects.now c.args.number c.index-objects-number.result _ (in_phase (phase_of c.args.phase)) some c.if-number-count.false c.index-objects-number.is refl
