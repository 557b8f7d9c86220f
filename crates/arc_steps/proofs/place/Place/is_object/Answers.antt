use Rattle.std.proofs.Common.{◌≡◌, ◌∙◌, pos, Bool, true, false, not, nat_eq, ap, sym, ◌∷◌, refl, rules, arith, to_z, of_z, w64}
use Rattle.std.specs.Prelude.{if◌then◌else◌}
use mir.Val.{bool_byte}
use Rattle.arc_code.specs.CodeSteps.{program_of}
use Rattle.arc_steps.specs.Places.{machine_view}
use Rattle.arc_steps.proofs.ReferenceTestSimulation.{is_object_few, is_object_went}
use Rattle.arc_steps.proofs.place.Place.is_object.Goals as goal

tested : (b : Bool) → pos (bool_byte (not b)) ≡ (if b then pos 0 else pos 1)
tested true = refl
tested false = refl

pub take-object-requires : goal.take-object-requires
take-object-requires g c = (is_object_few g.S.Store.out (program_of c.args._code.now) (machine_view c.args.self.now c.args.objects.now) c.requires.ready).0

pub push-requires : goal.push-requires
push-requires g c = let room = (is_object_few g.S.Store.out (program_of c.args._code.now) (machine_view c.args.self.now c.args.objects.now) c.requires.ready).1 in omega (arith, room, c.requires.room)

pub returns-clause-went : goal.returns-clause-went
returns-clause-went g c =
    let same : c.from.result ≡ to_z w64 (of_z w64 c.from.result) = search rules in
    is_object_went g.S.Store.out (program_of c.args._code.now) (machine_view c.args.self.now c.args.objects.now) _ _ _ _ c.take-object.ensures.named
    (c.from.ensures ∙ tested (nat_eq c.take-object.result 0)) refl (ap (λ x. x.items) c.push.ensures.value ∙ ap (λ n. n ∷ c.args.self.now.stack.items) (sym same)) c.take-object.ensures.others
