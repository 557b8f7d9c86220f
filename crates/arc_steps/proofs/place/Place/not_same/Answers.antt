use Rattle.std.proofs.Common.{◌≡◌, ◌∙◌, pos, Bool, true, false, not, nat_eq, ap, sym, ◌∷◌, length, refl, rules, arith, to_z, of_z, w64}
use Rattle.std.specs.Prelude.{if◌then◌else◌}
use mir.Val.{bool_byte}
use Rattle.arc_code.specs.CodeSteps.{program_of}
use Rattle.arc_cells.specs.Representation.{with_names}
use Rattle.arc_steps.specs.Places.{machine_view}
use Rattle.arc_steps.proofs.ReferenceTestSimulation.{differ_few, differ_went}
use Rattle.arc_steps.proofs.place.Place.not_same.Goals as goal

tested : (b : Bool) → pos (bool_byte (not b)) ≡ (if b then pos 0 else pos 1)
tested true = refl
tested false = refl

pub take-right-requires : goal.take-right-requires
take-right-requires g c = let few = (differ_few g.S.Store.out (program_of c.args._code.now) (machine_view c.args.self.now c.args.objects.now) c.requires.ready).0 in omega (arith, few)

pub take-left-requires : goal.take-left-requires
take-left-requires g c =
    let few = (differ_few g.S.Store.out (program_of c.args._code.now) (machine_view c.args.self.now c.args.objects.now) c.requires.ready).0 in
    let rest = ap length c.take-right.ensures.named in
    omega (arith, few, rest)

pub push-requires : goal.push-requires
push-requires g c = let room = (differ_few g.S.Store.out (program_of c.args._code.now) (machine_view c.args.self.now c.args.objects.now) c.requires.ready).1 in omega (arith, room, c.requires.room)

pub returns-clause-went : goal.returns-clause-went
returns-clause-went g c =
    let same : c.from.result ≡ to_z w64 (of_z w64 c.from.result) = search rules in
    differ_went g.S.Store.out (program_of c.args._code.now) (machine_view c.args.self.now c.args.objects.now) _ _ _ _ _ (c.take-right.ensures.named ∙ ap (λ l. c.take-right.result ∷ l) c.take-left.ensures.named)
    (c.from.ensures ∙ tested (nat_eq c.take-right.result c.take-left.result)) refl (ap (λ x. x.items) c.push.ensures.value ∙ ap (λ n. n ∷ c.args.self.now.stack.items) (sym same))
    (c.take-left.ensures.others ∙ ap (λ x. with_names x c.take-left.new.self.names) c.take-right.ensures.others)
