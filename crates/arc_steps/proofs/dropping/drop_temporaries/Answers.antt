use Rattle.std.proofs.Common.{◌≡◌, ◌<◌, None, take, refl, sym, subst, arith}
use Rattle.std.proofs.lemmas.Bool.{false≢true}
use Rattle.arc_steps.specs.Releases.{Drops}
use Rattle.arc_steps.proofs.TemporaryDropSteps.{popped_block, popped_count, dropped_last, dropped_within, dropped_can, dropped_on}
use Rattle.arc_steps.proofs.dropping.drop_temporaries.Goals as goal

pub loop-objects-init : goal.loop-objects-init
loop-objects-init g c = record { places = c.requires.places; can = c.requires.can; rest = λ new last drops. drops }

pub pop-object-requires-clause-place : goal.pop-object-requires-clause-place
pop-object-requires-clause-place g c = let within = c.loop-objects.invariant.places in omega (arith, within)

pub is_last-requires : goal.is_last-requires
is_last-requires g c =
    let some : 0 < c.loop-objects.objects.temporaries = omega arith in
    record { object = popped_block g.S.Store.out c.loop-objects.objects c.pop-object.new.self c.pop-object.result some c.pop-object.ensures.named c.pop-object.ensures.others c.loop-objects.invariant.can }

pub lower-requires-clause-object : goal.lower-requires-clause-object
lower-requires-clause-object g c =
    let some : 0 < c.loop-objects.objects.temporaries = omega arith in
    popped_block g.S.Store.out c.loop-objects.objects c.pop-object.new.self c.pop-object.result some c.pop-object.ensures.named c.pop-object.ensures.others c.loop-objects.invariant.can

pub lower-requires-clause-some : goal.lower-requires-clause-some
lower-requires-clause-some g c =
    let some : 0 < c.loop-objects.objects.temporaries = omega arith in
    popped_count g.S.Store.out c.loop-objects.objects c.pop-object.new.self c.pop-object.result some c.pop-object.ensures.named c.pop-object.ensures.others c.loop-objects.invariant.can

pub loop-objects-preserved : goal.loop-objects-preserved
loop-objects-preserved g c =
    let h = c.loop-objects.invariant in
    let some : 0 < c.loop-objects.objects.temporaries = omega arith in
    let named = c.pop-object.ensures.named in
    let others = c.pop-object.ensures.others in
    record {
      places = dropped_within g.S.Store.out c.loop-objects.objects c.pop-object.new.self c.pop-object.result some named others c.lower.new.self c.lower.ensures h.places;
      can = dropped_can g.S.Store.out c.loop-objects.objects c.pop-object.new.self c.pop-object.result some named others c.lower.new.self c.lower.ensures h.can;
      rest = λ new last drops. h.rest new last (dropped_on g.S.Store.out c.loop-objects.objects c.pop-object.new.self c.pop-object.result some named others c.lower.new.self c.lower.ensures (λ last. false≢true (c.if-is_last.ensures.1 last)) new last drops);
    }

pub returns-then-is_last : goal.returns-then-is_last
returns-then-is_last g c =
    let some : 0 < c.loop-objects.objects.temporaries = omega arith in
    c.loop-objects.invariant.rest _ _ (dropped_last g.S.Store.out c.loop-objects.objects c.pop-object.new.self c.pop-object.result some c.pop-object.ensures.named c.pop-object.ensures.others (c.if-is_last.ensures.0 refl))

pub returns : goal.returns
returns g c =
    let none : c.loop-objects.objects.temporaries ≡ 0 = omega arith in
    c.loop-objects.invariant.rest _ None (subst (λ n. Drops g.S.Store.out (take n c.loop-objects.objects.places) c.loop-objects.objects c.loop-objects.objects None) (sym none) (refl, refl))
