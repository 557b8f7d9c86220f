use Rattle.std.proofs.Common.{◌≡◌, ◌≤◌, ◌∙◌, Some, length, map, slice_get, refl, ap, arith}
use Rattle.std.proofs.lemmas.List.{length-map}
use Rattle.std.proofs.lemmas.Option.{slice_get_read}
use Rattle.arc_class.specs.Lookups.{superclass_of_fields, own_field_in}
use Rattle.arc_class.specs.Owners.{views, owner_by}
use Rattle.arc_class.proofs.NearestOwner.{finds_all}
use Rattle.arc_class.proofs.FieldMethodOwners.{follows_none, one_more_class, field_turn}
use Rattle.arc_class.proofs.nearest.field_owners.Goals as goal

pub loop-known-init : goal.loop-known-init
loop-known-init c =
    let all = c.args.classes.now in
    record {
      owners = c.new-owners.ensures.owners;
      counted = ap length c.new-owners.ensures.none;
      follows = follows_none (map superclass_of_fields all) (owner_by (λ class name. own_field_in (slice_get all class) name)) (views c.new-owners.result) c.new-owners.ensures.none;
    }

pub loop-known-preserved : goal.loop-known-preserved
loop-known-preserved c =
    let all = c.args.classes.now in
    let i = c.loop-known.known-index in
    let known = c.known-item.result in
    let old = views c.loop-known.owners in
    let new = views c.add_class.new.self in
    let there : slice_get all i ≡ Some known = slice_get_read all (length all) i known refl c.loop-known-test.true c.known-item.is in
    let here : slice_get all (length old) ≡ Some known = ap (slice_get all) c.loop-known.invariant.counted ∙ there in
    record {
      owners = c.in_ok-add_class.ensures.owners;
      counted = one_more_class old new _ i c.in_ok-add_class.ensures.added c.loop-known.invariant.counted;
      follows = field_turn all old new known here c.loop-known.invariant.follows c.in_ok-add_class.ensures.added;
    }

pub returns-clause-finds : goal.returns-clause-finds
returns-clause-finds c =
    let all = c.args.classes.now in
    let few : length (views c.loop-known.owners) ≤ length (map superclass_of_fields all) = omega (arith, length-map all superclass_of_fields, c.loop-known.invariant.counted, c.loop-known.auto.known-index-end) in
    finds_all (map superclass_of_fields all) (owner_by (λ class name. own_field_in (slice_get all class) name)) (views c.loop-known.owners) few c.loop-known.invariant.follows
