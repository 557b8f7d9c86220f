use Rattle.std.proofs.Common.{◌≡◌, ◌≤◌, Some, length, map, slice_get, refl, ap, arith}
use Rattle.std.proofs.lemmas.List.{length-map}
use Rattle.std.proofs.lemmas.Option.{slice_get_read}
use Rattle.arc_class.specs.Lookups.{superclass_of_entry, own_result_in}
use Rattle.arc_class.specs.Owners.{views, owner_by}
use Rattle.arc_class.proofs.NearestOwner.{finds_all}
use Rattle.arc_class.proofs.FieldMethodOwners.{follows_none, one_more_class, entry_turn}
use Rattle.arc_class.proofs.nearest.method_owners.Goals as goal

pub loop-class-init : goal.loop-class-init
loop-class-init c =
    let all = c.args.entries.now in
    record {
      owners = c.new-owners.ensures.owners;
      counted = ap length c.new-owners.ensures.none;
      follows = follows_none (map superclass_of_entry all) (owner_by (λ class selector. own_result_in class (slice_get all class) c.args.sign selector)) (views c.new-owners.result) c.new-owners.ensures.none;
    }

pub loop-class-preserved : goal.loop-class-preserved
loop-class-preserved c =
    let all = c.args.entries.now in
    let i = c.loop-class.class in
    let entry = c.index-entries-class.result in
    let old = views c.loop-class.owners in
    let new = views c.add_entry.new.owners in
    let there : slice_get all i ≡ Some entry = slice_get_read all (length all) i entry refl c.loop-class-test.true c.index-entries-class.is in
    record {
      owners = c.in_ok-add_entry.ensures.owners;
      counted = one_more_class old new _ i c.in_ok-add_entry.ensures.added c.loop-class.invariant.counted;
      follows = entry_turn all c.args.sign i old new entry c.loop-class.invariant.counted there c.requires c.loop-class.invariant.follows c.in_ok-add_entry.ensures.added;
    }

pub returns-clause-finds : goal.returns-clause-finds
returns-clause-finds c =
    let all = c.args.entries.now in
    let few : length (views c.loop-class.owners) ≤ length (map superclass_of_entry all) = omega (arith, length-map all superclass_of_entry, c.loop-class.invariant.counted, c.loop-class.auto.class-end) in
    finds_all (map superclass_of_entry all) (owner_by (λ class selector. own_result_in class (slice_get all class) c.args.sign selector)) (views c.loop-class.owners) few c.loop-class.invariant.follows
