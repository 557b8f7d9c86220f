use Rattle.std.proofs.Common.{is_some, ap, ◌∙◌}
use Rattle.std.specs.BTreeMap.{keys}
use Rattle.std.specs.Map.Iter.{deref}
use Rattle.std.specs.Str.{bytes_eq}
use Rattle.std.proofs.lemmas.Map.Iter.{rest_more, rest_all}
use Rattle.arc_class.specs.NameMaps.{at_name}
use Rattle.arc_class.proofs.OwnerMapUpdates.{any_key, any_named, adding_none, adding_turn, adding_all}
use Rattle.arc_class.proofs.owners.Maps.with_part.Goals as goal

pub loop-name-init : goal.loop-name-init
loop-name-init g c =
    adding_none c.args.self.now c.args.map (any_key (keys c.args.part.now)) (any_key c.into_iter-name-iterator.result) c.args.class c.requires
    (λ sought. ap (λ left. any_key left sought) (c.into_iter-name-iterator.ensures.into_iter_gives ∙ c.keys-name-items.ensures.rest))

pub with_name-requires : goal.with_name-requires
with_name-requires g c = c.loop-name.invariant.is_map

pub loop-name-preserved : goal.loop-name-preserved
loop-name-preserved g c =
    adding_turn c.args.self.now c.loop-name.self c.with_name.new.self c.args.map c.loop-name.made c.in_ok-made.made (any_key (keys c.args.part.now)) (any_key c.loop-name.name-iterator)
    (any_key c.next.new.self) (λ sought. bytes_eq sought c.in-Some.name.now.now) c.args.class
    (λ sought. ap (λ left. any_key left sought) (rest_more deref c.loop-name.name-iterator c.next.new.self c.next.result c.in-Some.name c.in-Some.is c.next.ensures.steps))
    c.loop-name.invariant c.in_ok-made.ensures.added

pub returns-clause-added : goal.returns-clause-added
returns-clause-added g c =
    adding_all c.args.self.now c.loop-name.self c.args.map c.loop-name.made (any_key (keys c.args.part.now)) (any_key c.loop-name.name-iterator)
    (λ sought. is_some (at_name c.args.part.now.entries sought)) c.args.class
    (λ sought. ap (λ left. any_key left sought) (rest_all deref c.loop-name.name-iterator c.next.new.self c.next.result c.in-None.is c.next.ensures.steps))
    (any_named c.args.part.now.entries) c.loop-name.invariant
