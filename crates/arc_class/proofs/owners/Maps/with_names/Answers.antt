use Rattle.std.proofs.Common.{◌+◌, drop, is_some, refl, ap, ◌∙◌}
use Rattle.arc_class.specs.NameMaps.{at_name, all_parts}
use Rattle.arc_class.proofs.ListSuffixes.{drop_turn, drop_end}
use Rattle.arc_class.proofs.OwnerMapUpdates.{more_named, adding_none, adding_turn, adding_all}
use Rattle.arc_class.proofs.owners.Maps.with_names.Goals as goal

pub loop-part-init : goal.loop-part-init
loop-part-init g c =
    let parts = c.parts-parts.result.now in
    adding_none c.args.self.now c.args.map (λ sought. is_some (at_name (all_parts parts) sought)) (λ sought. is_some (at_name (all_parts (drop 0 parts)) sought)) c.args.class c.requires (λ sought. refl)

pub with_part-requires : goal.with_part-requires
with_part-requires g c = c.loop-part.invariant.is_map

pub loop-part-preserved : goal.loop-part-preserved
loop-part-preserved g c =
    let parts = c.parts-parts.result.now in
    let i = c.loop-part.part-index in
    let x = c.part-item.result in
    adding_turn c.args.self.now c.loop-part.self c.with_part.new.self c.args.map c.loop-part.made c.in_ok-made.made (λ sought. is_some (at_name (all_parts parts) sought))
    (λ sought. is_some (at_name (all_parts (drop i parts)) sought)) (λ sought. is_some (at_name (all_parts (drop (i + 1) parts)) sought)) (λ sought. is_some (at_name x.entries sought)) c.args.class
    (λ sought. ap (λ left. is_some (at_name (all_parts left) sought)) (drop_turn parts i x c.loop-part-test.true c.part-item.is) ∙ more_named x.entries (all_parts (drop (i + 1) parts)) sought)
    c.loop-part.invariant c.in_ok-made.ensures.added

pub returns-clause-added : goal.returns-clause-added
returns-clause-added g c =
    let parts = c.parts-parts.result.now in
    let i = c.loop-part.part-index in
    adding_all c.args.self.now c.loop-part.self c.args.map c.loop-part.made (λ sought. is_some (at_name (all_parts parts) sought)) (λ sought. is_some (at_name (all_parts (drop i parts)) sought))
    (λ sought. is_some (at_name c.args.names.now sought)) c.args.class (λ sought. ap (λ left. is_some (at_name (all_parts left) sought)) (drop_end parts i c.loop-part-test.false))
    (λ sought. ap (λ map. is_some (at_name map sought)) c.parts-parts.ensures) c.loop-part.invariant
