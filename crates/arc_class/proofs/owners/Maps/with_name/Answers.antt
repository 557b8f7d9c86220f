use Rattle.std.proofs.Common.{◌≡◌, ◌≤◌, ◌^◌, ◌∙◌, Some, length, position, ap, sym, arith}
use Rattle.std.specs.Str.{bytes_eq}
use Rattle.std.proofs.lemmas.Bool.Decides.{nat_tests}
use Rattle.std.proofs.lemmas.List.{length-map}
use Rattle.arc_class.specs.declared.owners.Maps.{Maps}
use Rattle.arc_class.specs.Classes.{and_name, number_among}
use Rattle.arc_class.specs.Lookups.{names_of}
use Rattle.arc_class.specs.Owners.{names_in}
use Rattle.arc_class.proofs.OwnerMapUpdates.{adds_name}
use Rattle.arc_class.proofs.NameEquality.{self_eq, names_with_key, added_place, position_number}
use Rattle.arc_class.proofs.owners.Maps.with_name.Goals as goal

pub returns-clause-added : goal.returns-clause-added
returns-clause-added c =
    let old = c.args.self.now in
    let name = c.args.name in
    let keys = c.insert_full.new.self.keys in
    let new : Maps = record { names = c.insert_full.new.self; nodes = c.put.new.nodes; levels = old.levels } in
    let names : names_in new ≡ and_name (names_in old) name.now = ap names_of c.in_ok-number.ensures.keys ∙ names_with_key old.names.keys name in
    let place : position (λ key. bytes_eq name.now key.now) keys ≡ Some c.in_ok-number.number =
    ap (position (λ key. bytes_eq name.now key.now)) c.in_ok-number.ensures.keys ∙ added_place (λ key. bytes_eq name.now key.now) name (self_eq name.now) old.names.keys ∙ ap Some (sym c.in_ok-number.ensures.index) in
    let numbered : number_among (names_in new) name.now ≡ Some c.in_ok-number.number = sym (position_number keys name.now) ∙ place in
    let few : c.len.result ≤ 2 ^ old.levels = grind (arith, nat_tests) in
    let count : length (names_in new) ≡ c.len.result = length-map keys (λ key. key.now) ∙ sym c.len.ensures.len in
    let fits : length (names_in new) ≤ 2 ^ old.levels = omega arith in
    adds_name old new c.args.map name.now c.in_ok-number.number c.args.class c.in_ok-first.first names numbered fits c.in_ok-first.ensures.put c.requires
