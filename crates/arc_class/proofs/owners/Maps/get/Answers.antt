use Rattle.std.proofs.Common.{◌≡◌, ◌∙◌, Some, None, ap, sym}
use Rattle.arc_class.specs.Classes.{number_among}
use Rattle.arc_class.specs.NumberMaps.{at_number}
use Rattle.arc_class.specs.Owners.{names_in, at_number_of}
use Rattle.arc_class.proofs.NameEquality.{position_number}
use Rattle.arc_class.proofs.owners.Maps.get.Goals as goal
use Rattle.std.specs.Option.{option_or}

pub returns-in_default : goal.returns-in_default
returns-in_default c =
    let maps = c.args.self.now in
    let map = c.args.map in
    let name = c.args.name.now in
    let none : None ≡ number_among (names_in maps) name = sym c.in_default.is ∙ c.get_index_of.ensures.index ∙ position_number maps.names.keys name in
    ap (λ o. option_or (at_number_of maps map.first o) map.otherwise) none

pub returns-in-None : goal.returns-in-None
returns-in-None c =
    let maps = c.args.self.now in
    let map = c.args.map in
    let name = c.args.name.now in
    let number = c.in-Some.number in
    let there : Some number ≡ number_among (names_in maps) name = sym c.in-Some.is ∙ c.get_index_of.ensures.index ∙ position_number maps.names.keys name in
    let none : None ≡ at_number maps.levels maps.nodes.items map.first number = sym c.in-None.is ∙ c.find.ensures ∙ ap (λ nodes. at_number maps.levels nodes map.first number) c.deref.ensures.value in
    ap (λ o. option_or o map.otherwise) none ∙ ap (λ o. option_or (at_number_of maps map.first o) map.otherwise) there

pub returns-in-Some-find : goal.returns-in-Some-find
returns-in-Some-find c =
    let maps = c.args.self.now in
    let map = c.args.map in
    let name = c.args.name.now in
    let number = c.in-Some.number in
    let there : Some number ≡ number_among (names_in maps) name = sym c.in-Some.is ∙ c.get_index_of.ensures.index ∙ position_number maps.names.keys name in
    let found : Some c.in-Some-find.class ≡ at_number maps.levels maps.nodes.items map.first number =
    sym c.in-Some-find.is ∙ c.find.ensures ∙ ap (λ nodes. at_number maps.levels nodes map.first number) c.deref.ensures.value in
    ap (λ o. option_or o map.otherwise) found ∙ ap (λ o. option_or (at_number_of maps map.first o) map.otherwise) there
