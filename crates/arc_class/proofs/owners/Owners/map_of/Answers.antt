use Rattle.std.proofs.Common.{◌≡◌, ◌∙◌, Some, None, length, slice_get, refl, sym, ap}
use Rattle.std.proofs.lemmas.Bool.{ltb-true, ltb-false}
use Rattle.std.proofs.lemmas.Option.{slice_get_past, slice_get_read}
use Rattle.arc_class.specs.Owners.{views, view_at}
use Rattle.arc_class.proofs.NearestOwner.{empty_is_map, empty_view, known_is_map, known_view, no_view}
use Rattle.arc_class.proofs.owners.Owners.map_of.Goals as goal

pub returns-in_default-clause-view : goal.returns-in_default-clause-view
returns-in_default-clause-view c = ap Some (empty_view c.args.self.now.maps None) ∙ ap (view_at (views c.args.self.now)) (sym c.in_default.is)

pub returns-in_default-clause-is_map : goal.returns-in_default-clause-is_map
returns-in_default-clause-is_map c = empty_is_map c.args.self.now.maps (record { first = None; otherwise = None }) refl

pub returns-in-None-clause-view : goal.returns-in-None-clause-view
returns-in-None-clause-view c =
    let self = c.args.self.now in
    let all = c.deref.result.now in
    let class = c.in-Some.class in
    let none : slice_get self.classes.items class ≡ None = ap (λ cs. slice_get cs class) (sym c.deref.ensures.value) ∙ slice_get_past all class (ltb-false _ _ (sym c.in-None.ensures.lookup.0)) in
    no_view self class none ∙ ap (view_at (views self)) (sym c.in-Some.is)

pub returns-in-Some-get-clause-view : goal.returns-in-Some-get-clause-view
returns-in-Some-get-clause-view c =
    let self = c.args.self.now in
    let all = c.deref.result.now in
    let class = c.in-Some.class in
    let map = c.in-Some-get.map.now in
    let there : slice_get self.classes.items class ≡ Some map = ap (λ cs. slice_get cs class) (sym c.deref.ensures.value)
    ∙ slice_get_read all (length all) class map refl (ltb-true _ _ (sym c.in-Some-get.ensures.lookup.0)) c.in-Some-get.ensures.lookup.1 in
    known_view self class map there ∙ ap (view_at (views self)) (sym c.in-Some.is)

pub returns-in-Some-get-clause-is_map : goal.returns-in-Some-get-clause-is_map
returns-in-Some-get-clause-is_map c =
    let self = c.args.self.now in
    let all = c.deref.result.now in
    let class = c.in-Some.class in
    let map = c.in-Some-get.map.now in
    let there : slice_get self.classes.items class ≡ Some map = ap (λ cs. slice_get cs class) (sym c.deref.ensures.value)
    ∙ slice_get_read all (length all) class map refl (ltb-true _ _ (sym c.in-Some-get.ensures.lookup.0)) c.in-Some-get.ensures.lookup.1 in
    known_is_map self class map c.requires there
