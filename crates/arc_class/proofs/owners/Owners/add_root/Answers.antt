use Rattle.std.proofs.Common.{◌∙◌, ◌++◌, ◌∷◌, [], Option, Some, None, List, ℕ, refl, ap}
use Rattle.arc_class.specs.declared.owners.Map.{Map}
use Rattle.arc_class.specs.declared.owners.Owners.{Owners}
use Rattle.arc_class.specs.Owners.{views}
use Rattle.arc_class.proofs.NearestOwner.{empty_is_map, empty_view, no_change, pushed_views, pushed_owners}
use Rattle.arc_class.proofs.owners.Owners.add_root.Goals as goal

pub returns-clause-owners : goal.returns-clause-owners
returns-clause-owners c =
    let old = c.args.self.now in
    let new : Owners = record { maps = old.maps; classes = c.push.new.self } in
    let made : Map = record { first = None; otherwise = Some 0 } in
    pushed_owners old new (Some made) (no_change old.maps) c.requires c.in_ok-push.ensures.items (empty_is_map old.maps made refl)

pub returns-clause-added : goal.returns-clause-added
returns-clause-added c =
    let old = c.args.self.now in
    let new : Owners = record { maps = old.maps; classes = c.push.new.self } in
    let made : Map = record { first = None; otherwise = Some 0 } in
    pushed_views old new (Some made) (no_change old.maps) c.requires c.in_ok-push.ensures.items
    ∙ ap (λ (view : List ℕ → Option ℕ). views old ++ Some view ∷ []) (empty_view old.maps (Some 0))
