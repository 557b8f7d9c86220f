use Rattle.std.proofs.Common.{◌≡◌, ◌∙◌, ◌++◌, ◌∷◌, [], Some, None, Bool, List, ℕ, is_some, length, sym, ap, arith}
use Rattle.std.proofs.lemmas.Grind.{common_steps}
use Rattle.std.proofs.lemmas.List.{length-map}
use Rattle.arc_class.specs.declared.owners.Owners.{Owners}
use Rattle.arc_class.specs.Lookups.{at_name}
use Rattle.arc_class.specs.Owners.{views, view_of, view_at, with_own}
use Rattle.arc_class.proofs.NearestOwner.{no_change, own_view, pushed_views, pushed_owners}
use Rattle.arc_class.proofs.owners.Owners.add_class.Goals as goal

pub returns-in_default-clause-owners : goal.returns-in_default-clause-owners
returns-in_default-clause-owners g c =
    let old = c.args.self.now in
    let new : Owners = record { maps = old.maps; classes = c.push.new.self } in
    pushed_owners old new None (no_change old.maps) c.requires c.in_ok-push.ensures.items tt

pub returns-clause-owners : goal.returns-clause-owners
returns-clause-owners g c =
    let old = c.args.self.now in
    let new : Owners = record { maps = c.with_names.new.self; classes = c.push-2.new.self } in
    let added = c.in_ok-made.ensures.added in
    pushed_owners old new (Some c.in_ok-made.made) added.keeps c.requires c.in_ok-push-2.ensures.items added.is_map

pub returns-clause-added : goal.returns-clause-added
returns-clause-added g c =
    let old = c.args.self.now in
    let new : Owners = record { maps = c.with_names.new.self; classes = c.push-2.new.self } in
    let added = c.in_ok-made.ensures.added in
    let passes : List ℕ → Bool = λ name. is_some (at_name c.args.names.now name) in
    let above = view_at (views old) c.args.superclass in
    let number : c.in-Ok.class ≡ length (views old) = c.in-Ok.ensures.1 ∙ ap length c.deref-classes.ensures.value ∙ sym (length-map old.classes.items (view_of old.maps)) in
    pushed_views old new (Some c.in_ok-made.made) added.keeps c.requires c.in_ok-push-2.ensures.items
    ∙ ap (λ v. views old ++ v ∷ []) (own_view old.maps new.maps c.in-Some.map c.in_ok-made.made passes c.in-Ok.class above added c.in-Some.ensures.view)
    ∙ ap (λ n. views old ++ with_own passes n above ∷ []) number

pub returns-in_default-clause-added : goal.returns-in_default-clause-added
returns-in_default-clause-added g c = grind (arith, common_steps)
