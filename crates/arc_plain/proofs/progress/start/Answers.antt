use Rattle.std.proofs.Common.{◌≡◌, ℕ, List, [], map, reverse, ap, ◌∙◌, rules}
use Rattle.arc_spec.specs.Objects as objects
use Rattle.arc_plain.specs.declared.object.Object.{Object}
use Rattle.arc_plain.proofs.ObjectsReported.{nils_are}
use Rattle.arc_plain.proofs.progress.start.Goals as goal

none_mapped : (f : Object → objects.Object) (xs : List Object) → xs ≡ [] → map f xs ≡ []
none_mapped f xs e = ap (map f) e

none_reversed : (xs : List ℕ) → xs ≡ [] → reverse xs ≡ []
none_reversed xs e = ap reverse e

pub returns : goal.returns
returns c =
    let names = c.in_ok-vec.ensures.items_if_clones_equal (λ y h. h) ∙ nils_are c.args.strong_globals in
    search (rules, names, none_mapped, none_reversed)
