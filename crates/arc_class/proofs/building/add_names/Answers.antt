use Rattle.std.proofs.Common.{◌≡◌, ℕ, suc, ◌+◌, ◌<◌, List, length, get_or, drop, fold, add-one, drop-cons, sym, ap, ◌∙◌}
use Rattle.std.specs.Borrow.{Bor}
use Rattle.std.specs.Str.{bytes_eq}
use Rattle.indexmap.specs.IndexSet.{insert_key}
use Rattle.arc_class.specs.Classes.{and_name}
use Rattle.arc_class.specs.Table.{names_of}
use Rattle.arc_class.proofs.NameEquality.{names_with_key}
use Rattle.arc_class.proofs.building.add_names.Goals as goal

-- one more is added
names_turn : (xs : List (Bor (List ℕ))) (k : ℕ) (d : Bor (List ℕ)) (old new : List (Bor (List ℕ))) (whole : List (List ℕ)) → k < length xs
    → new ≡ insert_key (λ x y. bytes_eq x.now y.now) old (get_or xs k d) → whole ≡ fold and_name (names_of old) (names_of (drop k xs)) → whole ≡ fold and_name (names_of new) (names_of (drop (k + 1) xs))
names_turn xs k d old new whole l n w =
    w ∙ ap (λ us. fold and_name (names_of old) (names_of us)) (drop-cons xs k d l)
    ∙ ap (λ ns. fold and_name ns (names_of (drop (suc k) xs))) (sym (ap names_of n ∙ names_with_key old (get_or xs k d)))
    ∙ ap (λ m. fold and_name (names_of new) (names_of (drop m xs))) (sym (add-one k))

pub loop-name-preserved : goal.loop-name-preserved
loop-name-preserved c = names_turn c.args.added.now c.loop-name.name-index _ c.loop-name.names.keys c.insert.new.self.keys _ c.loop-name-test.true c.in_ok-insert.ensures.keys c.loop-name.invariant
