-- A format is read byte by byte: its parts, and what they print, after one byte more.
use Rattle.std.proofs.lemmas.List.{get_or_default}
use Rattle.std.proofs.Common.{◌≡◌, ℕ, ◌+◌, ◌<◌, ◌≤◌, List, ◌∷◌, length, get_or, drop, refl, sym, ap, ◌∙◌}
use Rattle.arc_scope.specs.declared.format.Begun.{Begun}
use Rattle.arc_scope.specs.declared.format.Begun.TheVariants.{Nothing}
use Rattle.arc_scope.specs.declared.format.Part.{Part}
use Rattle.arc_scope.specs.declared.format.Reading.TheVariants.{Goes, Gives}
use Rattle.arc_scope.specs.Formats.{reading, before, parts, unfinished, printed}
use Rattle.arc_resolve.specs.declared.piece.Printed.{Printed}
use Rattle.arc_resolve.specs.private.PlainByteRuns.{whole, Adds}
use Rattle.arc_spec.specs.Resolved as resolved
use Rattle.arc_scope.proofs.ListSuffixes.{drop_turn, drop_end}

get_or-any : (xs : List ℕ) (i : ℕ) → i < length xs → get_or xs i 0 ≡ get_or xs i (get_or xs i 0)
get_or-any xs i l = get_or_default xs i 0 (get_or xs i 0) l

parts_turn : (begun : Begun) (xs : List ℕ) (i byte : ℕ) → i < length xs → byte ≡ get_or xs i byte → parts begun (drop i xs) ≡ before (reading begun byte) (λ next. parts next (drop (i + 1) xs))
parts_turn begun xs i byte l e = ap (parts begun) (drop_turn xs i byte l e)

pub goes_turn : (begun next : Begun) (xs : List ℕ) (i byte : ℕ) → i < length xs → byte ≡ get_or xs i byte → reading begun byte ≡ Goes next → parts begun (drop i xs) ≡ parts next (drop (i + 1) xs)
goes_turn begun next xs i byte l e h = parts_turn begun xs i byte l e ∙ rw h refl

pub gives_turn : (begun : Begun) (part : Part) (xs : List ℕ) (i byte : ℕ) → i < length xs → byte ≡ get_or xs i byte → reading begun byte ≡ Gives part → parts begun (drop i xs) ≡ part ∷ parts Nothing (drop (i + 1) xs)
gives_turn begun part xs i byte l e h = parts_turn begun xs i byte l e ∙ rw h refl

pub parts_end : (begun : Begun) (xs : List ℕ) (i : ℕ) → length xs ≤ i → parts begun (drop i xs) ≡ unfinished begun
parts_end begun xs i h = ap (parts begun) (drop_end xs i h)

-- what is printed is the same, once a byte is read
pub goes_on : (all new_all : Printed) (begun next new_begun : Begun) (xs : List ℕ) (i : ℕ) (total : List resolved.Piece) → i < length xs → Goes next ≡ reading begun (get_or xs i 0) → new_begun ≡ next → new_all ≡ all
    → total ≡ whole all (printed (parts begun (drop i xs))) → total ≡ whole new_all (printed (parts new_begun (drop (i + 1) xs)))
goes_on all new_all begun next new_begun xs i total l h b a w =
    rw (a, b) (w ∙ ap (λ us. whole all (printed us)) (goes_turn begun next xs i (get_or xs i 0) l (get_or-any xs i l) (sym h)))

pub gives_on : (all new new_all : Printed) (begun new_begun : Begun) (part : Part) (xs : List ℕ) (i : ℕ) (total : List resolved.Piece) → i < length xs → Gives part ≡ reading begun (get_or xs i 0) → new_begun ≡ Nothing → new_all ≡ new
    → Adds all part new → total ≡ whole all (printed (parts begun (drop i xs))) → total ≡ whole new_all (printed (parts new_begun (drop (i + 1) xs)))
gives_on all new new_all begun new_begun part xs i total l h b a adds w =
    rw (a, b) (w ∙ ap (λ us. whole all (printed us)) (gives_turn begun part xs i (get_or xs i 0) l (get_or-any xs i l) (sym h)) ∙ sym (adds (parts Nothing (drop (i + 1) xs))))
