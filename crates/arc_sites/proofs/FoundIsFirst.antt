-- What is found at some sites is the first of all that is violated there.
use Rattle.std.proofs.Common.{◌≡◌, ℕ, ◌+◌, ◌<◌, List, [], ◌∷◌, ◌++◌, length, get_or, drop, drop-cons, add-one, Option, refl, sym, ap, ◌∙◌}
use Rattle.arc_sites.specs.declared.violation.Violation.{Violation}
use Rattle.arc_sites.specs.Violations.{first, earlier_of}
use Rattle.arc_sites.specs.Sites.{Enclosing, Node, Site}
use Rattle.arc_sites.specs.FoundViolations.{violations_of, found_from}
use Rattle.arc_sites.proofs.FirstViolation.{first-append, earlier_of-assoc, earlier_of-none}

pub found-append : (rules : Enclosing → Node → List Violation) (before : Option Violation) (xs ys : List Site) → found_from rules before (xs ++ ys) ≡ found_from rules (found_from rules before xs) ys
found-append rules before [] ys = refl
found-append rules before (x ∷ xs) ys = found-append rules (earlier_of before (first (rules x.enclosing x.node))) xs ys

-- some sites after others, by the same rules
pub found_both : (rules second : Enclosing → Node → List Violation) (before mid now : Option Violation) (xs ys : List Site)
    → second ≡ rules → mid ≡ found_from rules before xs → now ≡ found_from second mid ys → now ≡ found_from rules before (xs ++ ys)
found_both rules second before mid now xs ys s m n = n ∙ ap (λ r. found_from r mid ys) s ∙ ap (λ f. found_from rules f ys) m ∙ sym (found-append rules before xs ys)

-- the fold finds the first of all violations at all sites
pub found_is : (rules : Enclosing → Node → List Violation) (before : Option Violation) (xs : List Site) → found_from rules before xs ≡ earlier_of before (first (violations_of rules xs))
found_is rules before [] = sym (earlier_of-none before)
found_is rules before (x ∷ xs) =
    found_is rules (earlier_of before (first (rules x.enclosing x.node))) xs
    ∙ earlier_of-assoc before (first (rules x.enclosing x.node)) (first (violations_of rules xs))
    ∙ ap (earlier_of before) (sym (first-append (rules x.enclosing x.node) (violations_of rules xs)))

drop_turn : {A : Type 0} (xs : List A) (i : ℕ) (x : A) → i < length xs → x ≡ get_or xs i x → drop i xs ≡ x ∷ drop (i + 1) xs
drop_turn xs i x l e = drop-cons xs i x l ∙ rw (sym e, add-one) refl

-- The sites of a list are those of its first element and then the rest; one element more is visited, by the same rules.
pub turn : {A : Type 0} (rules now_rules : Enclosing → Node → List Violation) (all_of : List A → List Site) (one rest : List Site) (xs : List A) (i : ℕ) (x : A) (so_far now whole : Option Violation)
    → all_of (x ∷ drop (i + 1) xs) ≡ one ++ rest → now_rules ≡ rules → i < length xs → x ≡ get_or xs i x
    → now ≡ found_from now_rules so_far one → whole ≡ found_from rules so_far (all_of (drop i xs)) → whole ≡ found_from rules now rest
turn rules now_rules all_of one rest xs i x so_far now whole s r l e n w =
    w ∙ ap (found_from rules so_far) (ap all_of (drop_turn xs i x l e) ∙ s) ∙ found-append rules so_far one rest ∙ ap (λ f. found_from rules f rest) (sym (n ∙ ap (λ r. found_from r so_far one) r))

-- some sites after others, and some after both
pub found_three : (rules second third : Enclosing → Node → List Violation) (before mid then now : Option Violation) (xs ys zs : List Site)
    → second ≡ rules → third ≡ second → mid ≡ found_from rules before xs → then ≡ found_from second mid ys → now ≡ found_from third then zs → now ≡ found_from rules before (xs ++ (ys ++ zs))
found_three rules second third before mid then now xs ys zs s t m n o = found_both rules second before mid now xs (ys ++ zs) s m (found_both second third mid then now ys zs t n o)

-- the same of sites that are those in a row
pub found_both_as : (rules second : Enclosing → Node → List Violation) (before mid now : Option Violation) (xs ys all : List Site)
    → all ≡ xs ++ ys → second ≡ rules → mid ≡ found_from rules before xs → now ≡ found_from second mid ys → now ≡ found_from rules before all
found_both_as rules second before mid now xs ys all a s m n = found_both rules second before mid now xs ys s m n ∙ ap (found_from rules before) (sym a)

pub found_three_as : (rules second third : Enclosing → Node → List Violation) (before mid then now : Option Violation) (xs ys zs all : List Site)
    → all ≡ xs ++ (ys ++ zs) → second ≡ rules → third ≡ second → mid ≡ found_from rules before xs → then ≡ found_from second mid ys → now ≡ found_from third then zs
    → now ≡ found_from rules before all
found_three_as rules second third before mid then now xs ys zs all a s t m n o = found_three rules second third before mid then now xs ys zs s t m n o ∙ ap (found_from rules before) (sym a)
