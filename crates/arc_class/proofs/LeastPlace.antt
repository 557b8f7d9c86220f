-- The least of several places, one more at a time.
use Rattle.std.proofs.Common.{◌≡◌, ℕ, Bool, true, false, ◌&&◌, ◌||◌, nat_lt, nat_eq, if◌then◌else◌, List, [], ◌∷◌, Option, Some, None, refl, sym, ap, ◌∙◌, arith}
use Rattle.std.proofs.lemmas.Bool.Decides.{nat_tests}
use Rattle.std.proofs.lemmas.Option.{none-some}
use Rattle.arc_spec.specs.Classes.{first_that_has}
use Rattle.arc_class.specs.Lookups.{least_of, least_among}
use Rattle.std.specs.List.{flat_map}
use Rattle.arc_class.specs.BrokenRules.{Broken, is_before, earlier, earlier_of, first}
use Rattle.arc_class.specs.ClassRules.{broken_pair}
use Rattle.arc_class.proofs.FirstBrokenRule.{first-append}
use Rattle.arc_class.proofs.LesserAssociative.{lesser-assoc}
use Rattle.std.specs.Option.{option_or}

below_both : (a b c : ℕ) → nat_lt b a ≡ true → nat_lt c b ≡ true → nat_lt c a ≡ true
below_both a b c p q = grind (arith, nat_tests)

below_none : (a b c : ℕ) → nat_lt b a ≡ false → nat_lt c b ≡ false → nat_lt c a ≡ false
below_none a b c p q = grind (arith, nat_tests)

pub least_none : (a : Option ℕ) → least_of a None ≡ a
least_none None = refl
least_none (Some a) = refl

least-assoc : (a b c : Option ℕ) → least_of (least_of a b) c ≡ least_of a (least_of b c)
least-assoc None b c = refl
least-assoc (Some a) None c = refl
least-assoc (Some a) (Some b) None = refl
least-assoc (Some a) (Some b) (Some c) = ap Some (lesser-assoc nat_lt below_both below_none a b c)

-- one class more is seen
pub least_turn : (so_far mine now rest whole all : Option ℕ) → all ≡ least_of mine rest → now ≡ least_of so_far mine → whole ≡ least_of so_far all → whole ≡ least_of now rest
least_turn so_far mine now rest whole all a n w = w ∙ ap (least_of so_far) a ∙ sym (least-assoc so_far mine rest) ∙ ap (λ p. least_of p rest) (sym n)

-- and where none is left, what was seen is all
pub least_over : (so_far rest whole : Option ℕ) → rest ≡ None → whole ≡ least_of so_far rest → so_far ≡ whole
least_over so_far rest whole r w = sym (w ∙ ap (least_of so_far) r ∙ least_none so_far)

-- and there is none where none of the classes has anything
pub nothing_least : {X : Type 0} (own : ℕ → Option X) (place : ℕ → Option ℕ) → ((class : ℕ) → own class ≡ None → place class ≡ None) → (classes : List ℕ)
    → first_that_has own classes ≡ None → least_among place classes ≡ None
nothing_least own place none [] e = refl
nothing_least own place none (class ∷ others) e =
    ap (λ o. least_of o (least_among place others)) (none class (own_none (own class) (first_that_has own others) e))
    ∙ nothing_least own place none others (rest_none (own class) (first_that_has own others) e)
  where
    own_none : {X : Type 0} (a b : Option X) → option_or a b ≡ None → a ≡ None
    own_none None b h = refl
    own_none (Some x) b h = absurd (none-some x (sym h))

    rest_none : {X : Type 0} (a b : Option X) → option_or a b ≡ None → b ≡ None
    rest_none None b h = h
    rest_none (Some x) b h = absurd (none-some x (sym h))

-- ---- two fields with one name

-- the second of two by position
abbrev second : (other at : ℕ) → Broken
second other at = record { at = if nat_lt at other then other else at; number = 21 }

abbrev place : ℕ → Broken
place at = record { at = at; number = 21 }

at_most : (a b at : ℕ) → nat_lt b a ≡ true → nat_lt at a ≡ false → nat_lt at b ≡ false
at_most a b at p q = grind (arith, nat_tests)

at_least : (a b at : ℕ) → nat_lt b a ≡ false → nat_lt at a ≡ true → nat_lt at b ≡ true
at_least a b at p q = grind (arith, nat_tests)

not_less : (a b : ℕ) → nat_lt a b ≡ true → nat_lt b a ≡ false
not_less a b p = grind (arith, nat_tests)

and_no : (o : Bool) → (o && false) ≡ false
and_no true = refl
and_no false = refl

earlier_less : (a b : ℕ) → nat_lt b a ≡ true → earlier (place a) (place b) ≡ place b
earlier_less a b p = ap (λ (o : Bool). if o || (nat_eq b a && nat_lt 21 21) then place b else place a) p

earlier_more : (a b : ℕ) → nat_lt b a ≡ false → earlier (place a) (place b) ≡ place a
earlier_more a b p = ap (λ (o : Bool). if o || (nat_eq b a && nat_lt 21 21) then place b else place a) p ∙ ap (λ (o : Bool). if o then place b else place a) (and_no (nat_eq b a))

earlier_same : (a : ℕ) → earlier (place a) (place a) ≡ place a
earlier_same a = go (is_before (place a) (place a))
  where
    go : (o : Bool) → (if o then place a else place a) ≡ place a
    go true = refl
    go false = refl

is_other : (other at : ℕ) → nat_lt at other ≡ true → (if nat_lt at other then other else at) ≡ other
is_other other at p = ap (λ (o : Bool). if o then other else at) p

is_at : (other at : ℕ) → nat_lt at other ≡ false → (if nat_lt at other then other else at) ≡ at
is_at other at p = ap (λ (o : Bool). if o then other else at) p

-- the earlier of the seconds is the second with the earlier
seconds : (a b at : ℕ) → earlier (second a at) (second b at) ≡ second (if nat_lt b a then b else a) at
seconds a b at = go (nat_lt b a) (nat_lt at a) (nat_lt at b) refl refl refl
  where
    by_parts : (x y z lesser : ℕ) → (if nat_lt at a then a else at) ≡ x → (if nat_lt at b then b else at) ≡ y → (if nat_lt b a then b else a) ≡ lesser → (if nat_lt at lesser then lesser else at) ≡ z
        → earlier (place x) (place y) ≡ place z → earlier (second a at) (second b at) ≡ second (if nat_lt b a then b else a) at
    by_parts x y z lesser e f g h i =
        ap (λ n. earlier (place n) (second b at)) e ∙ ap (λ n. earlier (place x) (place n)) f ∙ i ∙ sym (ap (λ n. second n at) g ∙ ap place h)

    first_of : (p : Bool) → nat_lt b a ≡ p → (if nat_lt b a then b else a) ≡ (if p then b else a)
    first_of p e = ap (λ (o : Bool). if o then b else a) e

    go : (p q r : Bool) → nat_lt b a ≡ p → nat_lt at a ≡ q → nat_lt at b ≡ r → earlier (second a at) (second b at) ≡ second (if nat_lt b a then b else a) at
    go true true true p q r = by_parts a b b b (is_other a at q) (is_other b at r) (first_of true p) (is_other b at r) (earlier_less a b p)
    go true true false p q r = by_parts a at at b (is_other a at q) (is_at b at r) (first_of true p) (is_at b at r) (earlier_less a at q)
    go true false r p q s = by_parts at at at b (is_at a at q) (is_at b at (at_most a b at p q)) (first_of true p) (is_at b at (at_most a b at p q)) (earlier_same at)
    go false true r p q s = by_parts a b a a (is_other a at q) (is_other b at (at_least a b at p q)) (first_of false p) (is_other a at q) (earlier_more a b p)
    go false false true p q r = by_parts at b at a (is_at a at q) (is_other b at r) (first_of false p) (is_at a at q) (earlier_more at b (not_less at b r))
    go false false false p q r = by_parts at at at a (is_at a at q) (is_at b at r) (first_of false p) (is_at a at q) (earlier_same at)

pairs : (a b : Option ℕ) (at : ℕ) → earlier_of (first (broken_pair a at)) (first (broken_pair b at)) ≡ first (broken_pair (least_of a b) at)
pairs None b at = refl
pairs (Some a) None at = refl
pairs (Some a) (Some b) at = ap Some (seconds a b at)

-- of the pairs with a field the first is that with the least place
pub pairs_least : (own : ℕ → Option ℕ) (classes : List ℕ) (at : ℕ) → first (broken_pair (least_among own classes) at) ≡ first (flat_map (λ class. broken_pair (own class) at) classes)
pairs_least own [] at = refl
pairs_least own (class ∷ others) at =
    let rest = flat_map (λ c. broken_pair (own c) at) others in
    sym (pairs (own class) (least_among own others) at) ∙ ap (earlier_of (first (broken_pair (own class) at))) (pairs_least own others at) ∙ sym (first-append (broken_pair (own class) at) rest)
