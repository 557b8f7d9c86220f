-- The first violation in a list: in two lists one after the other, and that it is reported before all others.
use Rattle.std.proofs.Common.{◌≡◌, Bool, true, false, List, [], ◌∷◌, ◌++◌, Option, Some, None, if◌then◌else◌, refl, sym, ap, subst, ◌∙◌, arith}
use Rattle.std.specs.List.{Contains}
use Rattle.std.proofs.lemmas.Bool.Decides.{nat_tests}
use Rattle.std.proofs.lemmas.List.Elements.{All-nil, All-cons, All-head, All-tail, All-contains, All-contains_itself}
use Rattle.std.proofs.lemmas.Option.{none-some, same_Some}
use Rattle.arc_sites.specs.declared.violation.Violation.{Violation}
use Rattle.arc_sites.specs.Violations.{is_before, earlier, earlier_of, first, IsFirst}

before_all : (a b c : Violation) → is_before b a ≡ true → is_before c b ≡ true → is_before c a ≡ true
before_all a b c p q = grind (arith, nat_tests)

before_none : (a b c : Violation) → is_before b a ≡ false → is_before c b ≡ false → is_before c a ≡ false
before_none a b c p q = grind (arith, nat_tests)

earlier-assoc : (a b c : Violation) → earlier (earlier a b) c ≡ earlier a (earlier b c)
earlier-assoc a b c = go (is_before b a) (is_before c b) refl refl
  where
    go : (p q : Bool) → is_before b a ≡ p → is_before c b ≡ q → earlier (earlier a b) c ≡ earlier a (earlier b c)
    go true true p q = rw (p, q, before_all a b c p q) refl
    go true false p q = rw (p, q, p) refl
    go false true p q = rw (p, q) refl
    go false false p q = rw (p, q, before_none a b c p q, p) refl

pub earlier_of-assoc : (a b c : Option Violation) → earlier_of (earlier_of a b) c ≡ earlier_of a (earlier_of b c)
earlier_of-assoc None b c = refl
earlier_of-assoc (Some a) None c = refl
earlier_of-assoc (Some a) (Some b) None = refl
earlier_of-assoc (Some a) (Some b) (Some c) = ap Some (earlier-assoc a b c)

pub earlier_of-none : (a : Option Violation) → earlier_of a None ≡ a
earlier_of-none None = refl
earlier_of-none (Some a) = refl

pub first-append : (xs ys : List Violation) → first (xs ++ ys) ≡ earlier_of (first xs) (first ys)
first-append [] ys = refl
first-append (x ∷ xs) ys = ap (earlier_of (Some x)) (first-append xs ys) ∙ sym (earlier_of-assoc (Some x) (first xs) (first ys))

some_first : (a : Violation) (o : Option Violation) → earlier_of (Some a) o ≡ None → ⊥
some_first a None e = cc
some_first a (Some b) e = cc

-- where none is reported, nothing is violated
pub none_violated : (xs : List Violation) → first xs ≡ None → xs ≡ []
none_violated [] e = refl
none_violated (x ∷ xs) e = absurd (some_first x (first xs) e)

-- one part more is reported
pub first_turn : (a rest : List Violation) (so_far one now whole : Option Violation) → one ≡ first a → now ≡ earlier_of so_far one → whole ≡ earlier_of so_far (first (a ++ rest)) → whole ≡ earlier_of now (first rest)
first_turn a rest so_far one now whole o n w =
    w ∙ ap (earlier_of so_far) (first-append a rest) ∙ sym (earlier_of-assoc so_far (first a) (first rest)) ∙ ap (λ f. earlier_of (earlier_of so_far f) (first rest)) (sym o) ∙ ap (λ f. earlier_of f (first rest)) (sym n)

-- two parts are reported
pub first_both : (a b : List Violation) (one other both : Option Violation) → one ≡ first a → other ≡ first b → both ≡ earlier_of one other → both ≡ first (a ++ b)
first_both a b one other both o h e = e ∙ rw (o, h) (sym (first-append a b))

-- the one that is reported is the first of all
not_before_itself : (a : Violation) → is_before a a ≡ false
not_before_itself a = grind (arith, nat_tests)

not_after : (a c : Violation) → is_before c a ≡ true → is_before a c ≡ false
not_after a c p = grind (arith, nat_tests)

head_among : (a : Violation) (others : List Violation) → Contains (a ∷ others) a
head_among a others = All-head (Contains (a ∷ others)) a others (All-contains_itself (a ∷ others))

tail_among : (a : Violation) (others : List Violation) (c : Violation) → Contains others c → Contains (a ∷ others) c
tail_among a others c t = All-contains (Contains (a ∷ others)) others c (All-tail (Contains (a ∷ others)) a others (All-contains_itself (a ∷ others))) t

first_alone : (a : Violation) → IsFirst (a ∷ []) a
first_alone a = record { among = head_among a []; least = All-cons (λ c. is_before c a ≡ false) a [] (not_before_itself a) (All-nil (λ c. is_before c a ≡ false)) }

first_of_two : (a : Violation) (others : List Violation) (c : Violation) → IsFirst others c → IsFirst (a ∷ others) (earlier a c)
first_of_two a others c f = go (is_before c a) refl
  where
    go : (p : Bool) → is_before c a ≡ p → IsFirst (a ∷ others) (if p then c else a)
    go true p = record { among = tail_among a others c f.among; least = All-cons (λ d. is_before d c ≡ false) a others (not_after a c p) f.least }
    go false p = record { among = head_among a others; least = All-cons (λ d. is_before d a ≡ false) a others (not_before_itself a) (λ k d l. before_none a c _ p (f.least k d l)) }

first_of_more : (a : Violation) (others : List Violation) (b : Violation) → ((c : Violation) → first others ≡ Some c → IsFirst others c) → (o : Option Violation) → first others ≡ o → earlier_of (Some a) o ≡ Some b → IsFirst (a ∷ others) b
first_of_more a others b below None n e = subst (IsFirst (a ∷ others)) (same_Some a b e) (subst (λ us. IsFirst (a ∷ us) a) (sym (none_violated others n)) (first_alone a))
first_of_more a others b below (Some c) s e = subst (IsFirst (a ∷ others)) (same_Some (earlier a c) b e) (first_of_two a others c (below c s))

pub first_is : (all : List Violation) (b : Violation) → first all ≡ Some b → IsFirst all b
first_is [] b e = absurd (none-some b e)
first_is (a ∷ others) b e = first_of_more a others b (λ c s. first_is others c s) (first others) refl e
