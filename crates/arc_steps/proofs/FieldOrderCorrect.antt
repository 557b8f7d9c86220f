-- The machine finds the fields of an object that name objects in the order in which they are to be destroyed.
use Rattle.std.proofs.Common.{◌≡◌, inl, inr, ℕ, zero, suc, ◌+◌, ◌-◌, ◌<◌, ◌≤◌, List, [], ◌∷◌, length, option_map, drop, Option, Some, None, Bool, false, nat_lt, if◌then◌else◌, slice_get, refl, sym, ap, ◌∙◌, arith}
use Rattle.std.proofs.lemmas.Bool.{cases_lt}
use Rattle.std.proofs.lemmas.Bool.Decides.{nat_tests}
use Rattle.std.proofs.lemmas.Option.{slice_get-map}
use Rattle.arc_spec.specs.Classes.{Class, field_order, numbers_from}
use Rattle.arc_cells.specs.Fields.{name_index}
use Rattle.arc_steps.specs.GlobalFieldStores.{index_of}
use Rattle.arc_cells.specs.Representation.{orders_of, order_at, next_in}

number_at : (first n i : ℕ) → i < n → slice_get (numbers_from first n) i ≡ Some (first + i)
number_at first zero i below = absurd (omega (arith, below))
number_at first (suc n) zero below = let same : first ≡ first + 0 = omega arith in ap Some same
number_at first (suc n) (suc i) below = let same : suc first + i ≡ first + suc i = omega arith in number_at (suc first) n i (omega (arith, below)) ∙ ap Some same

number_none : (first n i : ℕ) → n ≤ i → slice_get (numbers_from first n) i ≡ None
number_none first zero i above = refl
number_none first (suc n) zero above = absurd (omega (arith, above))
number_none first (suc n) (suc i) above = number_none (suc first) n i (omega (arith, above))

class_none : (classes : List Class) (i : ℕ) → length classes ≤ i → slice_get classes i ≡ None
class_none [] i above = refl
class_none (c ∷ classes) zero above = absurd (omega (arith, above))
class_none (c ∷ classes) (suc i) above = class_none classes i (omega (arith, above))

order_some : (orders : List (List ℕ)) (class : ℕ) (order : List ℕ) → slice_get orders class ≡ Some order → order_at orders class ≡ order
order_some orders class order e = rw e refl

order_none : (orders : List (List ℕ)) (class : ℕ) → slice_get orders class ≡ None → order_at orders class ≡ []
order_none orders class e = rw e refl

unfielded : (classes : List Class) (class : ℕ) → slice_get classes class ≡ None → field_order classes class ≡ []
unfielded classes class e = rw e refl

-- what is found of a class is the order of its fields
pub order_is : (classes : List Class) (class : ℕ) → order_at (orders_of classes) class ≡ field_order classes class
order_is classes class =
    let none : 0 + class ≡ class = omega arith in
    let found = slice_get-map (field_order classes) (numbers_from 0 (length classes)) class in
    elim (cases_lt class (length classes)) [
      | inl below ↦ order_some (orders_of classes) class (field_order classes class) (found ∙ ap (option_map (field_order classes)) (number_at 0 (length classes) class below ∙ ap Some none))
      | inr above ↦ order_none (orders_of classes) class (found ∙ ap (option_map (field_order classes)) (number_none 0 (length classes) class above)) ∙ sym (unfielded classes class (class_none classes class above))
    ]

drop_few : (order : List ℕ) (n : ℕ) → length (drop n order) ≤ length order
drop_few order zero = omega arith
drop_few [] (suc n) = omega arith
drop_few (x ∷ order) (suc n) = let rest = drop_few order n in omega (arith, rest)

drop_next : (order : List ℕ) (n : ℕ) → slice_get (drop n order) 0 ≡ slice_get order (length order - length (drop n order))
drop_next order zero = let none : length order - length order ≡ 0 = omega arith in ap (slice_get order) (sym none)
drop_next [] (suc n) = refl
drop_next (x ∷ order) (suc n) =
    let few = drop_few order n in
    let less : suc (length order - length (drop n order)) ≡ suc (length order) - length (drop n order) = omega (arith, few) in
    drop_next order n ∙ ap (slice_get (x ∷ order)) less

-- the next field of an order of which the last ones are left
pub next_found : (order : List ℕ) (n : ℕ) → next_in order (length (drop n order)) ≡ slice_get (drop n order) 0
next_found order n =
    let few = drop_few order n in
    let test : nat_lt (length order) (length (drop n order)) ≡ false = grind (arith, nat_tests) in
    ap (λ (t : Bool). if t then None else slice_get order (length order - length (drop n order))) test ∙ sym (drop_next order n)

-- an index among all fields is that of a field that is left
pub index_found : (class : Option Class) (found : Option ℕ) (slot : ℕ) → Some slot ≡ index_of class found → (index : ℕ) × (found ≡ Some index) × (name_index class index ≡ Some slot)
index_found class None slot e = absurd (cc)
index_found class (Some index) slot e = (index, refl, sym e)
