-- Numbers that follow one another, and the order in which fields are destroyed, a class at a time.
use Rattle.std.proofs.Common.{◌≡◌, ℕ, suc, ◌+◌, ◌-◌, ◌<◌, ◌≤◌, List, [], ◌∷◌, ◌++◌, sym, ap, ◌∙◌, arith, append_assoc}
use Rattle.std.proofs.lemmas.List.{append-nil}
use Rattle.arc_spec.specs.Classes.{lesser, numbers_from, order_of_fields}

-- the first of them, and those after it
pub from_next : (first last : ℕ) → first < last → numbers_from first (last - first) ≡ first ∷ numbers_from (first + 1) (last - (first + 1))
from_next first last lt =
    let e : last - first ≡ suc (last - (first + 1)) = omega (arith, lt) in
    let f : suc first ≡ first + 1 = omega arith in
    ap (numbers_from first) e ∙ ap (λ k. first ∷ numbers_from k (last - (first + 1))) f

-- where they are appended one by one, those that are left
pub one_more : (before items : List ℕ) (first last : ℕ) → first < last → items ≡ before ++ first ∷ []
    → items ++ numbers_from (first + 1) (last - (first + 1)) ≡ before ++ numbers_from first (last - first)
one_more before items first last lt is =
    ap (λ xs. xs ++ numbers_from (first + 1) (last - (first + 1))) is
    ∙ append_assoc before (first ∷ []) (numbers_from (first + 1) (last - (first + 1)))
    ∙ ap (λ xs. before ++ xs) (sym (from_next first last lt))

pub none_left : (items : List ℕ) (first last : ℕ) → last ≤ first → items ++ numbers_from first (last - first) ≡ items
none_left items first last le =
    let e : last - first ≡ 0 = omega (arith, le) in
    ap (λ n. items ++ numbers_from first n) e ∙ append-nil items

-- the fields of a class are appended, and those of the classes above it are left
pub class_more : (before items : List ℕ) (count inherited kept : ℕ) (all above : List ℕ) → all ≡ inherited ∷ above → kept ≡ lesser inherited count
    → items ≡ before ++ numbers_from kept (count - kept) → items ++ order_of_fields kept above ≡ before ++ order_of_fields count all
class_more before items count inherited kept all above first least is =
    ap (λ xs. xs ++ order_of_fields kept above) is
    ∙ append_assoc before (numbers_from kept (count - kept)) (order_of_fields kept above)
    ∙ ap (λ k. before ++ (numbers_from k (count - k) ++ order_of_fields k above)) least
    ∙ ap (λ counts. before ++ order_of_fields count counts) (sym first)

-- how many of the classes above there are for so many turns
pub one_turn_more : (passed turns : ℕ) → passed < turns → turns - passed ≡ suc (turns - (passed + 1))
one_turn_more passed turns lt = omega (arith, lt)
