use Rattle.std.proofs.Common.{◌≡◌, ℕ, zero, ◌+◌, suc, ◌∷◌, List, [], ◌++◌, length, map, sym, ap, ◌∙◌, arith}
use Rattle.std.proofs.lemmas.List.{map-append, length-map}
use Rattle.arc_spec.specs.Classes.{class_of, classes_of, numbers_from, field_order}
use Rattle.arc_cells.specs.Representation.{items_of}
use Rattle.arc_cells.proofs.order.orders_of.Goals as goal

numbers_more : (first n : ℕ) → numbers_from first (suc n) ≡ numbers_from first n ++ (first + n) ∷ []
numbers_more first zero = let same : first ≡ first + 0 = omega arith in ap (λ k. k ∷ []) same
numbers_more first (suc n) =
    let same : suc first + n ≡ first + suc n = omega arith in
    ap (λ l. first ∷ l) (numbers_more (suc first) n ∙ ap (λ k. numbers_from (suc first) n ++ k ∷ []) same)

one_more : (f : ℕ → List ℕ) (n : ℕ) → map f (numbers_from 0 (n + 1)) ≡ map f (numbers_from 0 n) ++ f n ∷ []
one_more f n =
    let next : n + 1 ≡ suc n = omega arith in
    let last : 0 + n ≡ n = omega arith in
    ap (λ k. map f (numbers_from 0 k)) next ∙ ap (map f) (numbers_more 0 n) ∙ map-append f (numbers_from 0 n) ((0 + n) ∷ []) ∙ ap (λ k. map f (numbers_from 0 n) ++ f k ∷ []) last

pub loop-class-preserved : goal.loop-class-preserved
loop-class-preserved c =
    let order = c.in_ok-field_order.field-0 in
    let old = c.loop-class.orders.items in
    let f = field_order (classes_of c.args.classes.now) in
    ap (map items_of) c.in_ok-push.ensures.items ∙ map-append items_of old (order ∷ []) ∙ ap (λ l. l ++ items_of order ∷ []) c.loop-class.invariant
    ∙ ap (λ x. map f (numbers_from 0 c.loop-class.class) ++ x ∷ []) c.in_ok-field_order.ensures ∙ sym (one_more f c.loop-class.class)

pub returns : goal.returns
returns c =
    let f = field_order (classes_of c.args.classes.now) in
    let all : c.loop-class.class ≡ length (classes_of c.args.classes.now) = omega (arith, c.loop-class-test.false, c.loop-class.auto.class-end, length-map c.args.classes.now class_of) in
    c.loop-class.invariant ∙ ap (λ n. map f (numbers_from 0 n)) all
