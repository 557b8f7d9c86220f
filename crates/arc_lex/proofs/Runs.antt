-- Runs of bytes of a class.
use Rattle.std.proofs.Common.{◌≡◌, ◌≤◌, ℕ, ◌+◌, List, [], ◌∷◌, ◌++◌, length, take, drop, Bool, true, false, cond, add-one, refl, sym, ap, ◌∙◌, arith}
use Rattle.std.proofs.lemmas.List.{take-append-drop, take_at}
use Rattle.std.proofs.lemmas.Bool.{and_parts, and_from}
use Rattle.arc_lex.specs.declared.bytes.Class.{Class}
use Rattle.arc_lex.specs.Bytes.{has, all_in, begins, run}

-- what is in the class at the front is no longer than the run
pub run_longest : (class : Class) (ys r : List ℕ) → all_in class ys ≡ true → length ys ≤ run class (ys ++ r)
run_longest class [] r h = omega arith
run_longest class (y ∷ ys) r h =
    let parts = and_parts (has class y) (all_in class ys) h in
    let first = parts.0 in
    let k = run_longest class ys r parts.1 in
    rw first (omega (arith, k))

pub all_run : (class : Class) (bs : List ℕ) → all_in class (take (run class bs) bs) ≡ true
all_run class [] = refl
all_run class (b ∷ bs) = go (has class b) refl (all_run class bs)
  where
    go : (t : Bool) → has class b ≡ t → all_in class (take (run class bs) bs) ≡ true → all_in class (take (cond t (run class bs + 1) 0) (b ∷ bs)) ≡ true
    go true e h = rw add-one (and_from (has class b) (all_in class (take (run class bs) bs)) e h)
    go false e h = refl

pub run_ends : (class : Class) (bs : List ℕ) → begins class (drop (run class bs) bs) ≡ false
run_ends class [] = refl
run_ends class (b ∷ bs) = go (has class b) refl (run_ends class bs)
  where
    go : (t : Bool) → has class b ≡ t → begins class (drop (run class bs) bs) ≡ false → begins class (drop (cond t (run class bs + 1) 0) (b ∷ bs)) ≡ false
    go true e h = rw add-one h
    go false e h = e

pub run_cut : (class : Class) (bs : List ℕ) → bs ≡ take (run class bs) bs ++ drop (run class bs) bs
run_cut class bs = sym (take-append-drop (run class bs) bs)

pub length_run : (class : Class) (bs : List ℕ) → length (take (run class bs) bs) ≡ run class bs
length_run class [] = refl
length_run class (b ∷ bs) = go (has class b) (length_run class bs)
  where
    go : (t : Bool) → length (take (run class bs) bs) ≡ run class bs → length (take (cond t (run class bs + 1) 0) (b ∷ bs)) ≡ cond t (run class bs + 1) 0
    go true k = rw add-one (omega (arith, k))
    go false k = refl

-- a run is what is in the class, up to what is not
pub run_is : (class : Class) (ys r : List ℕ) → all_in class ys ≡ true → begins class r ≡ false → run class (ys ++ r) ≡ length ys
run_is class [] [] h e = refl
run_is class [] (b ∷ r) h e = rw e refl
run_is class (y ∷ ys) r h e =
    let parts = and_parts (has class y) (all_in class ys) h in
    let first = parts.0 in
    let k = run_is class ys r parts.1 e in
    rw first (omega (arith, k))

pub front_is_run : (class : Class) (bs ys r : List ℕ) → bs ≡ ys ++ r → all_in class ys ≡ true → begins class r ≡ false → ys ≡ take (run class bs) bs
front_is_run class bs ys r c h e =
    sym (ap (λ us. take (run class us) us) c ∙ take_at ys r (run class (ys ++ r)) (sym (run_is class ys r h e)))
