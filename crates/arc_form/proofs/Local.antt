-- How many tokens a reader leaves, and readers that read alike.
use Rattle.std.proofs.Common.{◌≡◌, ℕ, zero, suc, ◌<◌, ◌≤◌, ◌+◌, List, [], ◌∷◌, length, length-drop, drop, Ok, Err, Bool, true, false, cond, Option, Some, None, nat_lt, refl, ap, subst, ◌∙◌, arith}
use Rattle.std.proofs.lemmas.Bool.Decides.{nat_tests}
use Rattle.arc_lex.specs.Tokens.{Tok}
use Rattle.arc_form.specs.Kinds.{Kinds, is}
use Rattle.arc_form.specs.Reader.{Read, Reader, Fault, misfit, too_deep, bind, ◌>>=◌, ret, sees, take_one, taken, turns, loop, is_above, past, allowed, nested, goes_over, cut}

-- the tokens that a reader leaves
abbrev pub rest_of : {A : Type 0} → Read A → List Tok
rest_of (Ok x) = x.1
rest_of (Err e) = e.1

abbrev pub fault_of : {A : Type 0} → Read A → Fault
fault_of (Ok x) = misfit
fault_of (Err e) = e.0

-- the same answer, with other tokens left
abbrev pub put : {A : Type 0} → Read A → List Tok → Read A
put (Ok x) r = Ok (x.0, r)
put (Err e) r = Err (e.0, r)

-- the fewest tokens that there were: after a value, d more than are left
abbrev pub least : {A : Type 0} → ℕ → Read A → ℕ
least d (Ok x) = d + length x.1
least d (Err e) = length e.1

-- y is x, which leaves no more tokens than there were, and after a value fewer, by d at least
pub record Alike {A : Type 0} (d : ℕ) (ts : List Tok) (x y : Read A) : Type 0 where
  pub same : y ≡ x
  pub left : least d x ≤ length ts

-- f takes so many tokens at least, where it gives a value
pub record Takes {A : Type 0} (d : ℕ) (f : Reader A) : Type 0 where
  pub each : (ts : List Tok) → Alike d ts (f ts) (f ts)

least_less : {A : Type 0} (d e : ℕ) (x : Read A) → e ≤ d → (least e x ≤ least d x) × (length (rest_of x) ≤ least d x)
least_less d e (Ok x) p = (omega arith, omega arith)
least_less d e (Err x) p = (omega arith, omega arith)

pub alike_less : {A : Type 0} {d : ℕ} {ts : List Tok} {x y : Read A} (e : ℕ) → e ≤ d → Alike d ts x y → Alike e ts x y
alike_less {d = d} {x = x} e p a = record { same = a.same; left = omega (arith, (least_less d e x p).0, a.left) }

pub alike_ret : {A : Type 0} (ts : List Tok) (a : A) → Alike 0 ts (ret a ts) (ret a ts)
alike_ret ts a = record { same = refl; left = omega arith }

pub alike_err : {A : Type 0} (d : ℕ) (ts r : List Tok) (y : Fault) → length r ≤ length ts → Alike {A = A} d ts (Err (y, r)) (Err (y, r))
alike_err d ts r y p = record { same = refl; left = p }

pub alike_then : {A B : Type 0} {d e : ℕ} {ts : List Tok} {x y : Read A} (g h : A → Reader B) → Alike d ts x y → ((a : A) (s : List Tok) → x ≡ Ok (a, s) → Alike e s (g a s) (h a s)) → Alike (d + e) ts (bind x g) (bind y h)
alike_then {A = A} {B = B} {d = d} {e = e} {ts = ts} {x = x} g h a k = record { same = ap (λ z. bind z h) a.same ∙ (go x a.left k).0; left = (go x a.left k).1 }
  where
    next : (s : List Tok) (y : Read B) → d + length s ≤ length ts → least e y ≤ length s → least (d + e) y ≤ length ts
    next s (Ok y) p q = omega arith
    next s (Err y) p q = omega arith

    go : (z : Read A) → least d z ≤ length ts → ((b : A) (s : List Tok) → z ≡ Ok (b, s) → Alike e s (g b s) (h b s)) → (bind z h ≡ bind z g) × (least (d + e) (bind z g) ≤ length ts)
    go (Ok z) p m = let n = m z.0 z.1 refl in (n.same, next z.1 (g z.0 z.1) p n.left)
    go (Err z) p m = (refl, p)

pub alike_if : {A : Type 0} {d : ℕ} {ts : List Tok} {x x' y y' : Read A} (b : Bool) → Alike d ts x x' → Alike d ts y y' → Alike d ts (cond b x y) (cond b x' y')
alike_if true p q = p
alike_if false p q = q

pub alike_token : {A : Type 0} (T : Kinds) (g : Tok → A) (ts : List Tok) → Alike 1 ts (take_one T g ts) (take_one T g ts)
alike_token T g [] = record { same = refl; left = omega arith }
alike_token T g (t ∷ ts) =
    elim (is T t) as (λ b. Alike 1 (t ∷ ts) (taken b g t ts) (taken b g t ts)) [ true ↦ record { same = refl; left = omega arith } | false ↦ record { same = refl; left = omega arith } ]

-- what is left after a value
pub ok_left : {A : Type 0} {d : ℕ} {ts : List Tok} {x y : Read A} {a : A} {s : List Tok} → Alike d ts x y → x ≡ Ok (a, s) → d + length s ≤ length ts
ok_left {d = d} {ts = ts} l e = subst (λ z. least d z ≤ length ts) e l.left

pub all_left : {A : Type 0} {d : ℕ} {ts : List Tok} (x y : Read A) → Alike d ts x y → length (rest_of x) ≤ length ts
all_left {d = d} x y l = omega (arith, (least_less d d x (omega arith)).1, l.left)

-- one reader after another
pub then : {A B : Type 0} {d e : ℕ} {f : Reader A} {g : A → Reader B} → Takes d f → ((a : A) → Takes e (g a)) → Takes (d + e) (f >>= g)
then {g = g} l m = record { each = λ ts. alike_then g g (l.each ts) (λ a s q. (m a).each s) }

pub weaker : {A : Type 0} {d : ℕ} {f : Reader A} (e : ℕ) → e ≤ d → Takes d f → Takes e f
weaker e p l = record { each = λ ts. alike_less e p (l.each ts) }

pub takes_token : {A : Type 0} (T : Kinds) (g : Tok → A) → Takes 1 (take_one T g)
takes_token T g = record { each = λ ts. alike_token T g ts }

pub takes_ret : {A : Type 0} (a : A) → Takes 0 (ret a)
takes_ret a = record { each = λ ts. alike_ret ts a }

-- ---- limits and loops

pub past_some : {A : Type 0} (ts : List Tok) → 1 ≤ length ts → past {A = A} ts ≡ Err (too_deep, ts)
past_some [] l = absurd (omega arith)
past_some (t ∷ ts) l = refl

pub alike_past : {A : Type 0} (ts : List Tok) → Alike {A = A} 0 ts (past ts) (past ts)
alike_past [] = alike_err 0 [] [] misfit (omega arith)
alike_past (t ∷ ts) = alike_err 0 (t ∷ ts) (t ∷ ts) too_deep (omega arith)

-- what is read where a depth has to be allowed
pub allowed_then : {A : Type 0} (most : Option ℕ) (d : ℕ) (f : Reader A) (ts : List Tok) → bind (allowed most d ts) (λ u. f) ≡ cond (is_above most d) (past ts) (f ts)
unfolding allowed
allowed_then {A} most d f ts = go (is_above most d) ts
  where
    go : (b : Bool) (ts : List Tok) → bind {A = Unit {0}} (cond b past (ret tt) ts) (λ u. f) ≡ cond b (past ts) (f ts)
    go true [] = refl
    go true (t ∷ ts) = refl
    go false ts = refl

-- where a depth is not allowed, the first token is refused
pub allowed_past : (n d : ℕ) (ts : List Tok) → n < d → allowed (Some n) d ts ≡ past ts
unfolding allowed
allowed_past n d ts p = let deep : nat_lt n d ≡ true = grind (arith, nat_tests) in rw deep refl

pub nested_is : {A : Type 0} (most : Option ℕ) (d : ℕ) (T : Kinds) (f : Reader A) (ts : List Tok) → nested most d T f ts ≡ cond (is_above most d) (cond (sees T ts) (Err (too_deep, ts)) (Err (misfit, ts))) (f ts)
unfolding nested
nested_is {A} most d T f ts =
    let refused : Reader A = λ us. cond (sees T us) (Err (too_deep, us)) (Err (misfit, us)) in
    elim (is_above most d) as (λ b. cond b refused f ts ≡ cond b (refused ts) (f ts)) [ true ↦ refl | false ↦ refl ]

pub alike_cut : {A : Type 0} {d : ℕ} {ts : List Tok} {x y : Read A} (most : Option ℕ) → Alike d ts x y → Alike d ts (cut most ts x) (cut most ts y)
alike_cut None a = a
alike_cut {d = d} {ts = ts} {x = x} (Some n) a = record {
  same = ap (cut (Some n) ts) a.same;
  left = elim (goes_over n ts x) as (λ b. least d (cond b (Err (too_deep, drop n ts)) x) ≤ length ts) [ true ↦ omega (arith, length-drop n ts) | false ↦ a.left ];
}

-- any numbers of turns, if they are more than the tokens
pub turns_alike : {A : Type 0} {f h : Reader A} (T : Kinds) (n m : ℕ) (ts : List Tok) → length ts < n → length ts < m → ((us : List Tok) → length us ≤ length ts → Alike 1 us (f us) (h us)) → Alike 0 ts (turns n T f ts) (turns m T h ts)
turns_alike T zero m ts p q k = absurd (omega arith)
turns_alike T (suc n) zero ts p q k = absurd (omega arith)
turns_alike {f = f} {h = h} T (suc n) (suc m) ts p q k =
    let l = k ts (omega arith) in
    alike_if (sees T ts) (alike_less 0 (omega arith) (alike_then (λ a. turns n T f >>= (λ others. ret (a ∷ others))) (λ a. turns m T h >>= (λ others. ret (a ∷ others))) l
    (λ a s e. let few = ok_left l e in alike_then (λ others. ret (a ∷ others)) (λ others. ret (a ∷ others))
    (turns_alike T n m s (omega (arith, few)) (omega (arith, few)) (λ us v. k us (omega (arith, few, v)))) (λ others r e. alike_ret r (a ∷ others))))) (alike_ret ts [])

-- a turn of a loop, and then the others
pub loop_turn : {A : Type 0} {h : Reader A} (T : Kinds) → Takes 1 h → (ts : List Tok) → loop T h ts ≡ cond (sees T ts) (bind (h ts) (λ a. loop T h >>= (λ others. ret (a ∷ others)))) (ret [] ts)
unfolding loop
loop_turn {A} {h} T takes ts = ap (λ y. cond (sees T ts) y (ret [] ts)) (go (h ts) refl)
  where
    go : (x : Read A) → h ts ≡ x → bind x (λ a. turns (length ts) T h >>= (λ others. ret (a ∷ others))) ≡ bind x (λ a. loop T h >>= (λ others. ret (a ∷ others)))
    go (Ok x) e =
        let fewer = ok_left (takes.each ts) e in
        ap (λ y. bind y (λ others. ret (x.0 ∷ others))) (turns_alike T (suc (length x.1)) (length ts) x.1 (omega arith) (omega (arith, fewer)) (λ us p. takes.each us)).same
    go (Err x) e = refl

pub loop_more : {A : Type 0} {h : Reader A} (T : Kinds) (ts r : List Tok) (a : A) → Takes 1 h → sees T ts ≡ true → h ts ≡ Ok (a, r) → loop T h ts ≡ bind (loop T h r) (λ others. ret (a ∷ others))
loop_more T ts r a takes s e = rw (loop_turn T takes ts, s, e) refl
