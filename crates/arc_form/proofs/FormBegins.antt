-- Without limits a form takes a first token with which it begins, and refuses any other.
use Rattle.std.proofs.Common.{◌≡◌, ℕ, suc, ◌<◌, ◌≤◌, ◌+◌, List, [], ◌∷◌, length, drop, nat_lt, Ok, Err, Bool, true, false, cond, ◌&&◌, ◌||◌, Option, Some, None, refl, sym, ap, subst, ◌∙◌, arith}
use Rattle.std.proofs.lemmas.Bool.Decides.{nat_tests}
use Rattle.arc_lex.specs.Tokens.{Tok}
use Rattle.arc_form.specs.Kinds.{Kinds, ◌∪◌, is}
use Rattle.arc_form.specs.Reader.{Read, Reader, Fault, misfit, too_deep, is_above, allowed, bind, ◌>>=◌, ret, second_unexpected, sees, taken, loop, cut, up_to}
use Rattle.arc_form.specs.Form.{Limits, unlimited, Form, Bodies, token, give, call, map, ◌⨾◌, into, choose, many, or_none, nest, bounded, two_ahead, avoid, run, read}
use Rattle.arc_form.proofs.Sets.{among, sees_among, sees_or}
use Rattle.arc_form.proofs.Static.{Facts, if_so, nullable, begins, Decided, Holds, Heads, second, Fits}
use Rattle.arc_form.proofs.Local.{rest_of, fault_of, loop_turn, nested_is}
use Rattle.arc_form.proofs.FormLocal.{read_is, some_front, form_left, Property, PartsOf, under, reading, by_reading}

pub loop_end : {A : Type 0} (h : Reader A) (T : Kinds) (ts : List Tok) → sees T ts ≡ false → loop T h ts ≡ Ok ([], ts)
unfolding loop
loop_end h T ts s = rw s refl

pub ret_left : {A B : Type 0} (x : Read A) (h : A → B) → length (rest_of (bind x (λ a. ret (h a)))) ≤ length (rest_of x)
ret_left (Ok x) h = omega arith
ret_left (Err x) h = omega arith

pub map_fails : {A B : Type 0} (x : Read A) (h : A → B) (e : Fault × List Tok) → bind x (λ a. ret (h a)) ≡ Err e → x ≡ Err e
map_fails (Ok x) h e q = cc
map_fails (Err x) h e q = let same : x ≡ e = cc in ap (λ v. Err v) same

sees_same : (A B : Kinds) (ts : List Tok) → among A B ≡ true → among B A ≡ true → sees A ts ≡ sees B ts
sees_same A B ts p q = grind (arith, sees_among A B ts p, sees_among B A ts q)

sees_then : (A B : Kinds) (b : Bool) (ts : List Tok) → sees (A ∪ if_so b B) ts ≡ (sees A ts || (b && sees B ts))
sees_then A B b [] = grind arith
sees_then A B true (t ∷ ts) = refl
sees_then A B false (t ∷ ts) = refl

-- without limits fewer tokens are left
abbrev pub More : {A : Type 0} → Option Limits → Read A → List Tok → Type 0
More None x r = length (rest_of x) < length r
More (Some limits) x r = Unit {0}

-- what is taken stays taken, whatever comes after it
pub more_then : {A B : Type 0} (o : Option Limits) (x : Read A) (g : A → Reader B) (r : List Tok) → (o ≡ None → (a : A) (s : List Tok) → length (rest_of (g a s)) ≤ length s) → More o x r → More o (bind x g) r
more_then None (Ok x) g r k m = let le = k refl x.0 x.1 in omega (arith, le)
more_then None (Err x) g r k m = m
more_then (Some limits) x g r k m = tt

-- Where a token is ahead with which it begins, it is taken; else nothing is, which gives a value where there may be no token.
abbrev Front : {A : Type 0} → Option Limits → Bool → Bool → Read A → List Tok → Type 0
Front o true n x ts = More o x ts
Front {A} o false true x ts = (a : A) × (x ≡ Ok (a, ts))
Front o false false x ts = x ≡ Err (misfit, ts)

front_map : {A B : Type 0} (o : Option Limits) (b n : Bool) (x : Read A) (h : A → B) (ts : List Tok) → Front o b n x ts → Front o b n (bind x (λ a. ret (h a))) ts
front_map o true n x h ts m = more_then o x (λ a. ret (h a)) ts (λ z a s. omega arith) m
front_map o false true x h ts (a, e) = (h a, ap (λ y. bind y (λ a. ret (h a))) e)
front_map o false false x h ts e = ap (λ y. bind y (λ a. ret (h a))) e

front_then : {A B : Type 0} (o : Option Limits) (b c n m : Bool) (x : Read A) (g : A → Reader B) (ts : List Tok) → (o ≡ None → (a : A) (s : List Tok) → length (rest_of (g a s)) ≤ length s)
    → Front o b n x ts → ((a : A) → x ≡ Ok (a, ts) → Front o c m (g a ts) ts) → Front o (b || (n && c)) (n && m) (bind x g) ts
front_then o true c n m x g ts k p q = more_then o x g ts k p
front_then o false c true m x g ts k (a, e) q = subst (λ y. Front o c m (bind y g) ts) (sym e) (q a e)
front_then o false c false m x g ts k e q = ap (λ y. bind y g) e

-- what comes after some token
front_some : {A B : Type 0} (o : Option Limits) (b : Bool) (x : Read A) (g : A → Reader B) (ts : List Tok) → (o ≡ None → (a : A) (s : List Tok) → length (rest_of (g a s)) ≤ length s) → Front o b false x ts → Front o b false (bind x g) ts
front_some o true x g ts k p = more_then o x g ts k p
front_some o false x g ts k e = ap (λ y. bind y g) e

front_if : {A : Type 0} (o : Option Limits) (b c m : Bool) (x y : Read A) (ts : List Tok) → Front o b false x ts → Front o c m y ts → Front o (b || c) m (cond b x y) ts
front_if o true c m x y ts p q = p
front_if o false c m x y ts p q = q

front_none : {A : Type 0} (o : Option Limits) (b : Bool) (x : Read A) (a : A) (ts : List Tok) → (b ≡ true → More o x ts) → Front o b true (cond b x (ret a ts)) ts
front_none o true x a ts p = p refl
front_none o false x a ts p = (a, refl)

front_nest : {A : Type 0} (o : Option Limits) (m : ℕ) (c : Bool) (x : Read A) (ts : List Tok) → Front o c false x ts → Front o c false (cond (is_above (under o).depth m) (cond {A = Read A} c (Err (too_deep, ts)) (Err (misfit, ts))) x) ts
front_nest None m c x ts p = p
front_nest (Some limits) m true x ts p = tt
front_nest {A} (Some limits) m false x ts p =
    rw p (elim (is_above limits.depth m) as (λ b. cond {A = Read A} b (Err (misfit, ts)) (Err (misfit, ts)) ≡ Err (misfit, ts)) [ true ↦ refl | false ↦ refl ])

-- a limit on tokens is no less than 1
abbrev pub Positive : Limits → Type 0
Positive limits = (n : ℕ) → limits.tokens ≡ Some n → 1 ≤ n

front_cut : {A : Type 0} (o : Option Limits) (c : Bool) (x : Read A) (ts : List Tok) → Positive (under o) → Front None c false x ts → Front o c false (cut (under o).tokens ts x) ts
front_cut None c x ts k p = p
front_cut (Some limits) true x ts k p = tt
front_cut {A} (Some limits) false x ts k p = rw p (go limits.tokens k)
  where
    go : (most : Option ℕ) → ((n : ℕ) → most ≡ Some n → 1 ≤ n) → cut {A = A} most ts (Err (misfit, ts)) ≡ Err (misfit, ts)
    go None k = refl
    go (Some n) k =
        let few = k n refl in
        let within : (nat_lt n (length ts) && nat_lt (length ts + n) (suc (length ts))) ≡ false = grind (arith, nat_tests) in
        rw within refl

front_two : {A : Type 0} (o : Option Limits) (t u b : Bool) (x y : Read A) (ts : List Tok) → (t ≡ true → b ≡ true) → (t ≡ true → More o x ts) → Front o b false y ts → Front o b false (cond (t && u) x y) ts
front_two o true true true x y ts k p q = p refl
front_two o true true false x y ts k p q = let no = k refl in cc
front_two o true false b x y ts k p q = q
front_two o false u b x y ts k p q = q

pub second_taken : (T : Kinds) (ts : List Tok) → sees T ts ≡ true → length (drop 1 ts) < length ts
second_taken T [] s = cc
second_taken T (t ∷ ts) s = omega arith

module _ {N : Type 0} {Node : N → Type 0} (facts : N → Facts) (body : Bodies N Node) (sure : (n : N) → Fits facts body n) where
  abbrev FrontAt : Property N Node
  FrontAt o A f ts = Positive (under o) → Front o (sees (begins facts f) ts) (nullable facts f) (reading body o f ts) ts

  free : Positive unlimited
  free n e = cc

  some : (o : Option Limits) {A : Type 0} (f : Form N Node A) → nullable facts f ≡ false → (ts : List Tok) → FrontAt o A f ts → Positive (under o) → Front o (sees (begins facts f) ts) false (reading body o f ts) ts
  some o f n ts x z = subst (λ n. Front o (sees (begins facts f) ts) n (reading body o f ts) ts) n (x z)

  -- and where it begins with tokens of T alone
  headed : (o : Option Limits) (T : Kinds) {A : Type 0} (f : Form N Node A) → Heads facts T f → (ts : List Tok) → FrontAt o A f ts → Positive (under o) → Front o (sees T ts) false (reading body o f ts) ts
  headed o T f (n, (w, k)) ts x z = subst (λ b. Front o b false (reading body o f ts) ts) (sees_same (begins facts f) T ts w k) (some o f n ts x z)

  more_of : (o : Option Limits) (b : Bool) {A : Type 0} (x : Read A) (ts : List Tok) → Front o b false x ts → b ≡ true → More o x ts
  more_of o true x ts p e = p
  more_of o false x ts p e = cc

  pub left : (o : Option Limits) {A : Type 0} (f : Form N Node A) → Decided facts f → o ≡ None → (s : List Tok) → length (rest_of (reading body o f s)) ≤ length s
  left None f d z s = form_left facts body sure f d s
  left (Some limits) f d z s = cc

  -- a loop takes what its first turn takes, at least
  pub more_turn : (o : Option Limits) (T : Kinds) {A : Type 0} (f : Form N Node A) → Decided facts (many T f) → (ts r : List Tok) → More o (reading body o f ts) r
      → More o (bind (reading body o f ts) (λ a. reading body o (many T f) >>= (λ others. ret (a ∷ others)))) r
  more_turn o T f d ts r m =
      let few = left o (many T f) d in
      more_then o (reading body o f ts) (λ a. reading body o (many T f) >>= (λ others. ret (a ∷ others))) r (λ n a s. omega (arith, ret_left (reading body o (many T f) s) (λ others. a ∷ others), few n s)) m

  left_into : (o : Option Limits) (m : ℕ) {A B : Type 0} (g : Form N Node B) → Decided facts g → o ≡ None → (a : A) (s : List Tok) → length (rest_of (bind {B = A × B} (allowed (under o).depth m s) (λ u. reading body o g >>= (λ b. ret (a, b))))) ≤ length s
  unfolding allowed
  left_into None m {A} {B} g d z a s = omega (arith, ret_left {B = A × B} (reading body None g s) (λ b. (a, b)), left None g d z s)
  left_into (Some limits) m g d z a s = cc

  front : (o : Option Limits) (A : Type 0) (f : Form N Node A) → Decided facts f → (ts : List Tok) → PartsOf body FrontAt o A f ts → FrontAt o A f ts
  unfolding up_to
  front o A (token T g) d ts x z = go o ts
    where
      taken_more : (o : Option Limits) (t : Tok) (ts : List Tok) → More o (Ok (g t, ts)) (t ∷ ts)
      taken_more None t ts = omega arith
      taken_more (Some limits) t ts = tt

      go : (o : Option Limits) (ts : List Tok) → Front o (sees T ts) false (reading body o (token T g) ts) ts
      go o [] = refl
      go o (t ∷ ts) = elim (is T t) as (λ b. Front o b false (taken b g t ts) (t ∷ ts)) [ true ↦ taken_more o t ts | false ↦ refl ]
  front o A (give a) d [] x z = (a, refl)
  front o A (give a) d (t ∷ ts) x z = (a, refl)
  front o A (call m) d ts x z = rw (read_is facts body sure (under o) m ts) (headed o (facts m).begins (body m) (sure m).head ts x z)
  front o A (map h f) d ts x z = front_map o (sees (begins facts f) ts) (nullable facts f) (reading body o f ts) h ts (x z)
  front o A (◌⨾◌ {A = B} {B = C} f g) (d, (d', p)) ts (x, y) z =
      rw (sees_then (begins facts f) (begins facts g) (nullable facts f) ts) (front_then {B = B × C} o (sees (begins facts f) ts) (sees (begins facts g) ts) (nullable facts f) (nullable facts g) (reading body o f ts) (λ a. reading body o g >>= (λ c. ret (a, c))) ts
      (λ n a s. omega (arith, ret_left {B = B × C} (reading body o g s) (λ (c : C). (a, c)), left o g d' n s)) (x z) (λ a e. front_map {B = B × C} o (sees (begins facts g) ts) (nullable facts g) (reading body o g ts) (λ c. (a, c)) ts (y a ts e z)))
  front o A (into {A = B} {B = C} m f g) (d, (d', (n, p))) ts (x, y) z =
      front_some {B = B × C} o (sees (begins facts f) ts) (reading body o f ts) (λ a. allowed (under o).depth m >>= (λ u. reading body o g >>= (λ c. ret (a, c)))) ts (left_into o m g d') (some o f n ts x z)
  front o A (choose T f g) (d, (d', (h, p))) ts (x, y) z =
      rw (sees_or (begins facts f) (begins facts g) ts, sees_same (begins facts f) T ts h.1.0 h.1.1) (front_if o (sees T ts) (sees (begins facts g) ts) (nullable facts g) (reading body o f ts) (reading body o g ts) ts (headed o T f h ts x z) (y z))
  front o A (many {A = B} T f) (d, (h, p)) ts (x, y) z =
      rw (loop_turn T (some_front facts body sure (under o) f d h.0) ts, sees_same (begins facts f) T ts h.1.0 h.1.1) (front_none o (sees T ts) (bind (reading body o f ts) (λ a. reading body o (many T f) >>= (λ others. ret (a ∷ others)))) [] ts
      (λ s. more_turn o T f (d, (h, p)) ts ts (more_of o (sees T ts) (reading body o f ts) ts (headed o T f h ts (x ts (omega arith)) z) s)))
  front o A (or_none T f b) (d, h) ts x z = rw (sees_same (begins facts f) T ts h.1.0 h.1.1) (front_none o (sees T ts) (reading body o f ts) b ts (more_of o (sees T ts) (reading body o f ts) ts (headed o T f h ts x z)))
  front o A (nest m T f) (d, h) ts x z = rw (nested_is (under o).depth m T (reading body o f) ts, sees_same (begins facts f) T ts h.1.0 h.1.1) (front_nest o m (sees T ts) (reading body o f ts) ts (headed o T f h ts x z))
  front o A (bounded f) (d, n) ts x z = front_cut o (sees (begins facts f) ts) (reading body None f ts) ts z (some None f n ts x free)
  front o A (two_ahead T U f g) (d, (d', (h, (p, (n, q))))) ts (x, y) z =
      front_two o (sees T ts) (sees U (drop 1 ts)) (sees (begins facts g) ts) (reading body o f ts) (reading body o g ts) ts (sees_among T (begins facts g) ts q) (more_of o (sees T ts) (reading body o f ts) ts (headed o T f h ts x z)) (some o g n ts y z)
  front o A (avoid T U f) (d, (e, (n, (q, p)))) ts x z = front_two o (sees T ts) (sees U (drop 1 ts)) (sees (begins facts f) ts) (second_unexpected ts) (reading body o f ts) ts (sees_among T (begins facts f) ts q) (second_more o ts) (some o f n ts x z)
    where
      second_more : (o : Option Limits) (ts : List Tok) → sees T ts ≡ true → More {A = A} o (second_unexpected ts) ts
      second_more (Some limits) ts s = tt
      second_more None ts s = second_taken T ts s

  -- a form takes a token of those with which it begins
  pub form_takes : (A : Type 0) (f : Form N Node A) → Decided facts f → (ts : List Tok) → sees (begins facts f) ts ≡ true → length (rest_of (run (read body) unlimited f ts)) < length ts
  form_takes A f d ts e = subst (λ b. Front None b (nullable facts f) (reading body None f ts) ts) e (by_reading facts body sure FrontAt front None A f d ts free)

  -- and refuses any other, if it must be some token
  pub form_idle : {A : Type 0} (f : Form N Node A) → Decided facts f → nullable facts f ≡ false → (ts : List Tok) → sees (begins facts f) ts ≡ false → run (read body) unlimited f ts ≡ Err (misfit, ts)
  form_idle {A} f d n ts e = subst (λ b. Front None b false (reading body None f ts) ts) e (some None f n ts (by_reading facts body sure FrontAt front None A f d ts) free)

  -- where a limit is passed, a token is ahead with which the form begins
  pub deep_begins : (limits : Limits) → Positive limits → (A : Type 0) (f : Form N Node A) → Decided facts f → (ts r : List Tok) → run (read body) limits f ts ≡ Err (too_deep, r) → sees (begins facts f) ts ≡ true
  deep_begins limits positive A f d ts r e =
      let wrong : misfit ≡ too_deep → ⊥ = λ q. cc in
      (elim (sees (begins facts f) ts) as (λ b. Front (Some limits) b (nullable facts f) (run (read body) limits f ts) ts → b ≡ true) [
        | true ↦ λ p. refl
        | false ↦ elim (nullable facts f) as (λ n. Front (Some limits) false n (run (read body) limits f ts) ts → false ≡ true) [
          | true ↦ λ p. let no : ret p.0 ts ≡ Err (too_deep, r) = sym p.1 ∙ e in cc
          | false ↦ λ p. absurd (wrong (ap (λ (y : Read A). fault_of y) (sym p ∙ e)))
        ]
      ]) (by_reading facts body sure FrontAt front (Some limits) A f d ts positive)

  -- and after it one that comes second
  pub deep_second : (limits : Limits) → Positive limits → (U : Kinds) (A : Type 0) (f : Form N Node A) → Decided facts f → Holds (second facts U f) → (ts r : List Tok) → run (read body) limits f ts ≡ Err (too_deep, r) → sees U (drop 1 ts) ≡ true
  deep_second limits positive U A (map {A = B} h f) d e ts r q = deep_second limits positive U B f d e ts r (map_fails (run (read body) limits f ts) h (too_deep, r) q)
  deep_second limits positive U A (◌⨾◌ {A = B} {B = C} (token V v) g) d e [] r q = let no = ap (λ (y : Read (B × C)). fault_of y) q in cc
  deep_second limits positive U A (◌⨾◌ {A = B} {B = C} (token V v) g) (i, (d, o)) (n, (w, k)) (t ∷ ts) r q = go (is V t) q
    where
      go : (b : Bool) → bind {B = B × C} (taken b v t ts) (λ a. run (read body) limits g >>= (λ c. ret (a, c))) ≡ Err (too_deep, r) → sees U ts ≡ true
      go true q = sees_among (begins facts g) U ts w (deep_begins limits positive C g d ts r (map_fails {B = B × C} (run (read body) limits g ts) (λ c. (v t, c)) (too_deep, r) q))
      go false q = let no = ap (λ (y : Read (B × C)). fault_of y) q in cc
  deep_second limits positive U A f d e ts r q = cc

  -- and where the second token is of those that come second, that one too
  pub takes_two : (T U : Kinds) (A : Type 0) (f : Form N Node A) → Decided facts f → Holds (second facts U f) → (ts : List Tok) → sees (begins facts f) ts ≡ true → sees U (drop 1 ts) ≡ true → length (rest_of (run (read body) unlimited f ts)) + 2 ≤ length ts
  takes_two T U A (map {A = B} h f) d s ts e n = omega (arith, ret_left (reading body None f ts) h, takes_two T U B f d s ts e n)
  takes_two T U A (◌⨾◌ {A = B} {B = C} (token V v) g) d s [] e n = cc
  takes_two T U A (◌⨾◌ {A = B} {B = C} (token V v) g) (i, (d, o)) (m, (w, a)) (t ∷ ts) e n =
      let seen : is V t ≡ true = sym (grind arith) ∙ e in
      rw seen (omega (arith, ret_left {B = B × C} (reading body None g ts) (λ (c : C). (v t, c)), form_takes C g d ts (sees_among U (begins facts g) ts a n)))
  takes_two T U A f d s ts e n = cc
