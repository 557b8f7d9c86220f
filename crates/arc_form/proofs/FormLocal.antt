-- What holds of each form whose parts it holds of, where they are read, holds of all forms; and a rule is its right side.
use Rattle.std.proofs.Common.{subst, ◌≡◌, ◌⊎◌, inl, inr, ℕ, zero, suc, ◌<◌, ◌≤◌, ◌+◌, List, length, drop, length-drop, Ok, Bool, true, false, not, ◌&&◌, ◌||◌, Option, Some, None, sym, arith}
use Rattle.arc_lex.specs.Tokens.{Tok}
use Rattle.arc_form.specs.Reader.{Read, Reader, loop, up_to, misfit, too_deep, allowed, ◌>>=◌, ret, sees, sees_two, is_above}
use Rattle.arc_form.specs.Form.{Limits, unlimited, Form, Rules, Bodies, token, give, call, map, ◌⨾◌, into, choose, many, or_none, nest, bounded, two_ahead, avoid, run, deep, read}
use Rattle.arc_form.proofs.Static.{Facts, nullable, guarded, Decided, Fits}
use Rattle.arc_form.proofs.Local.{Alike, Takes, alike_less, alike_ret, alike_err, alike_then, alike_if, alike_token, alike_cut, turns_alike, alike_past, allowed_then, nested_is, ok_left, all_left, rest_of}

-- these limits, or none
abbrev pub under : Option Limits → Limits
under None = unlimited
under (Some limits) = limits

-- of a form that is read of some tokens, under limits or without
abbrev pub Property : (N : Type 0) → (N → Type 0) → Type 1
Property N Node = Option Limits → (A : Type 0) → Form N Node A → List Tok → Type 0

-- the fewest tokens of what may be no token or not
abbrev pub need : Bool → ℕ
need true = 0
need false = 1

pub some_need : {A : Type 0} {ts : List Tok} {x y : Read A} (b : Bool) → b ≡ false → Alike (need b) ts x y → Alike 1 ts x y
some_need {ts = ts} {x = x} {y = y} b e l = subst (λ b. Alike (need b) ts x y) e l

-- there are fewer than k tokens, or k, and a token is taken before any rule is read
abbrev Room : ℕ → Bool → List Tok → Type 0
Room k b ts = (length ts < k) ⊎ ((b ≡ true) × (length ts ≤ k))

room_both : (k : ℕ) (b c : Bool) (ts : List Tok) → Room k (b && c) ts → Room k b ts × Room k c ts
room_both k b c ts p = grind arith

-- after a part that may be no token or not
room_next : (k : ℕ) (b n : Bool) (ts s : List Tok) → Room k (not n || b) ts → need n + length s ≤ length ts → Room k b s
room_next k b n ts s p le = grind arith

-- after a part that is some token
room_after : (k : ℕ) (b c : Bool) (ts s : List Tok) → Room k b ts → 1 + length s ≤ length ts → Room k c s
room_after k b c ts s p le = grind arith

fewer : (k : ℕ) (b : Bool) (ts us : List Tok) → length us ≤ length ts → Room k b ts → Room k b us
fewer k b ts us le p = grind arith

-- it holds of a form's parts, of the tokens of which they are read, and C of a rule
abbrev pub OfParts : {N : Type 0} {Node : N → Type 0} → (Limits → Rules N Node) → (Option Limits → N → List Tok → Type 0) → Property N Node → Property N Node
OfParts of C P o A (token T g) ts = Unit {0}
OfParts of C P o A (give a) ts = Unit {0}
OfParts of C P o A (call n) ts = C o n ts
OfParts of C P o A (map {A = B} h f) ts = P o B f ts
OfParts of C P o A (◌⨾◌ {A = B} {B = D} f g) ts = P o B f ts × ((a : B) (s : List Tok) → run of (under o) f ts ≡ Ok (a, s) → P o D g s)
OfParts of C P o A (into {A = B} {B = D} m f g) ts = P o B f ts × ((a : B) (s : List Tok) → run of (under o) f ts ≡ Ok (a, s) → P o D g s)
OfParts of C P o A (choose T f g) ts = P o A f ts × P o A g ts
OfParts of C P o A (many {A = B} T f) ts = ((us : List Tok) → length us ≤ length ts → P o B f us) × ((a : B) (s : List Tok) → run of (under o) f ts ≡ Ok (a, s) → P o A (many T f) s)
OfParts of C P o A (or_none T f a) ts = P o A f ts
OfParts of C P o A (nest d T f) ts = P o A f ts
OfParts of C P o A (bounded f) ts = P None A f ts
OfParts of C P o A (two_ahead T U f g) ts = P o A f ts × P o A g ts
OfParts of C P o A (avoid T U f) ts = P o A f ts

module _ {N : Type 0} {Node : N → Type 0} (body : Bodies N Node) where
  abbrev pub reading : Option Limits → {A : Type 0} → Form N Node A → Reader A
  reading o f = run (read body) (under o) f

  abbrev pub PartsOf : Property N Node → Property N Node
  PartsOf P = OfParts (read body) (λ o n ts. P o (Node n) (body n) ts) P

module _ {N : Type 0} {Node : N → Type 0} (facts : N → Facts) where
  -- of forms whose rules are read so: what is left shows that rules are read of fewer than k tokens
  module _ (of : Limits → Rules N Node) (C : Option Limits → N → List Tok → Type 0) (P : Property N Node)
      (left : (o : Option Limits) (A : Type 0) (f : Form N Node A) → Decided facts f → (ts : List Tok) → P o A f ts → (a : A) (s : List Tok) → run of (under o) f ts ≡ Ok (a, s) → need (nullable facts f) + length s ≤ length ts)
      (step : (o : Option Limits) (A : Type 0) (f : Form N Node A) → Decided facts f → (ts : List Tok) → OfParts of C P o A f ts → P o A f ts)
      (k : ℕ) (rec : (o : Option Limits) (n : N) (ts : List Tok) → length ts < k → C o n ts) where
    each : (o : Option Limits) (A : Type 0) (f : Form N Node A) → Decided facts f → (ts : List Tok) → Room k (guarded facts f) ts → P o A f ts
    each o A (token T g) d ts p = step o A (token T g) d ts tt
    each o A (give a) d ts p = step o A (give a) d ts tt
    each o A (call n) d ts (inl p) = step o A (call n) d ts (rec o n ts p)
    each o A (call n) d ts (inr (e, p)) = cc
    each o A (map {A = B} h f) d ts p = step o A (map h f) d ts (each o B f d ts p)
    each o A (◌⨾◌ {A = B} {B = D} f g) (d, (d', q)) ts p =
        let room = room_both k (guarded facts f) (not (nullable facts f) || guarded facts g) ts p in
        let first = each o B f d ts room.0 in
        step o A (f ⨾ g) (d, (d', q)) ts (first, λ a s e. each o D g d' s (room_next k (guarded facts g) (nullable facts f) ts s room.1 (left o B f d ts first a s e)))
    each o A (into {A = B} {B = D} m f g) (d, (d', (n, q))) ts p =
        let first = each o B f d ts p in
        step o A (into m f g) (d, (d', (n, q))) ts (first, λ a s e. each o D g d' s (room_after k (guarded facts f) (guarded facts g) ts s p (subst (λ n. need n + length s ≤ length ts) n (left o B f d ts first a s e))))
    each o A (choose T f g) (d, (d', q)) ts p = let room = room_both k (guarded facts f) (guarded facts g) ts p in step o A (choose T f g) (d, (d', q)) ts (each o A f d ts room.0, each o A g d' ts room.1)
    each o A (many {A = B} T f) (d, (h, q)) ts p = all (each o B f d) (suc (length ts)) ts (omega arith) p
      where
        taken : (b : Bool) → b ≡ false → (s us : List Tok) → need b + length s ≤ length us → length s < length us
        taken b e s us le = grind arith

        all : ((us : List Tok) → Room k (guarded facts f) us → P o B f us) → (j : ℕ) (us : List Tok) → length us < j → Room k (guarded facts f) us → P o A (many T f) us
        all inside zero us r p = absurd (omega arith)
        all inside (suc j) us r p =
            step o A (many T f) (d, (h, q)) us (
              λ vs le. inside vs (fewer k (guarded facts f) us vs le p),
              λ a s e. let less = taken (nullable facts f) h.0 s us (left o B f d us (inside us p) a s e) in all inside j s (omega (arith, less)) (fewer k (guarded facts f) us s (omega (arith, less)) p),
            )
    each o A (or_none T f a) (d, q) ts p = step o A (or_none T f a) (d, q) ts (each o A f d ts p)
    each o A (nest m T f) (d, q) ts p = step o A (nest m T f) (d, q) ts (each o A f d ts p)
    each o A (bounded f) (d, q) ts p = step o A (bounded f) (d, q) ts (each None A f d ts p)
    each o A (two_ahead T U f g) (d, (d', q)) ts p = let room = room_both k (guarded facts f) (guarded facts g) ts p in step o A (two_ahead T U f g) (d, (d', q)) ts (each o A f d ts room.0, each o A g d' ts room.1)
    each o A (avoid T U f) (d, q) ts p = step o A (avoid T U f) (d, q) ts (each o A f d ts p)

  -- two readings of a form by rules that read alike
  module _ (g h : Limits → Rules N Node) where
    abbrev AlikeAt : Property N Node
    AlikeAt o A f ts = Alike (need (nullable facts f)) ts (run g (under o) f ts) (run h (under o) f ts)

    abbrev AlikeRule : Option Limits → N → List Tok → Type 0
    AlikeRule o n ts = Alike 1 ts (g (under o) n ts) (h (under o) n ts)

    alike : (o : Option Limits) (A : Type 0) (f : Form N Node A) → Decided facts f → (ts : List Tok) → OfParts g AlikeRule AlikeAt o A f ts → AlikeAt o A f ts
    unfolding loop up_to
    alike o A (token T v) d ts x = alike_token T v ts
    alike o A (give a) d ts x = alike_ret ts a
    alike o A (call n) d ts x = x
    alike o A (map v f) d ts x = alike_less (need (nullable facts f)) (omega arith) (alike_then (λ a. ret (v a)) (λ a. ret (v a)) x (λ a s e. alike_ret s (v a)))
    alike o A (◌⨾◌ {A = B} {B = D} f f') d ts (x, y) =
        alike_less (need (nullable facts (f ⨾ f'))) (grind arith) (alike_then (λ a. run g (under o) f' >>= (λ b. ret (a, b))) (λ a. run h (under o) f' >>= (λ b. ret (a, b))) x (λ a s e. alike_then (λ b. ret (a, b)) (λ b. ret (a, b)) (y a s e) (λ b r q. alike_ret r (a, b))))
    alike o A (into {A = B} {B = D} m f f') (d, (d', (n, q))) ts (x, y) =
        alike_less 1 (omega arith) (alike_then {d = 1} {e = 0} (λ a. allowed (under o).depth m >>= (λ u. run g (under o) f' >>= (λ b. ret (a, b)))) (λ a. allowed (under o).depth m >>= (λ u. run h (under o) f' >>= (λ b. ret (a, b))))
        (some_need (nullable facts f) n x) (λ a s e. rw (allowed_then {A = B × D} (under o).depth m (run g (under o) f' >>= (λ b. ret (a, b))) s, allowed_then {A = B × D} (under o).depth m (run h (under o) f' >>= (λ b. ret (a, b))) s)
        (alike_if (is_above (under o).depth m) (alike_past s) (alike_less 0 (omega arith) (alike_then (λ b. ret (a, b)) (λ b. ret (a, b)) (y a s e) (λ b r q. alike_ret r (a, b)))))))
    alike o A (choose T f f') (d, (d', (n, q))) ts (x, y) = alike_if (sees T ts) (alike_less (need (nullable facts f')) (grind arith) (some_need (nullable facts f) n.0 x)) y
    alike o A (many T f) (d, (n, q)) ts (x, y) = turns_alike T (suc (length ts)) (suc (length ts)) ts (omega arith) (omega arith) (λ us p. some_need (nullable facts f) n.0 (x us p))
    alike o A (or_none T f a) d ts x = alike_if (sees T ts) (alike_less 0 (omega arith) x) (alike_ret ts a)
    alike o A (nest m T f) (d, n) ts x =
        rw (nested_is (under o).depth m T (run g (under o) f) ts, nested_is (under o).depth m T (run h (under o) f) ts)
        (alike_if (is_above (under o).depth m) (alike_if (sees T ts) (alike_err 1 ts ts too_deep (omega arith)) (alike_err 1 ts ts misfit (omega arith))) (some_need (nullable facts f) n.0 x))
    alike o A (bounded f) (d, n) ts x = alike_cut (under o).tokens (some_need (nullable facts f) n x)
    alike o A (two_ahead T U f f') (d, (d', (n, (s, (n', t))))) ts (x, y) = alike_if (sees_two T U ts) (some_need (nullable facts f) n.0 x) (some_need (nullable facts f') n' y)
    alike o A (avoid T U f) (d, (s, (n, t))) ts x = alike_if (sees_two T U ts) (alike_err 1 ts (drop 1 ts) misfit (omega (arith, length-drop 1 ts))) (some_need (nullable facts f) n x)

    alike_each : (k : ℕ) → ((o : Option Limits) (n : N) (ts : List Tok) → length ts < k → AlikeRule o n ts) → (o : Option Limits) (A : Type 0) (f : Form N Node A) → Decided facts f → (ts : List Tok) → Room k (guarded facts f) ts → AlikeAt o A f ts
    alike_each = each g AlikeRule AlikeAt (λ o A f d ts l a s e. ok_left l e) alike

  module _ (body : Bodies N Node) (sure : (n : N) → Fits facts body n) where
    -- any bound of the rules under way is as good as another, if it is more than the tokens
    deep_alike : (k n m : ℕ) → k ≤ n → k ≤ m → (o : Option Limits) (rule : N) (ts : List Tok) → length ts < k → Alike 1 ts (deep body n (under o) rule ts) (deep body m (under o) rule ts)
    unfolding deep
    deep_alike zero n m p q o rule ts few = absurd (omega arith)
    deep_alike (suc k) zero m p q o rule ts few = absurd (omega arith)
    deep_alike (suc k) (suc n) zero p q o rule ts few = absurd (omega arith)
    deep_alike (suc k) (suc n) (suc m) p q o rule ts few =
        some_need (nullable facts (body rule)) (sure rule).head.0
        (alike_each (deep body n) (deep body m) k (deep_alike k n m (omega arith) (omega arith)) o (Node rule) (body rule) (sure rule).sure ts (inr ((sure rule).guard, omega arith)))

    read_takes : (o : Option Limits) (rule : N) (ts : List Tok) → Alike 1 ts (read body (under o) rule ts) (read body (under o) rule ts)
    unfolding read
    read_takes o rule ts = let n = suc (length ts) in let a = deep_alike n n n (omega arith) (omega arith) o rule ts (omega arith) in a

    -- a rule is its right side, over the rules
    pub read_is : (limits : Limits) (rule : N) (ts : List Tok) → read body limits rule ts ≡ run (read body) limits (body rule) ts
    unfolding read deep
    read_is limits rule ts =
        let n = length ts in
        let each = alike_each (deep body n) (read body) n (λ o r us p. deep_alike (suc (length us)) n (suc (length us)) p (omega arith) o r us (omega arith)) in
        sym (each (Some limits) (Node rule) (body rule) (sure rule).sure ts (inr ((sure rule).guard, omega arith))).same

    -- a rule takes a token at least
    pub fronts : (limits : Limits) (rule : N) → Takes 1 (read body limits rule)
    fronts limits rule = record { each = λ ts. read_takes (Some limits) rule ts }

    form_takes_so : (o : Option Limits) (A : Type 0) (f : Form N Node A) → Decided facts f → (ts : List Tok) → Alike (need (nullable facts f)) ts (reading body o f ts) (reading body o f ts)
    form_takes_so o A f d ts = alike_each (read body) (read body) (suc (length ts)) (λ o r us p. read_takes o r us) o A f d ts (inl (omega arith))

    -- and so does a form, if it is some
    pub some_front : (limits : Limits) {A : Type 0} (f : Form N Node A) → Decided facts f → nullable facts f ≡ false → Takes 1 (run (read body) limits f)
    some_front limits {A} f d n = record { each = λ ts. some_need (nullable facts f) n (form_takes_so (Some limits) A f d ts) }

    -- a form leaves no more than there is
    pub form_left : {A : Type 0} (f : Form N Node A) → Decided facts f → (ts : List Tok) → length (rest_of (run (read body) unlimited f ts)) ≤ length ts
    form_left {A} f d ts = let x = run (read body) unlimited f ts in all_left x x (form_takes_so None A f d ts)

    module _ (P : Property N Node) (step : (o : Option Limits) (A : Type 0) (f : Form N Node A) → Decided facts f → (ts : List Tok) → PartsOf body P o A f ts → P o A f ts) where
      reads_each : (k : ℕ) → ((o : Option Limits) (n : N) (ts : List Tok) → length ts < k → P o (Node n) (body n) ts) → (o : Option Limits) (A : Type 0) (f : Form N Node A) → Decided facts f → (ts : List Tok) → Room k (guarded facts f) ts → P o A f ts
      reads_each = each (read body) (λ o n ts. P o (Node n) (body n) ts) P (λ o A f d ts p a s e. ok_left (form_takes_so o A f d ts) e) step

      rules : (k : ℕ) (o : Option Limits) (n : N) (ts : List Tok) → length ts < k → P o (Node n) (body n) ts
      rules zero o n ts p = absurd (omega arith)
      rules (suc k) o n ts p = reads_each k (rules k) o (Node n) (body n) (sure n).sure ts (inr ((sure n).guard, omega arith))

      pub by_reading : (o : Option Limits) (A : Type 0) (f : Form N Node A) → Decided facts f → (ts : List Tok) → P o A f ts
      by_reading o A f d ts = reads_each (suc (length ts)) (rules (suc (length ts))) o A f d ts (inl (omega arith))
