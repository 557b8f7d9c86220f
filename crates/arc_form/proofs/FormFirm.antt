-- What is spelled is read where nothing goes on with it, and without limits it is read to its end, whatever comes after it.
use Rattle.std.proofs.Common.{◌≡◌, ◌⊎◌, inl, inr, ℕ, zero, suc, ◌≤◌, ◌+◌, List, [], ◌∷◌, ◌++◌, length, length-append, append-nil, append_assoc, Ok, Bool, true, false, cond, not, Option, Some, None, refl, sym, ap, subst, ◌∙◌, arith}
use Rattle.std.proofs.lemmas.Bool.{le-ltb}
use Rattle.arc_lex.specs.Tokens.{Tok}
use Rattle.arc_form.specs.Kinds.{Kinds, ◌∪◌, is}
use Rattle.arc_form.specs.Reader.{Read, Reader, bind, ◌>>=◌, ret, sees, sees_two, allowed, nested, up_to}
use Rattle.arc_form.specs.Form.{run, Limits, Form, Bodies, token, give, call, map, ◌⨾◌, into, choose, many, or_none, nest, bounded, two_ahead, avoid, read}
use Rattle.arc_form.specs.Meaning.{AtMost, SpellsAll, SpellsBy, Within, Spells}
use Rattle.arc_form.proofs.Sets.{sees_neither, apart, both, none_seen, sees_among, sees_none, apart_nothing, sees_apart, sees_other, sees_more, second_more}
use Rattle.arc_form.proofs.Static.{Facts, if_so, nullable, begins, goes_on, bars, long, second, Decided, Heads, Holds, Fits}
use Rattle.arc_form.proofs.Local.{rest_of, loop_turn}
use Rattle.arc_form.proofs.FormLocal.{read_is, some_front, under, reading}
use Rattle.arc_form.proofs.FormBegins.{More, more_then, left, loop_end, more_turn, ret_left, form_takes, takes_two}
use Rattle.arc_form.proofs.FormStarts.{OfRules, ◌⇒◌, Starts, AllStart, Fair, fair_less, fair_left, fair_right, fair_none, fair_after, none_left, none_right, starts, start_all, some_starts, head_starts, longs, second_starts, two_kept, seen_some, spells_starts}

-- an answer is this value with these tokens left, or more is taken, and not where E holds
abbrev pub Firm : {A : Type 0} → Option Limits → Read A → A → Type 0 → List Tok → Type 0
Firm o x a E r = (x ≡ Ok (a, r)) ⊎ ((E → ⊥) × More o x r)

firm_less : {A : Type 0} (o : Option Limits) (x : Read A) (a : A) (E F : Type 0) (r : List Tok) → (E → F) → Firm o x a F r → Firm o x a E r
firm_less o x a E F r k (inl e) = inl e
firm_less o x a E F r k (inr (n, m)) = inr (λ e. n (k e), m)

firm_map : {A B : Type 0} (o : Option Limits) (x : Read A) (h : A → B) (a : A) (E : Type 0) (r : List Tok) → Firm o x a E r → Firm o (bind x (λ a. ret (h a))) (h a) E r
firm_map o x h a E r (inl e) = inl (ap (λ y. bind y (λ a. ret (h a))) e)
firm_map o x h a E r (inr (n, m)) = inr (n, more_then o x (λ a. ret (h a)) r (λ z a s. omega arith) m)

none_so : (A : Kinds) (b : Bool) (ts : List Tok) → b ≡ true → sees (if_so b A) ts ≡ false → sees A ts ≡ false
none_so A true ts e h = h
none_so A false ts e h = cc

-- what comes after tokens that begin so, or none, goes on with nothing
after : (b : Bool) (A T : Kinds) (xs rest : List Tok) → Starts b T xs → apart A T ≡ true → sees (if_so b A) rest ≡ false → sees A (xs ++ rest) ≡ false
after b A T xs rest (inl (q, n)) p e = ap (λ v. sees A (v ++ rest)) n ∙ none_so A b rest q e
after b A T xs rest (inr s) p e = sees_other A T (xs ++ rest) p (sees_more T xs rest s)

abbrev pub both_of : {A B C : Type 0} → (A → B → C) → Read A → Reader B → Read C
both_of make x g = bind x (λ a. g >>= (λ b. ret (make a b)))

-- Two parts, of which the second is spelled by zs: what goes on with the first one does so with both, where zs is none.
firm_then : {A B D : Type 0} (make : A → B → D) (o : Option Limits) (b : Bool) (G K T : Kinds) (E F : Type 0) (h : Reader A) (g : Reader B) (a : A) (c : B) (xs ys zs rest r : List Tok) → xs ≡ ys ++ zs
    → Starts b T zs → apart G T ≡ true → (E → (sees (if_so b G) r ≡ false) × Fair (if_so b K) rest r) → (E → F) → (o ≡ None → (s : List Tok) → length (rest_of (g s)) ≤ length s)
    → Firm o (h (ys ++ (zs ++ r))) a ((sees G (zs ++ r) ≡ false) × Fair K (zs ++ rest) (zs ++ r)) (zs ++ r) → Firm o (g (zs ++ r)) c F r → Firm o (bind (h (xs ++ r)) (λ a. g >>= (λ c. ret (make a c)))) (make a c) E r
firm_then {A} {B} {D} make o b G K T E F h g a c xs ys zs rest r line s p of_first of_second few first second =
    subst (λ v. Firm {A = D} o (both_of make (h v) g) (make a c) E r) (sym (ap (λ v. v ++ r) line ∙ append_assoc ys zs r)) (go first)
  where
    more : (x : Read A) (zs : List Tok) → Starts b T zs → (((sees G (zs ++ r) ≡ false) × Fair K (zs ++ rest) (zs ++ r)) → ⊥) → More o x (zs ++ r) → More o (both_of make x g) r
    more x [] s n k = more_then o x (λ a. g >>= (λ c. ret (make a c))) r (λ z a v. omega (arith, ret_left (g v) (make a), few z v)) k
    more x (t ∷ zs) (inl (e, z)) n k = cc
    more x (t ∷ zs) (inr s) n k = absurd (n (sees_other G T (t ∷ (zs ++ r)) p s, inr refl))

    go : {x : Read A} → Firm o x a ((sees G (zs ++ r) ≡ false) × Fair K (zs ++ rest) (zs ++ r)) (zs ++ r) → Firm o (both_of make x g) (make a c) E r
    go (inl e) = subst (λ (y : Read A). Firm {A = D} o (both_of make y g) (make a c) E r) (sym e) (firm_map o (g (zs ++ r)) (make a) c E r (firm_less o (g (zs ++ r)) c E F r of_second second))
    go {x} (inr (n, k)) = inr (λ e. n (after b G T zs r s p (of_first e).0, fair_after b K T zs rest r s (of_first e).1), more x zs s n k)

pub allowed_fits : (most : Option ℕ) (d : ℕ) → AtMost most d → allowed most d ≡ ret tt
unfolding allowed
allowed_fits None d p = refl
allowed_fits (Some n) d p = rw (le-ltb n d p) refl

pub nested_fits : {A : Type 0} (most : Option ℕ) (d : ℕ) (T : Kinds) (f : Reader A) (ts : List Tok) → AtMost most d → nested most d T f ts ≡ f ts
unfolding nested
nested_fits None d T f ts p = refl
nested_fits (Some n) d T f ts p = rw (le-ltb n d p) refl

firm_up_to : {A : Type 0} (o : Option Limits) (f : Reader A) (a : A) (E : Type 0) (r xs : List Tok) → AtMost (under o).tokens (length xs) → Firm None (f (xs ++ r)) a E r → Firm o (up_to (under o).tokens f (xs ++ r)) a E r
unfolding up_to
firm_up_to None f a E r xs p m = m
firm_up_to (Some limits) f a E r xs p (inr (n, m)) = inr (n, tt)
firm_up_to (Some limits) f a E r xs p (inl e) =
    inl ((elim limits.tokens as (λ most. AtMost most (length xs) → up_to most f (xs ++ r) ≡ Ok (a, r)) [ None ↦ λ p. e | Some n ↦ λ p. rw (e, le-ltb (length r + n) (length (xs ++ r)) (omega (arith, length-append xs r, p))) refl ]) p)

module _ {N : Type 0} {Node : N → Type 0} (facts : N → Facts) (body : Bodies N Node) (sure : (n : N) → Fits facts body n) where
  -- r can come after what the form spells before rest
  abbrev pub Ends : {A : Type 0} → Form N Node A → List Tok → List Tok → Type 0
  Ends f rest r = (sees (goes_on facts f) r ≡ false) × Fair (bars facts f) rest r

  both_ends : {A : Type 0} (f g : Form N Node A) (rest r : List Tok) → sees (goes_on facts f ∪ goes_on facts g) r ≡ false → Fair (bars facts f ∪ bars facts g) rest r → Ends f rest r × Ends g rest r
  both_ends f g rest r n q = let p = sees_neither (goes_on facts f) (goes_on facts g) r n in ((p.0, fair_left (bars facts f) (bars facts g) rest r q), (p.1, fair_right (bars facts f) (bars facts g) rest r q))

  more_takes : (o : Option Limits) (A : Type 0) (f : Form N Node A) → Decided facts f → (r : List Tok) → sees (begins facts f) r ≡ true → More o (reading body o f r) r
  more_takes None A f d r s = form_takes facts body sure A f d r s
  more_takes (Some limits) A f d r s = tt

  more_turns : (o : Option Limits) (T : Kinds) {A : Type 0} (f : Form N Node A) → Decided facts (many T f) → (ts r : List Tok) → sees T ts ≡ true → More o (reading body o f ts) r → More o (reading body o (many T f) ts) r
  more_turns o T f d ts r s m = rw (loop_turn T (some_front facts body sure (under o) f d.0 d.1.0.0) ts, s) (more_turn facts body sure o T f d ts r m)

  more_two : (o : Option Limits) (T U : Kinds) (A : Type 0) (f : Form N Node A) → Decided facts f → Holds (second facts U f) → Heads facts T f → (xs rest r : List Tok)
      → sees_two T U (xs ++ r) ≡ true → sees_two T U (xs ++ rest) ≡ false → 1 ≤ length xs → More o (reading body o f (xs ++ r)) r
  more_two (Some limits) T U A f d s h xs rest r p q z = tt
  more_two None T U A f d s h [] rest r p q z = absurd (omega arith)
  more_two None T U A f d s h (t ∷ []) rest r p q z =
      let seen = both (is T t) (sees U r) p in
      let k = takes_two facts body sure T U A f d s (t ∷ r) (sees_among T (begins facts f) (t ∷ r) h.1.1 seen.0) seen.1 in
      omega (arith, k)
  more_two None T U A f d s h (t ∷ u ∷ xs) rest r p q z = cc

  -- what may be passed over is passed over, or takes a token
  passed : (o : Option Limits) (T : Kinds) (A : Type 0) (f : Form N Node A) → Decided facts f → Heads facts T f → (y : Read A) (a : A) (E : Type 0) (r : List Tok) → (E → sees T r ≡ false) → Firm o y a E r → Firm o (cond (sees T r) (reading body o f r) y) a E r
  passed o T A f d (n, (w, k)) y a E r not_seen m =
      (elim (sees T r) as (λ b. sees T r ≡ b → Firm o (cond b (reading body o f r) y) a E r)
      [ true ↦ λ q. inr (λ e. let no = not_seen e in cc, more_takes o A f d r (sees_among T (begins facts f) r k q)) | false ↦ λ q. m ]) refl

  module _ (L : OfRules N Node) (up : L ⇒ Spells body) (rule : (o : Option Limits) (n : N) (a : Node n) (rest xs : List Tok) → L (under o) n a rest xs → (r : List Tok) → Firm o (read body (under o) n (xs ++ r)) a (Ends (call n) rest r) r) where
    s : AllStart facts L
    s limits n a r xs x = spells_starts facts body sure limits n a r xs (up limits n a r xs x)

    ahead : (o : Option Limits) (T : Kinds) {A : Type 0} (f : Form N Node A) → Decided facts f → Heads facts T f → (a : A) (rest xs r : List Tok) → SpellsBy L (under o) f a rest xs → sees T (xs ++ r) ≡ true
    ahead o T f d h a rest xs r x = sees_more T xs r (head_starts facts L s (under o) T f d h a rest xs x)

    firm_all : (o : Option Limits) (T : Kinds) {A : Type 0} (f : Form N Node A) → Decided facts (many T f) → ((a : A) (rest xs r : List Tok) → SpellsBy L (under o) f a rest xs → Firm o (reading body o f (xs ++ r)) a (Ends f rest r) r)
        → (all : List A) (rest xs r : List Tok) → SpellsAll (SpellsBy L (under o) f) all rest xs → Firm o (reading body o (many T f) (xs ++ r)) all (Ends (many T f) rest r) r
    firm_all o T {A} f (d, (h, p)) k [] rest xs r e =
        subst (λ v. Firm {A = List A} o (reading body o (many T f) (v ++ r)) [] (Ends (many T f) rest r) r) (sym e)
        ((elim (sees T r) as (λ b. sees T r ≡ b → Firm {A = List A} o (reading body o (many T f) r) [] (Ends (many T f) rest r) r) [
          | true ↦ λ q. inr (λ e. let no = none_left T (goes_on facts f) r e.0 in cc, more_turns o T f (d, (h, p)) r r q (more_takes o A f d r (sees_among T (begins facts f) r h.1.1 q)))
          | false ↦ λ q. inl (loop_end (reading body o f) T r q)
        ]) refl)
    firm_all o T {A} f (d, (h, (p, q))) k (a ∷ others) rest xs r (ys, zs, e, x, y) =
        let seen = sees_more T xs r (ap (sees T) e ∙ sees_more T ys zs (head_starts facts L s (under o) T f d h a (zs ++ rest) ys x)) in
        let more = start_all (SpellsBy L (under o) f) T (head_starts facts L s (under o) T f d h) others rest zs y in
        rw (loop_turn T (some_front facts body sure (under o) f d h.0) (xs ++ r), seen)
        (firm_then (λ a others. a ∷ others) o true (goes_on facts f) (bars facts f) T (Ends (many T f) rest r) (Ends (many T f) rest r) (reading body o f) (reading body o (many T f)) a others xs ys zs rest r e
        more p (λ e. (none_right T (goes_on facts f) r e.0, e.1)) (λ e. e) (left facts body sure o (many T f) (d, (h, (p, q)))) (k a (zs ++ rest) ys (zs ++ r) x) (firm_all o T f (d, (h, (p, q))) k others rest zs r y))

    firm : (o : Option Limits) (A : Type 0) (f : Form N Node A) → Decided facts f → (a : A) (rest xs r : List Tok) → SpellsBy L (under o) f a rest xs → Firm o (reading body o f (xs ++ r)) a (Ends f rest r) r
    firm o A (token T g) d a rest xs r (t, e, i, v) = inl (rw (e, i, v) refl)
    firm o A (give b) d a rest xs r (e, v) = inl (rw (e, v) refl)
    firm o A (call m) d a rest xs r x = rule o m a rest xs x r
    firm o A (map {A = B} h f) d b rest xs r (a, v, x) =
        subst (λ b. Firm o (reading body o (map h f) (xs ++ r)) b (Ends f rest r) r) (sym v) (firm_map o (reading body o f (xs ++ r)) h a (Ends f rest r) r (firm o B f d a rest xs r x))
    firm o A (◌⨾◌ {A = B} {B = C} f g) (d, (d', (p, q))) a rest xs r (ys, zs, e, x, y) =
        let further = if_so (nullable facts g) (goes_on facts f) in
        let barred = if_so (nullable facts g) (bars facts f) in
        firm_then {D = B × C} (λ b c. (b, c)) o (nullable facts g) (goes_on facts f) (bars facts f) (begins facts g) (Ends (f ⨾ g) rest r) (Ends g rest r) (reading body o f) (reading body o g) a.0 a.1 xs ys zs rest r e
        (starts facts L s (under o) g d' a.1 rest zs y) p (λ e. (none_right (goes_on facts g) further r e.0, fair_right (bars facts g) barred rest r e.1))
        (λ e. (none_left (goes_on facts g) further r e.0, fair_left (bars facts g) barred rest r e.1)) (left facts body sure o g d') (firm o B f d a.0 (zs ++ rest) ys (zs ++ r) x) (firm o C g d' a.1 rest zs r y)
    firm o A (into {A = B} {B = C} m f g) (d, (d', (n, (n', (w, b))))) a rest xs r (p, (ys, zs, e, x, y)) =
        rw (allowed_fits (under o).depth m p)
        (firm_then {D = B × C} (λ b c. (b, c)) o (nullable facts g) (goes_on facts f) (bars facts f) (begins facts g) (Ends g rest r) (Ends g rest r) (reading body o f) (reading body o g) a.0 a.1 xs ys zs rest r e
        (starts facts L s (under o) g d' a.1 rest zs y) (apart_nothing (goes_on facts f) (begins facts g) w) (λ e. rw n' (none_seen r, inl (none_seen r))) (λ e. e) (left facts body sure o g d')
        (firm o B f d a.0 (zs ++ rest) ys (zs ++ r) x) (firm o C g d' a.1 rest zs r y))
    firm o A (choose T f g) (d, (d', (h, p))) a rest xs r (inl x) =
        rw (ahead o T f d h a rest xs r x) (firm_less o (reading body o f (xs ++ r)) a _ _ r (λ e. (both_ends f g rest r (none_left (goes_on facts f ∪ goes_on facts g) (if_so (nullable facts g) T) r e.0) e.1).0) (firm o A f d a rest xs r x))
    firm o A (choose T f g) (d, (d', (h, p))) a rest xs r (inr x) =
        go (starts facts L s (under o) g d' a rest xs x)
        (firm_less o (reading body o g (xs ++ r)) a (Ends (choose T f g) rest r) (Ends g rest r) r (λ e. (both_ends f g rest r (none_left (goes_on facts f ∪ goes_on facts g) (if_so (nullable facts g) T) r e.0) e.1).1) (firm o A g d' a rest xs r x))
      where
        go : Starts (nullable facts g) (begins facts g) xs → Firm o (reading body o g (xs ++ r)) a (Ends (choose T f g) rest r) r → Firm o (cond (sees T (xs ++ r)) (reading body o f (xs ++ r)) (reading body o g (xs ++ r))) a (Ends (choose T f g) rest r) r
        go (inl (n, e)) m = subst (λ v. Firm o (cond (sees T (v ++ r)) (reading body o f (v ++ r)) (reading body o g (v ++ r))) a (Ends (choose T f g) rest r) r) (sym e)
            (passed o T A f d h (reading body o g r) a (Ends (choose T f g) rest r) r (λ e. none_so T (nullable facts g) r n (none_right (goes_on facts f ∪ goes_on facts g) (if_so (nullable facts g) T) r e.0))
            (subst (λ v. Firm o (reading body o g (v ++ r)) a (Ends (choose T f g) rest r) r) e m))
        go (inr q) m = rw (sees_apart (begins facts g) T (xs ++ r) p (sees_more (begins facts g) xs r q)) m
    firm o A (many {A = B} T f) (d, p) all rest xs r x = firm_all o T f (d, p) (firm o B f d) all rest xs r x
    firm o A (or_none T f b) (d, h) a rest xs r (inl x) = rw (ahead o T f d h a rest xs r x) (firm_less o (reading body o f (xs ++ r)) a _ _ r (λ e. (e.0, fair_right T (bars facts f) rest r e.1)) (firm o A f d a rest xs r x))
    firm o A (or_none T f b) (d, h) a rest xs r (inr (e, v, m)) =
        subst (λ y. Firm o (cond (sees T (y ++ r)) (reading body o f (y ++ r)) (ret b (y ++ r))) a (Ends (or_none T f b) rest r) r) (sym e)
        (passed o T A f d h (ret b r) a (Ends (or_none T f b) rest r) r (λ e. fair_none T rest r m (fair_left T (bars facts f) rest r e.1)) (inl (ap (λ y. Ok (y, r)) (sym v))))
    firm o A (nest m T f) (d, h) a rest xs r (p, x) = rw (nested_fits (under o).depth m T (reading body o f) (xs ++ r) p) (firm o A f d a rest xs r x)
    firm o A (bounded f) (d, n) a rest xs r (p, x) = firm_up_to o (reading body None f) a (Ends f rest r) r xs p (firm None A f d a rest xs r x)
    firm o A (two_ahead T U f g) (d, (d', (h, (p, q)))) a rest xs r (inl x) =
        rw (ahead o T f d h a rest xs r x, second_more U xs r (second_starts facts L s U (under o) _ f d p a rest xs x)) (firm_less o (reading body o f (xs ++ r)) a _ _ r
        (λ e. (both_ends f g rest r e.0 (fair_right (if_so (not (long facts g)) U) (bars facts f ∪ bars facts g) rest r e.1)).0) (firm o A f d a rest xs r x))
    firm o A (two_ahead T U f g) (d, (d', (h, (p, (n, q))))) a rest xs r (inr (x, e)) =
        let second = if_so (not (long facts g)) U in
        let others = bars facts f ∪ bars facts g in
        let some = seen_some (begins facts g) xs (some_starts facts L s (under o) g d' n a rest xs x) in
        let kept = two_kept (long facts g) T U xs rest r (λ l. longs facts L s (under o) _ g d' l a rest xs x) some in
        let of_g = firm o A g d' a rest xs r x in
        (elim (sees_two T U (xs ++ r)) as (λ b. sees_two T U (xs ++ r) ≡ b → Firm o (cond b (reading body o f (xs ++ r)) (reading body o g (xs ++ r))) a (Ends (two_ahead T U f g) rest r) r) [
          | true ↦ λ k. inr (λ ends. let no = kept (fair_left second others rest r ends.1) e in cc, more_two o T U A f d p h xs rest r k e some)
          | false ↦ λ k. firm_less o (reading body o g (xs ++ r)) a _ _ r (λ e. (both_ends f g rest r e.0 (fair_right second others rest r e.1)).1) of_g
        ]) refl
    firm o A (avoid T U f) (d, (e, (n, (t, (l, p))))) a rest xs r (x, q) =
        rw (two_kept true T U xs [] r (λ z. longs facts L s (under o) _ f d l a rest xs x) (seen_some (begins facts f) xs (some_starts facts L s (under o) f d n a rest xs x)) (inl (none_seen r)) (ap (sees_two T U) (append-nil xs) ∙ q)) (firm o A f d a rest xs r x)

  within_firm : (h : ℕ) (o : Option Limits) (n : N) (a : Node n) (rest xs : List Tok) → Within body h (under o) n a rest xs → (r : List Tok) → Firm o (read body (under o) n (xs ++ r)) a (Ends (call n) rest r) r
  unfolding Within
  within_firm zero o n a rest xs x r = absurd x
  within_firm (suc h) o n a rest xs x r = rw (read_is facts body sure (under o) n (xs ++ r)) (firm_less o (reading body o (body n) (xs ++ r)) a (Ends (call n) rest r) (Ends (body n) rest r) r
      (λ e. (sees_none (goes_on facts (body n)) (facts n).goes_on r (sure n).further e.0, fair_less (bars facts (body n)) (facts n).bars rest r (λ ts. sees_none (bars facts (body n)) (facts n).bars ts (sure n).barred) e.1))
      (firm (Within body h) (λ l m b s ys y. (h, y)) (within_firm h) o (Node n) (body n) (sure n).sure a rest xs r x))

  -- what is spelled is read to its end, whatever comes after it, or more is taken
  pub form_firm : (o : Option Limits) (A : Type 0) (f : Form N Node A) → Decided facts f → (a : A) (rest xs r : List Tok) → SpellsBy (Spells body) (under o) f a rest xs → Firm o (reading body o f (xs ++ r)) a (Ends f rest r) r
  form_firm o A f d a rest xs r x = firm (Spells body) (λ l m b s ys y. y) (λ o n a rest xs x r. within_firm x.0 o n a rest xs x.1 r) o A f d a rest xs r x

  -- what is spelled is read, where nothing goes on with it
  pub form_complete : (limits : Limits) {A : Type 0} (f : Form N Node A) → Decided facts f → (a : A) (rest xs : List Tok) → SpellsBy (Spells body) limits f a rest xs → sees (goes_on facts f) rest ≡ false → run (read body) limits f (xs ++ rest) ≡ Ok (a, rest)
  form_complete limits {A} f d a rest xs x e =
      elim (form_firm (Some limits) A f d a rest xs rest x) as (λ m. run (read body) limits f (xs ++ rest) ≡ Ok (a, rest)) [ inl q ↦ q | inr m ↦ absurd (m.0 (e, inr refl)) ]
