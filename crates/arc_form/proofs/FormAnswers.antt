-- What an answer says: a value is spelled by the tokens that were taken; those before a refused token go on to something that
-- is spelled; a limit is passed where a token is too deep; and without limits a form stops at every other place, too.
use Rattle.std.proofs.Common.{◌≡◌, ◌⊎◌, inl, inr, ℕ, suc, ◌<◌, ◌≤◌, ◌+◌, List, [], ◌∷◌, ◌++◌, length, length-append, append_assoc, append-nil, take, drop, nat_lt, Ok, Err, Bool, true, false, cond, ◌&&◌, ◌||◌, Option, Some, None, refl, sym, ap, subst, ◌∙◌, arith}
use Rattle.std.proofs.lemmas.Bool.{ltb-true, ltb-false}
use Rattle.std.proofs.lemmas.List.{take-append-drop, take-append-le, drop-append-le, length-take-le}
use Rattle.arc_lex.specs.Tokens.{Tok}
use Rattle.arc_form.specs.Kinds.{Kinds, is}
use Rattle.arc_form.specs.Reader.{Read, Reader, misfit, too_deep, bind, ◌>>=◌, ret, second_unexpected, first, if_sees, if_sees_two, sees, sees_two, taken, take_one, is_above, past, allowed, goes_over, cut, up_to}
use Rattle.arc_form.specs.Form.{Limits, unlimited, Form, Bodies, token, give, call, map, ◌⨾◌, into, choose, many, or_none, nest, bounded, two_ahead, avoid, run, read}
use Rattle.arc_form.specs.Meaning.{AtMost, Spelling, SpellsBy, Spells}
use Rattle.arc_form.specs.Places.{Place, Begun, OneTooMany, PassesBy, PassesWithin, Passes}
use Rattle.arc_form.proofs.Sets.{both, two_less, two_alike, apart, apart_nothing, sees_among, sees_alike, sees_none}
use Rattle.arc_form.proofs.Static.{Facts, nullable, begins, bars, Decided, Fits}
use Rattle.arc_form.proofs.Local.{rest_of, fault_of, put, loop_turn, allowed_then, nested_is}
use Rattle.arc_form.proofs.Binding.{bind_twice, bind_alike}
use Rattle.arc_form.proofs.FormLocal.{read_is, some_front, Property, PartsOf, under, reading, by_reading}
use Rattle.arc_form.proofs.FormBegins.{second_taken, form_idle, form_takes}
use Rattle.arc_form.proofs.FormStarts.{spells_body, form_free, form_alone, Has, join, not_barred, some_example, avoided_example, goes_on_so, with_head}
use Rattle.arc_form.proofs.FormFirm.{both_of, Firm, Ends, form_firm}

-- h gives this answer of all lists that are the same up to the token at which it stops
abbrev pub Same : {A : Type 0} → Reader A → List Tok → Read A → Type 0
Same h xs x = (more : List Tok) → first more ≡ first (rest_of x) → h (xs ++ more) ≡ put x more

-- what the tokens spell that were taken, or go on to
abbrev Good : {A : Type 0} → Spelling A → (List Tok → Type 0) → List Tok → Read A → Type 0
Good M B xs (Ok x) = M x.0 x.1 xs
Good M B xs (Err e) = B xs

pub record Reported {A : Type 0} (M : Spelling A) (B : List Tok → Type 0) (D : Place) (h : Reader A) (ts : List Tok) (x : Read A) : Type 0 where
  pub taken : List Tok
  pub cut : ts ≡ taken ++ rest_of x
  pub good : Good M B taken x
  pub same : fault_of x ≡ misfit → Same h taken x
  pub deep : fault_of x ≡ too_deep → D taken (rest_of x)

first_after : (b m r : List Tok) → first m ≡ first r → first (b ++ m) ≡ first (b ++ r)
first_after [] m r e = e
first_after (t ∷ b) m r e = refl

-- the same answer, of which more is said
reported_as : {A : Type 0} {M O : Spelling A} {B E : List Tok → Type 0} {D F : Place} {h : Reader A} {ts : List Tok} {x : Read A} → ((a : A) (r xs : List Tok) → x ≡ Ok (a, r) → ts ≡ xs ++ r → M a r xs → O a r xs)
    → ((xs r : List Tok) → ts ≡ xs ++ r → B xs → E xs) → ((xs r : List Tok) → ts ≡ xs ++ r → D xs r → F xs r) → Reported M B D h ts x → Reported O E F h ts x
reported_as {M = M} {O = O} {B = B} {E = E} {ts = ts} {x = x} of_value of_begun of_deep t = record {
  taken = t.taken;
  cut = t.cut;
  good = (elim x as (λ y. x ≡ y → ts ≡ t.taken ++ rest_of y → Good M B t.taken y → Good O E t.taken y)
      [ Ok y ↦ λ q c m. of_value y.0 y.1 t.taken q c m | Err y ↦ λ q c b. of_begun t.taken y.1 c b ]) refl t.cut t.good;
  same = t.same;
  deep = λ q. of_deep t.taken (rest_of x) t.cut (t.deep q);
}

-- a test says the same of these tokens and of those that are the same up to where h stops
abbrev Keeps : {A : Type 0} → (List Tok → Bool) → Reader A → List Tok → Type 0
Keeps test h ts = (xs r more : List Tok) → ts ≡ xs ++ r → rest_of (h ts) ≡ r → first more ≡ first r → test (xs ++ more) ≡ test ts

reported_with : {A : Type 0} {M : Spelling A} {B : List Tok → Type 0} {D : Place} {h h' : Reader A} {ts : List Tok} {x : Read A}
    → ((xs r more : List Tok) → ts ≡ xs ++ r → rest_of (h ts) ≡ r → first more ≡ first r → h' (xs ++ more) ≡ h (xs ++ more)) → Reported M B D h ts x → Reported M B D h' ts x
reported_with {A} {h = h} {ts = ts} {x = x} alike t =
    let rest : rest_of (put x (rest_of x)) ≡ rest_of x = elim x as (λ y. rest_of (put y (rest_of y)) ≡ rest_of y) [ Ok y ↦ refl | Err y ↦ refl ] in
    let left : fault_of x ≡ misfit → rest_of (h ts) ≡ rest_of x = λ q. ap (λ us. rest_of (h us)) t.cut ∙ ap (λ (z : Read A). rest_of z) (t.same q (rest_of x) refl) ∙ rest in
    record { taken = t.taken; cut = t.cut; good = t.good; same = λ q more f. alike t.taken (rest_of x) more t.cut (left q) f ∙ t.same q more f; deep = t.deep }

reported_if : {A : Type 0} {M : Spelling A} {B : List Tok → Type 0} {D : Place} {f g : Reader A} {ts : List Tok} {x y : Read A} (test : List Tok → Bool) → Keeps test f ts → Keeps test g ts
    → (test ts ≡ true → Reported M B D f ts x) → (test ts ≡ false → Reported M B D g ts y) → Reported M B D (λ us. cond (test us) (f us) (g us)) ts (cond (test ts) x y)
reported_if {M = M} {B = B} {D = D} {f = f} {g = g} {ts = ts} {x = x} {y = y} test of_f of_g t u =
    (elim (test ts) as (λ b. test ts ≡ b → Reported M B D (λ us. cond (test us) (f us) (g us)) ts (cond b x y)) [
      | true ↦ λ q. reported_with (λ xs r more c k e. ap (λ b. cond b (f (xs ++ more)) (g (xs ++ more))) (of_f xs r more c k e ∙ q)) (t q)
      | false ↦ λ q. reported_with (λ xs r more c k e. ap (λ b. cond b (f (xs ++ more)) (g (xs ++ more))) (of_g xs r more c k e ∙ q)) (u q)
    ]) refl

reported_first : {A : Type 0} {M : Spelling A} {B : List Tok → Type 0} {D : Place} {f g : Reader A} {ts : List Tok} {x y : Read A} (T : Kinds)
    → (sees T ts ≡ true → Reported M B D f ts x) → (sees T ts ≡ false → Reported M B D g ts y) → Reported M B D (if_sees T f g) ts (cond (sees T ts) x y)
reported_first {A} {f = f} {g = g} {ts = ts} T = reported_if (sees T) (keeps f) (keeps g)
  where
    keeps : (h : Reader A) → Keeps (sees T) h ts
    keeps h xs r more c k e = sees_alike T (xs ++ more) ts (first_after xs more r e ∙ ap first (sym c))

-- of the first two, where each reader takes the first
reported_two : {A : Type 0} {M : Spelling A} {B : List Tok → Type 0} {D : Place} {f g : Reader A} {ts : List Tok} {x y : Read A} (T U : Kinds)
    → (sees T ts ≡ true → length (rest_of (f ts)) < length ts) → (sees T ts ≡ true → length (rest_of (g ts)) < length ts)
    → (sees_two T U ts ≡ true → Reported M B D f ts x) → (sees_two T U ts ≡ false → Reported M B D g ts y) → Reported M B D (if_sees_two T U f g) ts (cond (sees_two T U ts) x y)
reported_two {A} {f = f} {g = g} {ts = ts} T U p q = reported_if (sees_two T U) (keeps f p) (keeps g q)
  where
    keeps : (h : Reader A) → (sees T ts ≡ true → length (rest_of (h ts)) < length ts) → Keeps (sees_two T U) h ts
    keeps h takes xs r more c k e =
        two_alike T U xs more r e (λ q. let few = takes (ap (sees T) c ∙ q) in omega (arith, few, ap length k, ap length c, length-append xs r)) ∙ ap (sees_two T U) (sym c)

reported_then : {A B C : Type 0} {M : Spelling A} {O : Spelling B} {Q : Spelling C} {K L E : List Tok → Type 0} {D F G : Place} {h : Reader A} {h' g : Reader B} {ts : List Tok} {x : Read A} (make : A → B → C)
    → ((a : A) (b : B) (r xs ys : List Tok) → M a (ys ++ r) xs → O b r ys → Q (make a b) r (xs ++ ys)) → ((xs : List Tok) → K xs → E xs) → ((a : A) (r xs ys : List Tok) → M a (ys ++ r) xs → L ys → E (xs ++ ys))
    → ((xs r : List Tok) → D xs r → G xs r) → ((a : A) (r xs ys : List Tok) → M a (ys ++ r) xs → F ys r → G (xs ++ ys) r)
    → Reported M K D h ts x → ((a : A) (s : List Tok) → x ≡ Ok (a, s) → Reported O L F h' s (g s)) → Reported Q E G (λ us. both_of make (h us) h') ts (both_of make x g)
reported_then {A} {B} {C} {M = M} {O = O} {Q = Q} {K = K} {L = L} {E = E} {D = D} {F = F} {G = G} {h = h} {h' = h'} {g = g} {ts = ts} {x = x} make joins begun begun_later deep deep_later t u = go x refl t
  where
    later : (a : A) (s : List Tok) → Reported M K D h ts (Ok (a, s)) → (y : Read B) → Reported O L F h' s y → Reported Q E G (λ us. both_of make (h us) h') ts (bind y (λ b. ret (make a b)))
    later a s t y u = go y u.taken u.cut u.good u.same u.deep
      where
        line : (ys r : List Tok) → s ≡ ys ++ r → ts ≡ (t.taken ++ ys) ++ r
        line ys r e = t.cut ∙ ap (λ v. t.taken ++ v) e ∙ sym (append_assoc t.taken ys r)

        value : (ys r : List Tok) → s ≡ ys ++ r → M a (ys ++ r) t.taken
        value ys r e = subst (λ v. M a v t.taken) e t.good

        same : (y : Read B) (ys : List Tok) → s ≡ ys ++ rest_of y → Same h' ys y → (more : List Tok) → first more ≡ first (rest_of y) → both_of make (h ((t.taken ++ ys) ++ more)) h' ≡ bind (put y more) (λ b. ret (make a b))
        same y ys e n more f = rw (append_assoc t.taken ys more, t.same refl (ys ++ more) (first_after ys more (rest_of y) f ∙ ap first (sym e)), n more f) refl

        go : (y : Read B) (ys : List Tok) → s ≡ ys ++ rest_of y → Good O L ys y → (fault_of y ≡ misfit → Same h' ys y) → (fault_of y ≡ too_deep → F ys (rest_of y)) → Reported Q E G (λ us. both_of make (h us) h') ts (bind y (λ b. ret (make a b)))
        go (Ok y) ys e o n d = record { taken = t.taken ++ ys; cut = line ys y.1 e; good = joins a y.0 y.1 t.taken ys (value ys y.1 e) o; same = λ q. same (Ok y) ys e (n q); deep = λ q. cc }
        go (Err y) ys e b n d = record { taken = t.taken ++ ys; cut = line ys y.1 e; good = begun_later a y.1 t.taken ys (value ys y.1 e) b; same = λ q. same (Err y) ys e (n q); deep = λ q. deep_later a y.1 t.taken ys (value ys y.1 e) (d q) }

    go : (y : Read A) → x ≡ y → Reported M K D h ts y → Reported Q E G (λ us. both_of make (h us) h') ts (both_of make y g)
    go (Ok y) q t = later y.0 y.1 t (g y.1) (u y.0 y.1 q)
    go (Err y) q t = record { taken = t.taken; cut = t.cut; good = begun t.taken t.good; same = λ q more f. ap (λ z. both_of make z h') (t.same q more f); deep = λ q. deep t.taken y.1 (t.deep q) }

-- where nothing is taken and nothing is too deep
reported_none : {A : Type 0} {M : Spelling A} {B : List Tok → Type 0} {D : Place} {h : Reader A} {ts : List Tok} (x : Read A) → rest_of x ≡ ts → fault_of x ≡ misfit → Good M B [] x → Same h [] x → Reported M B D h ts x
reported_none x r q good same = record { taken = []; cut = sym r; good = good; same = λ q. same; deep = λ p. let no : misfit ≡ too_deep = sym q ∙ p in cc }

-- what goes over a limit takes as many tokens at least, and there are more
pub over_takes : {A : Type 0} (n : ℕ) (ts : List Tok) (x : Read A) → goes_over n ts x ≡ true → (n < length ts) × (length (rest_of x) + n ≤ length ts)
over_takes n ts (Ok x) o = let p = ltb-true (length x.1 + n) (length ts) o in (omega (arith, p), omega (arith, p))
over_takes n ts (Err e) o =
    let q = both (nat_lt n (length ts)) (nat_lt (length e.1 + n) (suc (length ts))) o in
    let p = ltb-true n (length ts) q.0 in
    let m = ltb-true (length e.1 + n) (suc (length ts)) q.1 in
    (p, omega (arith, m))

at_most : (most : Option ℕ) (d : ℕ) → is_above most d ≡ false → AtMost most d
at_most None d e = tt
at_most (Some n) d e = ltb-false n d e

none_taken : {A : Type 0} (T : Kinds) (g : Tok → A) (ts : List Tok) → sees T ts ≡ false → take_one T g ts ≡ Err (misfit, ts)
none_taken T g [] e = refl
none_taken T g (t ∷ ts) e = ap (λ b. taken b g t ts) e

module _ {N : Type 0} {Node : N → Type 0} (facts : N → Facts) (body : Bodies N Node) (sure : (n : N) → Fits facts body n) where
  abbrev plain : {A : Type 0} → Form N Node A → Reader A
  plain f = run (read body) unlimited f

  -- where a form passes limits, if there are some
  abbrev pub Deep : Option Limits → {A : Type 0} → Form N Node A → Place
  Deep None f xs r = ⊥
  Deep (Some limits) f xs r = Passes body limits f xs r

  deep_as : (o : Option Limits) {A B : Type 0} (f : Form N Node A) (g : Form N Node B) (xs ys r s : List Tok) → ((of : Limits → N → Place) → PassesBy body of (under o) f xs r → PassesBy body of (under o) g ys s) → Deep o f xs r → Deep o g ys s
  deep_as None f g xs ys r s k p = p
  deep_as (Some limits) f g xs ys r s k p = (p.0, k (PassesWithin body p.0) p.1)

  deep_body : (o : Option Limits) (n : N) (xs r : List Tok) → Deep o (body n) xs r → Deep o (call n) xs r
  unfolding PassesWithin
  deep_body None n xs r p = p
  deep_body (Some limits) n xs r p = (suc p.0, p.1)

  begun_none : {A : Type 0} (f : Form N Node A) → Decided facts f → Begun body f []
  begun_none f d = let e = some_example facts body sure _ f d in (e.0, e.1, e.3)

  begun_as : {A : Type 0} (f : Form N Node A) (xs ys zs : List Tok) → xs ≡ ys ++ zs → Begun body f xs → Begun body f ys
  begun_as f xs ys zs e (a, others, x) = (a, zs ++ others, subst (SpellsBy (Spells body) unlimited f a []) (ap (λ v. v ++ others) e ∙ append_assoc ys zs others) x)

  pub reported_begun : (o : Option Limits) {A : Type 0} (f : Form N Node A) → Decided facts f → (x : Read A) (xs : List Tok) → Good (SpellsBy (Spells body) (under o) f) (Begun body f) xs x → Begun body f xs
  reported_begun o f d (Ok (a, r)) xs m = (a, [], subst (SpellsBy (Spells body) unlimited f a []) (sym (append-nil xs)) (form_alone facts body sure unlimited f d a r xs (form_free body (under o) f a r xs m)))
  reported_begun o f d (Err x) xs b = b

  abbrev pub ReportedAs : Option Limits → {A : Type 0} → Form N Node A → List Tok → Read A → Type 0
  ReportedAs o f ts x = Reported (SpellsBy (Spells body) (under o) f) (Begun body f) (Deep o f) (plain f) ts x

  abbrev pub ReportedAt : Property N Node
  ReportedAt o A f ts = ReportedAs o f ts (reading body o f ts)

  -- two parts, of which the second is refused: what the first spells goes on with what goes on from there
  begun_second : (o : Option Limits) {A B : Type 0} (f : Form N Node A) (g : Form N Node B) → Decided facts f → Decided facts g → (nullable facts g || apart (bars facts f) (begins facts g)) ≡ true → (a : A) (r xs ys : List Tok)
      → SpellsBy (Spells body) (under o) f a (ys ++ r) xs → Begun body g ys → Begun body (f ⨾ g) (xs ++ ys)
  begun_second o f g d d' p a r xs [] x y = let e = some_example facts body sure _ g d' in (
    (a, e.0),
    e.1,
    subst (SpellsBy (Spells body) unlimited (f ⨾ g) (a, e.0) []) (ap (λ v. v ++ e.1) (sym (append-nil xs)))
        (join facts body sure f g d a e.0 r xs e.1 (form_free body (under o) f a r xs x) (not_barred facts body sure f g d' p r e) e.3),
  )
  begun_second o f g d d' p a r xs (t ∷ ys) x (b, others, y) = (
    (a, b),
    others,
    subst (SpellsBy (Spells body) unlimited (f ⨾ g) (a, b) []) (sym (append_assoc xs (t ∷ ys) others))
        (join facts body sure f g d a b (t ∷ (ys ++ r)) xs (t ∷ (ys ++ others)) (form_free body (under o) f a (t ∷ (ys ++ r)) xs x) (inr refl) y),
  )

  begun_first : {A B : Type 0} (f : Form N Node A) (g : Form N Node B) → Decided facts f → Decided facts g → (nullable facts g || apart (bars facts f) (begins facts g)) ≡ true → (xs : List Tok) → Begun body f xs → Begun body (f ⨾ g) xs
  begun_first f g d d' p xs (a, others, x) =
      let e = some_example facts body sure _ g d' in
      ((a, e.0), others ++ e.1, subst (SpellsBy (Spells body) unlimited (f ⨾ g) (a, e.0) []) (append_assoc xs others e.1) (join facts body sure f g d a e.0 [] (xs ++ others) e.1 x (not_barred facts body sure f g d' p [] e) e.3))

  reported_pair : {A B C : Type 0} (make : A → B → C) (Q : Spelling C) (o : Option Limits) (f : Form N Node A) (g : Form N Node B) → Decided facts f → Decided facts g → (nullable facts g || apart (bars facts f) (begins facts g)) ≡ true → (ts : List Tok)
      → ((a : A) (b : B) (r xs : List Tok) → SpellsBy (Spells body) (under o) (f ⨾ g) (a, b) r xs → Q (make a b) r xs)
      → ReportedAt o A f ts → ((a : A) (s : List Tok) → reading body o f ts ≡ Ok (a, s) → ReportedAt o B g s) → Reported Q (Begun body (f ⨾ g)) (Deep o (f ⨾ g)) (λ us. both_of make (plain f us) (plain g)) ts (both_of make (reading body o f ts) (reading body o g))
  reported_pair make Q o f g d d' p ts made t u =
      reported_then make (λ a b r xs ys x y. made a b r (xs ++ ys) (xs, ys, refl, x, y)) (begun_first f g d d' p) (begun_second o f g d d' p) (λ xs r q. deep_as o f (f ⨾ g) xs xs r r (λ of x. inl x) q)
      (λ a r xs ys x q. deep_as o g (f ⨾ g) ys (xs ++ ys) r r (λ of y. inr (a, xs, ys, refl, x, y)) q) t u

  -- a turn of a loop passes limits where the loop does
  turn_passes : (of : Limits → N → Place) (limits : Limits) (T : Kinds) {A : Type 0} (f : Form N Node A) (before r : List Tok) → PassesBy body of limits (f ⨾ many T f) before r → PassesBy body of limits (many T f) before r
  turn_passes of limits T f before r (inl p) = ([], [], before, refl, refl, p)
  turn_passes of limits T f before r (inr (a, xs, us, e, m, (all, ys, zs, c, n, p))) =
      (a ∷ all, xs ++ ys, zs, e ∙ ap (λ v. xs ++ v) c ∙ sym (append_assoc xs ys zs), (xs, ys, refl, subst (λ v. SpellsBy (Spells body) limits f a v xs) (ap (λ v. v ++ r) c ∙ append_assoc ys zs r) m, n), p)

  reported_many : (o : Option Limits) (T : Kinds) {A : Type 0} (f : Form N Node A) → Decided facts (many T f) → (ts : List Tok) → ReportedAt o A f ts → ((a : A) (s : List Tok) → reading body o f ts ≡ Ok (a, s) → ReportedAt o (List A) (many T f) s) → ReportedAt o (List A) (many T f) ts
  reported_many o T {A} f (d, (h, p)) ts t u =
      rw (loop_turn T (some_front facts body sure (under o) f d h.0) ts)
      (reported_with (λ xs r more c k e. loop_turn T (some_front facts body sure unlimited f d h.0) (xs ++ more))
      (reported_first T
      (λ q. reported_as (λ a r xs q c m. m) (λ xs r c b. (b.0.0 ∷ b.0.1, b.1, b.2)) (λ xs r c q. deep_as o (f ⨾ many T f) (many T f) xs xs r r (λ of x. turn_passes of (under o) T f xs r x) q)
      (reported_pair (λ a others. a ∷ others) (SpellsBy (Spells body) (under o) (many T f)) o f (many T f) d (d, (h, p)) refl ts (λ a others r xs x. x) t u))
      (λ q. reported_none (ret [] ts) refl refl refl (λ more f. refl))))

  -- ---- the first tokens of more

  -- a token that is one too many, or that comes after what is no whole
  one_more : {A : Type 0} (f : Form N Node A) (n : ℕ) (before m r : List Tok) → length before ≡ n → n < length (before ++ (m ++ r)) → Begun body f (before ++ m) → (m ≡ [] → (a : A) → Has facts body sure f a [] before → ⊥)
      → Begun body f before × OneTooMany body (Some n) f before (m ++ r)
  one_more f n before [] [] l p b whole = absurd (omega (arith, length-append before []))
  one_more f n before [] (t ∷ r) l p b whole = let front = begun_as f (before ++ []) before [] refl b in (front, (l, front, λ a x. absurd (whole refl a x)))
  one_more f n before (u ∷ m) r l p b whole = let front = begun_as f (before ++ u ∷ m) before (u ∷ m) refl b in (front, (l, front, λ a x. begun_as f (before ++ u ∷ m) (before ++ u ∷ []) m (sym (append_assoc before (u ∷ []) m)) b))

  -- where so many tokens are taken, or one more is refused, the next one is too many
  too_many : (n : ℕ) (A : Type 0) (f : Form N Node A) → Decided facts f → (ts : List Tok) → ReportedAt None A f ts → goes_over n ts (plain f ts) ≡ true → Begun body f (take n ts) × OneTooMany body (Some n) f (take n ts) (drop n ts)
  too_many n A f d ts t o =
      let xs = t.taken in
      let r = rest_of (plain f ts) in
      let p = over_takes n ts (plain f ts) o in
      let l : n ≤ length xs = omega (arith, p.1, ap length t.cut, length-append xs r) in
      let front : take n ts ≡ take n xs = ap (take n) t.cut ∙ take-append-le n xs r l in
      let back : drop n ts ≡ drop n xs ++ r = ap (drop n) t.cut ∙ drop-append-le n xs r l in
      let all : take n xs ++ drop n xs ≡ xs = take-append-drop n xs in
      let line : ts ≡ take n xs ++ (drop n xs ++ r) = t.cut ∙ ap (λ v. v ++ r) (sym all) ∙ append_assoc (take n xs) (drop n xs) r in
      rw (front, back) (one_more f n (take n xs) (drop n xs) r (length-take-le n xs l) (omega (arith, p.0, ap length line)) (subst (Begun body f) (sym all) (reported_begun None f d (plain f ts) xs t.good))
      (λ z a x. stopped (plain f ts) refl a (take n xs) (length-take-le n xs l) (line ∙ ap (λ v. take n xs ++ (v ++ r)) z) (form_firm facts body sure None A f d a [] (take n xs) r x)))
    where
      stopped : (x : Read A) → plain f ts ≡ x → (a : A) (ys : List Tok) → length ys ≡ n → ts ≡ ys ++ rest_of x → Firm None (plain f (ys ++ rest_of x)) a (Ends facts body sure f [] (rest_of x)) (rest_of x) → ⊥
      stopped (Ok x) e a ys l c k = let over = ltb-true (length x.1 + n) (length ts) (ap (goes_over n ts) (sym e) ∙ o) in omega (arith, over, l, ap length c, length-append ys x.1)
      stopped (Err x) e a ys l c (inl k) = let no : ◌≡◌ {A = Read A} (Err x) (Ok (a, x.1)) = sym e ∙ ap (plain f) c ∙ k in cc
      stopped (Err x) e a ys l c (inr (_, k)) = omega (arith, k, ap (λ us. length (rest_of (plain f us))) (sym c), ap (λ z. length (rest_of z)) e)

  tokens_over : (o : Option Limits) (A : Type 0) (f : Form N Node A) → Decided facts f → (ts : List Tok) → ReportedAt None A f ts → ReportedAt o A (bounded f) ts
  unfolding up_to
  tokens_over None A f d ts t = reported_as (λ a r xs q c m. (tt, m)) (λ xs r c b. (b.0, b.1, (tt, b.2))) (λ xs r c p. p) t
  tokens_over (Some limits) A f d ts t = go limits.tokens (λ xs r p. (0, p))
    where
      go : (most : Option ℕ) → ((xs r : List Tok) → OneTooMany body most f xs r → Deep (Some limits) (bounded f) xs r)
          → Reported (λ a r xs. AtMost most (length xs) × Has facts body sure f a r xs) (Begun body (bounded f)) (Deep (Some limits) (bounded f)) (plain f) ts (cut most ts (plain f ts))
      go None k = reported_as (λ a r xs q c m. (tt, m)) (λ xs r c b. (b.0, b.1, (tt, b.2))) (λ xs r c p. absurd p) t
      go (Some n) k =
          let few : (a : A) (r xs : List Tok) → goes_over n ts (plain f ts) ≡ false → plain f ts ≡ Ok (a, r) → ts ≡ xs ++ r → length xs ≤ n =
          λ a r xs e q c. let p = ltb-false (length r + n) (length ts) (ap (goes_over n ts) (sym q) ∙ e) in omega (arith, length-append xs r, ap length c, p)
          in
          (elim (goes_over n ts (plain f ts)) as (λ b. goes_over n ts (plain f ts) ≡ b
          → Reported (λ a r xs. (length xs ≤ n) × Has facts body sure f a r xs) (Begun body (bounded f)) (Deep (Some limits) (bounded f)) (plain f) ts (cond b (Err (too_deep, drop n ts)) (plain f ts))) [
            | true ↦ λ e. let p = too_many n A f d ts t e in record { taken = take n ts; cut = sym (take-append-drop n ts); good = (p.0.0, p.0.1, (tt, p.0.2)); same = λ q. cc; deep = λ q. k (take n ts) (drop n ts) p.1 }
            | false ↦ λ e. reported_as (λ a r xs q c m. (few a r xs e q c, m)) (λ xs r c b. (b.0, b.1, (tt, b.2))) (λ xs r c p. absurd p) t
          ]) refl

  reported_nest : (o : Option Limits) (m : ℕ) (T : Kinds) (A : Type 0) (f : Form N Node A) → Decided facts (nest m T f) → (ts : List Tok) → ReportedAt o A f ts → ReportedAt o A (nest m T f) ts
  reported_nest o m T A f (d, h) ts x =
      rw (nested_is (under o).depth m T (reading body o f) ts) (reported_with (λ xs r more c k e. nested_is None m T (plain f) (xs ++ more)) (go (is_above (under o).depth m) refl (sees T ts) refl))
    where
      deep : (o : Option Limits) → is_above (under o).depth m ≡ true → sees T ts ≡ true → Deep o (nest m T f) [] ts
      deep None q s = cc
      deep (Some limits) q s = (0, inr (q, refl, s))

      begun : Begun body (nest m T f) []
      begun = let b = begun_none f d in (b.0, b.1, (tt, b.2))

      go : (b : Bool) → is_above (under o).depth m ≡ b → (c : Bool) → sees T ts ≡ c
          → Reported (SpellsBy (Spells body) (under o) (nest m T f)) (Begun body (nest m T f)) (Deep o (nest m T f)) (plain f) ts (cond b (cond c (Err (too_deep, ts)) (Err (misfit, ts))) (reading body o f ts))
      go true q true s = record { taken = []; cut = refl; good = begun; same = λ q. cc; deep = λ z. deep o q s }
      go true q false s = reported_none (Err (misfit, ts)) refl refl begun (λ more e. form_idle facts body sure f d h.0 more (sees_none (begins facts f) T more h.1.0 (sees_alike T more ts e ∙ s)))
      go false q c s = reported_as (λ a r xs z c x. (at_most (under o).depth m q, x)) (λ xs r c b. (b.0, b.1, (tt, b.2))) (λ xs r c p. deep_as o f (nest m T f) xs xs r r (λ of y. inl (at_most (under o).depth m q, y)) p) x

  none_after : (o : Option Limits) {A : Type 0} (f : Form N Node A) (a : A) (r xs ys : List Tok) → ys ≡ [] → SpellsBy (Spells body) (under o) f a (ys ++ r) xs → SpellsBy (Spells body) (under o) f a r (xs ++ ys)
  none_after o f a r xs [] z m = subst (SpellsBy (Spells body) (under o) f a r) (sym (append-nil xs)) m
  none_after o f a r xs (t ∷ ys) z m = cc

  -- what a second part spells, where its depth is allowed
  abbrev Second : Option Limits → ℕ → {A : Type 0} → Form N Node A → Spelling A
  Second o m g a r xs = AtMost (under o).depth m × SpellsBy (Spells body) (under o) g a r xs

  -- and where it passes limits
  abbrev Entered : Option Limits → ℕ → {A : Type 0} → Form N Node A → Place
  Entered o m g ys r = ((is_above (under o).depth m ≡ true) × (1 ≤ length r) × (ys ≡ [])) ⊎ (AtMost (under o).depth m × Deep o g ys r)

  entered : (o : Option Limits) (m : ℕ) {A B : Type 0} (f : Form N Node A) (g : Form N Node B) (a : A) (r xs ys : List Tok) → SpellsBy (Spells body) (under o) f a (ys ++ r) xs → Entered o m g ys r → Deep o (into m f g) (xs ++ ys) r
  entered None m f g a r xs ys x (inl p) = cc
  entered None m f g a r xs ys x (inr p) = p.1
  entered (Some limits) m f g a r xs ys x (inl (q, l, e)) = (0, inr (inl (q, l, a, none_after (Some limits) f a r xs ys e x)))
  entered (Some limits) m f g a r xs ys x (inr (p, (h, y))) = (h, inr (inr (p, a, xs, ys, refl, x, y)))

  reported_allowed : (o : Option Limits) (m : ℕ) {A : Type 0} (g : Form N Node A) → Decided facts g → nullable facts g ≡ false → (ts : List Tok) → ReportedAt o A g ts
      → Reported (Second o m g) (Begun body g) (Entered o m g) (plain g) ts (cond (is_above (under o).depth m) (past ts) (reading body o g ts))
  reported_allowed o m {A} g d n ts x = go (is_above (under o).depth m) refl ts x
    where
      go : (b : Bool) → is_above (under o).depth m ≡ b → (ts : List Tok) → ReportedAt o A g ts
          → Reported (Second o m g) (Begun body g) (Entered o m g) (plain g) ts (cond b (past ts) (reading body o g ts))
      go true q [] x = reported_none (Err (misfit, [])) refl refl (begun_none g d) (λ more e. form_idle facts body sure g d n more (sees_alike (begins facts g) more [] e))
      go true q (t ∷ ts) x = record { taken = []; cut = refl; good = begun_none g d; same = λ q. cc; deep = λ z. inl (q, omega arith, refl) }
      go false q ts x = reported_as (λ a r xs z c y. (at_most (under o).depth m q, y)) (λ xs r c b. b) (λ xs r c p. inr (at_most (under o).depth m q, p)) x

  reported_into : (o : Option Limits) (m : ℕ) (A B : Type 0) (f : Form N Node A) (g : Form N Node B) → Decided facts (into m f g) → (ts : List Tok) → PartsOf body ReportedAt o (A × B) (into m f g) ts → ReportedAt o (A × B) (into m f g) ts
  unfolding allowed
  reported_into o m A B f g (d, (d', (n, (n', (w, b))))) ts (x, y) =
      let of_second : Reader B = λ s. bind (allowed (under o).depth m s) (λ u. reading body o g) in
      let bars_none : (nullable facts g || apart (bars facts f) (begins facts g)) ≡ true = grind (arith, apart_nothing (bars facts f) (begins facts g) b) in
      let begun : (xs : List Tok) → Begun body (f ⨾ g) xs → Begun body (into m f g) xs = λ xs z. (z.0, z.1, (tt, z.2)) in
      rw (bind_alike {A = A} {B = A × B} (reading body o f ts) (λ a. allowed (under o).depth m >>= (λ u. reading body o g >>= (λ c. ret (a, c)))) (λ a. of_second >>= (λ c. ret (a, c))) (λ a us. sym (bind_twice (allowed (under o).depth m us) (λ u. reading body o g) (λ c. ret (a, c)))))
      (reported_then {O = Second o m g} {L = Begun body g} {F = Entered o m g} {h' = plain g} {g = of_second} (λ a c. (a, c)) (λ a c r xs ys p q. (q.0, (xs, ys, refl, p, q.1))) (λ xs z. begun xs (begun_first f g d d' bars_none xs z)) (λ a r xs ys p z. begun (xs ++ ys) (begun_second o f g d d' bars_none a r xs ys p z))
      (λ xs r p. deep_as o f (into m f g) xs xs r r (λ of z. inl z) p) (λ a r xs ys p z. entered o m f g a r xs ys p z) x
      (λ a s e. rw (allowed_then (under o).depth m (reading body o g) s) (reported_allowed o m g d' n' s (y a s e))))

  -- the first two tokens are not those that may not come
  begun_two : {A : Type 0} (T U : Kinds) (g K : Form N Node A) (ts : List Tok) → sees_two T U ts ≡ false → Begun body K [] → ((t : Tok) → is T t ≡ true → (a : A) × (others : List Tok) × Has facts body sure K a [] (t ∷ others))
      → ((a : A) (xs : List Tok) → Has facts body sure g a [] xs → sees_two T U (xs ++ []) ≡ false → Has facts body sure K a [] xs) → (xs r : List Tok) → ts ≡ xs ++ r → Begun body g xs → Begun body K xs
  begun_two T U g K ts n empty head joins [] r c b = empty
  begun_two T U g K ts n empty head joins (t ∷ []) r c (a, others, x) =
      (elim (is T t) as (λ b. is T t ≡ b → Begun body K (t ∷ [])) [ true ↦ head t | false ↦ λ q. (a, others, joins a (t ∷ others) x (ap (λ b. b && sees U (others ++ [])) q)) ]) refl
  begun_two T U g K ts n empty head joins (t ∷ u ∷ xs) r c (a, others, x) = (a, others, joins a (t ∷ u ∷ (xs ++ others)) x (ap (sees_two T U) (sym c) ∙ n))

  second_refused : (T U : Kinds) (A : Type 0) (f : Form N Node A) (M : Spelling A) (D : Place) → Decided facts (avoid T U f) → (ts : List Tok) → sees_two T U ts ≡ true → Reported M (Begun body (avoid T U f)) D second_unexpected ts (second_unexpected ts)
  second_refused T U A f M D d [] seen = cc
  second_refused T U A f M D d (t ∷ ts) seen = record { taken = t ∷ []; cut = refl; good = goes_on_so facts body sure T U A f d t (both (is T t) (sees U ts) seen).0; same = λ q more e. refl; deep = λ q. cc }

  reported : (o : Option Limits) (A : Type 0) (f : Form N Node A) → Decided facts f → (ts : List Tok) → PartsOf body ReportedAt o A f ts → ReportedAt o A f ts
  reported o A (token T g) d ts x = go ts (sees T ts) refl
    where
      go : (ts : List Tok) (b : Bool) → sees T ts ≡ b → ReportedAt o A (token T g) ts
      go ts false q = rw (none_taken T g ts q) (reported_none (Err (misfit, ts)) refl refl (begun_none (token T g) d) (λ more f. none_taken T g more (sees_alike T more ts f ∙ q)))
      go [] true q = cc
      go (t ∷ ts) true q = subst (λ b. ReportedAs o (token T g) (t ∷ ts) (taken b g t ts)) (sym q) (record { taken = t ∷ []; cut = refl; good = (t, refl, q, refl); same = λ z more f. ap (λ b. taken b g t more) q; deep = λ z. cc })
  reported o A (give a) d ts x = reported_none (ret a ts) refl refl (refl, refl) (λ more f. refl)
  reported o A (call n) d ts x =
      rw (read_is facts body sure (under o) n ts) (reported_with (λ xs r more c k e. read_is facts body sure unlimited n (xs ++ more))
      (reported_as (λ a r xs q c m. spells_body body (under o) n a r xs m) (λ xs r c b. (b.0, b.1, spells_body body unlimited n b.0 [] (xs ++ b.1) b.2)) (λ xs r c p. deep_body o n xs r p) x))
  reported o A (map {A = B} h f) d ts x =
      reported_then {O = λ (u : Unit {0}) r ys. ys ≡ []} {L = λ ys. ⊥} {F = λ ys r. ⊥} {h' = ret tt} {g = ret tt} (λ a u. h a) (λ a u r xs ys m z. (a, refl, none_after o f a r xs ys z m)) (λ xs b. (h b.0, b.1, (b.0, refl, b.2))) (λ a r xs ys m no. absurd no)
      (λ xs r p. deep_as o f (map h f) xs xs r r (λ of y. y) p) (λ a r xs ys m no. absurd no) x (λ a s e. reported_none (ret tt s) refl refl refl (λ more f. refl))
  reported o A (◌⨾◌ {A = B} {B = C} f g) (d, (d', (p, q))) ts (x, y) = reported_pair (λ b c. (b, c)) (SpellsBy (Spells body) (under o) (f ⨾ g)) o f g d d' q ts (λ a b r xs m. m) x y
  reported o A (into {A = B} {B = C} m f g) d ts x = reported_into o m B C f g d ts x
  reported o A (choose T f g) d ts (x, y) =
      reported_first T (λ q. reported_as (λ a r xs q c m. inl m) (λ xs r c b. (b.0, b.1, inl b.2)) (λ xs r c p. deep_as o f (choose T f g) xs xs r r (λ of x. inl x) p) x)
      (λ q. reported_as (λ a r xs q c m. inr m) (λ xs r c b. (b.0, b.1, inr b.2)) (λ xs r c p. deep_as o g (choose T f g) xs xs r r (λ of x. inr x) p) y)
  reported o A (many {A = B} T f) d ts (x, y) = reported_many o T f d ts (x ts (omega arith)) y
  reported o A (or_none T f a) d ts x =
      reported_first T (λ q. reported_as (λ a r xs q c m. inl m) (λ xs r c b. (b.0, b.1, inl b.2)) (λ xs r c p. deep_as o f (or_none T f a) xs xs r r (λ of x. x) p) x)
      (λ q. reported_none (ret a ts) refl refl (inr (refl, refl, q)) (λ more f. refl))
  reported o A (nest m T f) d ts x = reported_nest o m T A f d ts x
  reported o A (bounded f) (d, n) ts x = tokens_over o A f d ts x
  reported o A (two_ahead T U f g) (d, (d', (h, (p, (n, k))))) ts (x, y) =
      reported_two T U (λ s. form_takes facts body sure A f d ts (sees_among T (begins facts f) ts h.1.1 s)) (λ s. form_takes facts body sure A g d' ts (sees_among T (begins facts g) ts k s))
      (λ q. reported_as (λ a r xs z c m. inl m) (λ xs r c b. (b.0, b.1, inl b.2)) (λ xs r c p. deep_as o f (two_ahead T U f g) xs xs r r (λ of x. inl x) p) x)
      (λ q. reported_as (λ a r xs z c m. inr (m, ap (sees_two T U) (sym c) ∙ q))
      (begun_two T U g (two_ahead T U f g) ts q (let b = begun_none f d in (b.0, b.1, inl b.2)) (λ t i. let w = with_head facts body sure U A f d p t (sees_among T (begins facts f) (t ∷ []) h.1.1 i) in (w.0, w.1, inl w.2)) (λ a xs m z. inr (m, z)))
      (λ xs r c p. deep_as o g (two_ahead T U f g) xs xs r r (λ of y. inr (y, ap (sees_two T U) (sym c) ∙ q)) p) y)
  reported o A (avoid T U f) (d, (i, (n, (k, l)))) ts x =
      reported_two T U (λ s. second_taken T ts s) (λ s. form_takes facts body sure A f d ts (sees_among T (begins facts f) ts k s))
      (λ q. second_refused T U A f (SpellsBy (Spells body) (under o) (avoid T U f)) (Deep o (avoid T U f)) (d, (i, (n, (k, l)))) ts q)
      (λ q. reported_as (λ a r xs z c m. (m, two_less T U xs r (ap (sees_two T U) (sym c) ∙ q)))
      (begun_two T U f (avoid T U f) ts q (let e = avoided_example facts body sure T U A f (d, (i, (n, (k, l)))) in (e.0, e.1, e.3)) (goes_on_so facts body sure T U A f (d, (i, (n, (k, l))))) (λ a xs m z. (m, two_less T U xs [] z)))
      (λ xs r c p. deep_as o f (avoid T U f) xs xs r r (λ of y. (y, ap (sees_two T U) (sym c) ∙ q)) p) x)

  pub form_reported : (o : Option Limits) (A : Type 0) (f : Form N Node A) → Decided facts f → (ts : List Tok) → ReportedAt o A f ts
  form_reported o A f d ts = by_reading facts body sure ReportedAt reported o A f d ts

  -- without limits no token is too deep
  pub stays : (A : Type 0) (f : Form N Node A) → Decided facts f → (ts : List Tok) → fault_of (run (read body) unlimited f ts) ≡ misfit
  stays A f d ts = (elim (fault_of (plain f ts)) as (λ y. (y ≡ too_deep → ⊥) → y ≡ misfit) [ misfit ↦ λ k. refl | too_deep ↦ λ k. absurd (k refl) ]) (form_reported None A f d ts).deep
