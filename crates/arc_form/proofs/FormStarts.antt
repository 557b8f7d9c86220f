-- Derivations of any height: what the right side of a rule spells, the rule does; how the tokens begin that a form spells, before
-- which others they spell the same, and that each form spells something.
use Rattle.std.proofs.Common.{arith, ◌≤◌, length, length-append, ◌≡◌, ◌⊎◌, inl, inr, List, [], ◌∷◌, ◌++◌, Bool, true, false, not, ◌&&◌, refl, sym, ap, subst, ◌∙◌, ℕ, zero, suc, ◌+◌, append-nil, ◌||◌, drop}
use Rattle.arc_lex.specs.Tokens.{Tok}
use Rattle.arc_form.specs.Kinds.{Kinds, ◌∪◌, is}
use Rattle.arc_form.specs.Reader.{first, sees, sees_two}
use Rattle.arc_form.specs.Form.{Limits, unlimited, Form, Bodies, token, give, call, map, ◌⨾◌, into, choose, many, or_none, nest, bounded, two_ahead, avoid}
use Rattle.arc_form.specs.Meaning.{Spelling, SpellsAll, SpellsBy, Spells, AtMost, Within}
use Rattle.arc_form.proofs.Sets.{and_no, both, sees_among, sees_none, sees_nothing, sees_left, sees_right, sees_neither, sees_alike, sees_more, apart, sees_other}
use Rattle.arc_form.proofs.Static.{Facts, if_so, nullable, begins, bars, long, Decided, Heads, Holds, second, Fits, simple, alone, parts}
use Rattle.arc_form.proofs.Samples.{sample}

-- what each rule spells
abbrev pub OfRules : (N : Type 0) → (N → Type 0) → Type 1
OfRules N Node = Limits → (n : N) → Spelling (Node n)

-- from some number on
abbrev From : (ℕ → Type 0) → Type 0
From P = (h : ℕ) × ((m : ℕ) → h ≤ m → P m)

settle_all : {A : Type 0} (M : Spelling A) (O : ℕ → Spelling A) → ((a : A) (r xs : List Tok) → M a r xs → From (λ m. O m a r xs)) → (all : List A) (r xs : List Tok) → SpellsAll M all r xs → From (λ m. SpellsAll (O m) all r xs)
settle_all M O k [] r xs e = (0, λ m p. e)
settle_all M O k (a ∷ others) r xs (ys, zs, e, x, y) =
    let u = k a (zs ++ r) ys x in
    let v = settle_all M O k others r zs y in
    (u.0 + v.0, λ m p. (ys, zs, e, u.1 m (omega (arith, p)), v.1 m (omega (arith, p))))

-- what the first rules spell, the second do
infixr 11 ◌⇒◌
abbrev pub ◌⇒◌ : {N : Type 0} {Node : N → Type 0} → OfRules N Node → OfRules N Node → Type 0
◌⇒◌ {N = N} {Node = Node} L M = (limits : Limits) (n : N) (a : Node n) (r xs : List Tok) → L limits n a r xs → M limits n a r xs

module _ {N : Type 0} {Node : N → Type 0} (body : Bodies N Node) where
  -- to limits that allow as much
  module _ (to : Limits → Limits) (depth : (l : Limits) (n : ℕ) → AtMost l.depth n → AtMost (to l).depth n) (tokens : (l : Limits) (n : ℕ) → AtMost l.tokens n → AtMost (to l).tokens n) (free : to unlimited ≡ unlimited) (O : ℕ → OfRules N Node) where
    abbrev Height : {A : Type 0} → Limits → Form N Node A → A → List Tok → List Tok → ℕ → Type 0
    Height limits f a r xs m = SpellsBy (O m) (to limits) f a r xs

    -- where rules are spelled by derivations of each height from some number on, so is a form, and by as many limits or none
    settle : (L : OfRules N Node) → ((limits : Limits) (n : N) (a : Node n) (r xs : List Tok) → L limits n a r xs → From (Height limits (call n) a r xs))
        → (limits : Limits) {A : Type 0} (f : Form N Node A) (a : A) (r xs : List Tok) → SpellsBy L limits f a r xs → From (Height limits f a r xs)
    settle L k limits (token T g) a r xs x = (0, λ m p. x)
    settle L k limits (give c) a r xs x = (0, λ m p. x)
    settle L k limits (call n) a r xs x = k limits n a r xs x
    settle L k limits (map h f) c r xs (a, v, x) = let y = settle L k limits f a r xs x in (y.0, λ m p. (a, v, y.1 m p))
    settle L k limits (f ⨾ g) a r xs (ys, zs, e, x, y) =
        let u = settle L k limits f a.0 (zs ++ r) ys x in
        let v = settle L k limits g a.1 r zs y in
        (u.0 + v.0, λ m p. (ys, zs, e, u.1 m (omega (arith, p)), v.1 m (omega (arith, p))))
    settle L k limits (into d f g) a r xs (q, (ys, zs, e, x, y)) =
        let u = settle L k limits f a.0 (zs ++ r) ys x in
        let v = settle L k limits g a.1 r zs y in
        (u.0 + v.0, λ m p. (depth limits d q, (ys, zs, e, u.1 m (omega (arith, p)), v.1 m (omega (arith, p)))))
    settle L k limits (choose T f g) a r xs (inl x) = let y = settle L k limits f a r xs x in (y.0, λ m p. inl (y.1 m p))
    settle L k limits (choose T f g) a r xs (inr x) = let y = settle L k limits g a r xs x in (y.0, λ m p. inr (y.1 m p))
    settle L k limits (many T f) all r xs x = settle_all (SpellsBy L limits f) (λ m. SpellsBy (O m) (to limits) f) (settle L k limits f) all r xs x
    settle L k limits (or_none T f c) a r xs (inl x) = let y = settle L k limits f a r xs x in (y.0, λ m p. inl (y.1 m p))
    settle L k limits (or_none T f c) a r xs (inr x) = (0, λ m p. inr x)
    settle L k limits (nest d T f) a r xs (q, x) = let y = settle L k limits f a r xs x in (y.0, λ m p. (depth limits d q, y.1 m p))
    settle L k limits (bounded f) a r xs (q, x) =
        let y = settle L k unlimited f a r xs x in
        (y.0, λ m p. (tokens limits (length xs) q, subst (λ l. SpellsBy (O m) l f a r xs) free (y.1 m p)))
    settle L k limits (two_ahead T U f g) a r xs (inl x) = let y = settle L k limits f a r xs x in (y.0, λ m p. inl (y.1 m p))
    settle L k limits (two_ahead T U f g) a r xs (inr (x, e)) = let y = settle L k limits g a r xs x in (y.0, λ m p. inr (y.1 m p, e))
    settle L k limits (avoid T U f) a r xs (x, e) = let y = settle L k limits f a r xs x in (y.0, λ m p. (y.1 m p, e))

  within_from : (h : ℕ) (limits : Limits) (n : N) (a : Node n) (r xs : List Tok) → Within body h limits n a r xs → From (λ m. Within body m limits n a r xs)
  unfolding Within
  within_from zero limits n a r xs x = absurd x
  within_from (suc h) limits n a r xs x =
      let y = settle (λ l. l) (λ l n p. p) (λ l n p. p) refl (Within body) (Within body h) (within_from h) limits (body n) a r xs x in
      (suc y.0, λ m. elim m as (λ m. suc y.0 ≤ m → Within body m limits n a r xs) [ zero ↦ λ p. absurd (omega (arith, p)) | suc m ↦ λ p. y.1 m (omega (arith, p)) ])

  -- what the right side of a rule spells, the rule does
  pub spells_body : (limits : Limits) (n : N) (a : Node n) (r xs : List Tok) → SpellsBy (Spells body) limits (body n) a r xs → Spells body limits n a r xs
  unfolding Within
  spells_body limits n a r xs x = let y = settle (λ l. l) (λ l n p. p) (λ l n p. p) refl (Within body) (Spells body) (λ l m b s ys z. within_from z.0 l m b s ys z.1) limits (body n) a r xs x in (suc y.0, y.1 y.0 (omega arith))

  free_within : (h : ℕ) (limits : Limits) (n : N) (a : Node n) (r xs : List Tok) → Within body h limits n a r xs → Spells body unlimited n a r xs
  unfolding Within
  free_within zero limits n a r xs x = absurd x
  free_within (suc h) limits n a r xs x =
      let y = settle (λ l. unlimited) (λ l n p. tt) (λ l n p. tt) refl (λ m. Spells body) (Within body h) (λ l m b s ys z. (0, λ k p. free_within h l m b s ys z)) limits (body n) a r xs x in
      spells_body unlimited n a r xs (y.1 y.0 (omega arith))

  -- what is spelled under limits is spelled without
  pub form_free : (limits : Limits) {A : Type 0} (f : Form N Node A) (a : A) (r xs : List Tok) → SpellsBy (Spells body) limits f a r xs → SpellsBy (Spells body) unlimited f a r xs
  form_free limits f a r xs x =
      let y = settle (λ l. unlimited) (λ l n p. tt) (λ l n p. tt) refl (λ m. Spells body) (Spells body) (λ l m b s ys z. (0, λ k p. free_within z.0 l m b s ys z.1)) limits f a r xs x in
      y.1 y.0 (omega arith)

  module _ (Q : OfRules N Node) (step : (L : OfRules N Node) → L ⇒ Spells body → L ⇒ Q → (λ limits n. SpellsBy L limits (body n)) ⇒ Q) where
    within : (h : ℕ) → Within body h ⇒ Q
    unfolding Within
    within zero limits n a r xs x = absurd x
    within (suc h) limits n a r xs x = step (Within body h) (λ l m b s ys y. (h, y)) (within h) limits n a r xs x

    -- what holds of a rule if it holds of those in its right side
    pub by_height : Spells body ⇒ Q
    by_height limits n a r xs (h, x) = within h limits n a r xs x

-- There are no tokens, where there may be none, or they begin so.
abbrev pub Starts : Bool → Kinds → List Tok → Type 0
Starts b T xs = ((b ≡ true) × (xs ≡ [])) ⊎ (sees T xs ≡ true)

pub starts_some : (b : Bool) (T : Kinds) (xs : List Tok) → b ≡ false → Starts b T xs → sees T xs ≡ true
starts_some b T xs n (inl (e, z)) = cc
starts_some b T xs n (inr s) = s

starts_then : (a b : Bool) (S T : Kinds) (xs ys : List Tok) → Starts a S xs → Starts b T ys → Starts (a && b) (S ∪ if_so a T) (xs ++ ys)
starts_then a b S T xs ys (inr s) t = inr (sees_left S (if_so a T) (xs ++ ys) (sees_more S xs ys s))
starts_then true b S T xs ys (inl (e, z)) (inl (f, y)) = inl (f, ap (λ v. v ++ ys) z ∙ y)
starts_then true b S T xs ys (inl (e, z)) (inr t) = inr (sees_right S T (xs ++ ys) (ap (λ v. sees T (v ++ ys)) z ∙ t))
starts_then false b S T xs ys (inl (e, z)) t = cc

pub start_all : {A : Type 0} (M : Spelling A) (T : Kinds) → ((a : A) (rest xs : List Tok) → M a rest xs → sees T xs ≡ true) → (all : List A) (rest xs : List Tok) → SpellsAll M all rest xs → Starts true T xs
start_all M T one [] rest xs e = inl (refl, e)
start_all M T one (a ∷ others) rest xs (ys, zs, c, x, y) = inr (ap (sees T) c ∙ sees_more T ys zs (one a (zs ++ rest) ys x))

-- r' before which no tokens stand does as r does: none of these is ahead, or the first token is the same
abbrev pub Fair : Kinds → List Tok → List Tok → Type 0
Fair T r r' = (sees T r' ≡ false) ⊎ (first r' ≡ first r)

pub fair_less : (A B : Kinds) (r r' : List Tok) → ((ts : List Tok) → sees B ts ≡ false → sees A ts ≡ false) → Fair B r r' → Fair A r r'
fair_less A B r r' k (inl e) = inl (k r' e)
fair_less A B r r' k (inr e) = inr e

pub none_left : (A B : Kinds) (ts : List Tok) → sees (A ∪ B) ts ≡ false → sees A ts ≡ false
none_left A B ts e = (sees_neither A B ts e).0

pub none_right : (A B : Kinds) (ts : List Tok) → sees (A ∪ B) ts ≡ false → sees B ts ≡ false
none_right A B ts e = (sees_neither A B ts e).1

pub fair_left : (A B : Kinds) (r r' : List Tok) → Fair (A ∪ B) r r' → Fair A r r'
fair_left A B r r' q = fair_less A (A ∪ B) r r' (none_left A B) q

pub fair_right : (A B : Kinds) (r r' : List Tok) → Fair (A ∪ B) r r' → Fair B r r'
fair_right A B r r' q = fair_less B (A ∪ B) r r' (none_right A B) q

pub fair_none : (T : Kinds) (r r' : List Tok) → sees T r ≡ false → Fair T r r' → sees T r' ≡ false
fair_none T r r' n (inl e) = e
fair_none T r r' n (inr e) = sees_alike T r' r e ∙ n

-- after tokens that begin so, or none
pub fair_after : (b : Bool) (A T : Kinds) (zs r r' : List Tok) → Starts b T zs → Fair (if_so b A) r r' → Fair A (zs ++ r) (zs ++ r')
fair_after b A T (t ∷ zs) r r' s f = inr refl
fair_after b A T [] r r' (inr s) f = cc
fair_after true A T [] r r' (inl s) f = f
fair_after false A T [] r r' (inl (e, z)) f = cc

pub fair_all : {A : Type 0} (M O : Spelling A) (B : Kinds) → ((a : A) (r r' xs : List Tok) → M a r xs → Fair B r r' → O a r' xs) → (all : List A) (r r' xs : List Tok) → SpellsAll M all r xs → Fair B r r' → SpellsAll O all r' xs
fair_all M O B k [] r r' xs e q = e
fair_all M O B k (a ∷ others) r r' xs (ys, zs, e, x, y) q =
    let ahead = elim zs as (λ zs. Fair B (zs ++ r) (zs ++ r')) [ [] ↦ q | t ∷ zs ↦ inr refl ] in
    (ys, zs, e, k a (zs ++ r) (zs ++ r') ys x ahead, fair_all M O B k others r r' zs y q)

pub seen_some : (T : Kinds) (xs : List Tok) → sees T xs ≡ true → 1 ≤ length xs
seen_some T [] s = cc
seen_some T (t ∷ xs) s = omega arith

-- a test of two tokens that failed before some tokens fails before others
pub two_kept : (l : Bool) (T U : Kinds) (xs r r' : List Tok) → (l ≡ true → 2 ≤ length xs) → 1 ≤ length xs → Fair (if_so (not l) U) r r' → sees_two T U (xs ++ r) ≡ false → sees_two T U (xs ++ r') ≡ false
two_kept l T U [] r r' k z f e = absurd (omega arith)
two_kept l T U (t ∷ u ∷ xs) r r' k z f e = e
two_kept true T U (t ∷ []) r r' k z f e = let two = k refl in absurd (omega (arith, two))
two_kept false T U (t ∷ []) r r' k z (inl f) e = and_no (is T t) (sees U r') f
two_kept false T U (t ∷ []) r r' k z (inr f) e = ap (λ b. is T t && b) (sees_alike U r' r f) ∙ e

module _ {N : Type 0} {Node : N → Type 0} (facts : N → Facts) where
  -- what rules spell begins as it must
  abbrev pub AllStart : (Limits → (n : N) → Spelling (Node n)) → Type 0
  AllStart L = (limits : Limits) (n : N) (a : Node n) (rest xs : List Tok) → L limits n a rest xs → sees (facts n).begins xs ≡ true

  module _ (L : OfRules N Node) (s : AllStart L) where
    -- and so does what a form spells
    pub starts : (limits : Limits) {A : Type 0} (f : Form N Node A) → Decided facts f → (a : A) (rest xs : List Tok) → SpellsBy L limits f a rest xs → Starts (nullable facts f) (begins facts f) xs
    starts limits (token T g) d a rest xs (t, c, i, v) = inr (ap (sees T) c ∙ i)
    starts limits (give b) d a rest xs (c, v) = inl (refl, c)
    starts limits (call n) d a rest xs x = inr (s limits n a rest xs x)
    starts limits (map h f) d b rest xs (a, v, x) = starts limits f d a rest xs x
    starts limits (f ⨾ g) (d, (d', o)) a rest xs (ys, zs, c, x, y) =
        subst (Starts (nullable facts f && nullable facts g) (begins facts f ∪ if_so (nullable facts f) (begins facts g))) (sym c)
        (starts_then (nullable facts f) (nullable facts g) (begins facts f) (begins facts g) ys zs (starts limits f d a.0 (zs ++ rest) ys x) (starts limits g d' a.1 rest zs y))
    starts limits (into m f g) (d, (d', (n, o))) a rest xs (p, (ys, zs, c, x, y)) =
        inr (ap (sees (begins facts f)) c ∙ sees_more (begins facts f) ys zs (starts_some (nullable facts f) (begins facts f) ys n (starts limits f d a.0 (zs ++ rest) ys x)))
    starts limits (choose T f g) (d, (d', ((n, o), q))) a rest xs (inl x) = inr (sees_left (begins facts f) (begins facts g) xs (starts_some (nullable facts f) (begins facts f) xs n (starts limits f d a rest xs x)))
    starts limits (choose T f g) (d, (d', o)) a rest xs (inr x) =
        elim (starts limits g d' a rest xs x) as (λ s. Starts (nullable facts g) (begins facts f ∪ begins facts g) xs) [ inl e ↦ inl e | inr e ↦ inr (sees_right (begins facts f) (begins facts g) xs e) ]
    starts limits (many T f) (d, ((n, o), q)) all rest xs x =
        start_all (SpellsBy L limits f) (begins facts f) (λ a r ys y. starts_some (nullable facts f) (begins facts f) ys n (starts limits f d a r ys y)) all rest xs x
    starts limits (or_none T f b) (d, (n, o)) a rest xs (inl x) = inr (starts_some (nullable facts f) (begins facts f) xs n (starts limits f d a rest xs x))
    starts limits (or_none T f b) d a rest xs (inr (c, v, e)) = inl (refl, c)
    starts limits (nest m T f) (d, (n, o)) a rest xs (p, x) = inr (starts_some (nullable facts f) (begins facts f) xs n (starts limits f d a rest xs x))
    starts limits (bounded f) (d, n) a rest xs (p, x) = inr (starts_some (nullable facts f) (begins facts f) xs n (starts unlimited f d a rest xs x))
    starts limits (two_ahead T U f g) (d, (d', ((n, (w, k)), (o, (m, t))))) a rest xs (inl x) =
        inr (sees_among T (begins facts g) xs t (sees_among (begins facts f) T xs w (starts_some (nullable facts f) (begins facts f) xs n (starts limits f d a rest xs x))))
    starts limits (two_ahead T U f g) (d, (d', (h, (o, (m, t))))) a rest xs (inr (x, q)) = inr (starts_some (nullable facts g) (begins facts g) xs m (starts limits g d' a rest xs x))
    starts limits (avoid T U f) (d, (e, (n, o))) a rest xs (x, q) = inr (starts_some (nullable facts f) (begins facts f) xs n (starts limits f d a rest xs x))

    pub some_starts : (limits : Limits) {A : Type 0} (f : Form N Node A) → Decided facts f → nullable facts f ≡ false → (a : A) (rest xs : List Tok) → SpellsBy L limits f a rest xs → sees (begins facts f) xs ≡ true
    some_starts limits f d n a rest xs x = starts_some (nullable facts f) (begins facts f) xs n (starts limits f d a rest xs x)

    -- and with a token of T, if it begins with these alone
    pub head_starts : (limits : Limits) (T : Kinds) {A : Type 0} (f : Form N Node A) → Decided facts f → Heads facts T f → (a : A) (rest xs : List Tok) → SpellsBy L limits f a rest xs → sees T xs ≡ true
    head_starts limits T f d (n, (w, k)) a rest xs x = sees_among (begins facts f) T xs w (some_starts limits f d n a rest xs x)

    -- what is long is two tokens at least
    pub longs : (limits : Limits) (A : Type 0) (f : Form N Node A) → Decided facts f → long facts f ≡ true → (a : A) (rest xs : List Tok) → SpellsBy L limits f a rest xs → 2 ≤ length xs
    longs limits A (map {A = B} h f) d e b rest xs (a, v, x) = longs limits B f d e a rest xs x
    longs limits A (nest m T f) (d, o) e a rest xs (p, x) = longs limits A f d e a rest xs x
    longs limits A (f ⨾ g) (d, (d', o)) e a rest xs (ys, zs, c, x, y) =
        let q = both (not (nullable facts f)) (not (nullable facts g)) e in
        let first = seen_some (begins facts f) ys (some_starts limits f d (grind (arith, q.0)) a.0 (zs ++ rest) ys x) in
        let next = seen_some (begins facts g) zs (some_starts limits g d' (grind (arith, q.1)) a.1 rest zs y) in
        omega (arith, first, next, ap length c, length-append ys zs)
    longs limits A f d e a rest xs x = cc

    -- the second token of what has two heads
    pub second_starts : (U : Kinds) (limits : Limits) (A : Type 0) (f : Form N Node A) → Decided facts f → Holds (second facts U f) → (a : A) (rest xs : List Tok) → SpellsBy L limits f a rest xs → sees U (drop 1 xs) ≡ true
    second_starts U limits A (map {A = B} h f) d e b rest xs (a, v, x) = second_starts U limits B f d e a rest xs x
    second_starts U limits A (◌⨾◌ {A = B} {B = C} (token V v) g) (i, (d, p)) e a rest xs (ys, zs, c, (t, o, j, w), y) =
        ap (λ ts. sees U (drop 1 ts)) (c ∙ ap (λ u. u ++ zs) o) ∙ head_starts limits U g d e a.1 rest zs y
    second_starts U limits A f d e a rest xs x = cc

    -- where rules' tokens spell the same before others, so do a form's
    pub fair : (O : OfRules N Node) → ((limits : Limits) (n : N) (a : Node n) (r xs : List Tok) → L limits n a r xs → (r' : List Tok) → Fair (facts n).bars r r' → O limits n a r' xs)
        → (limits : Limits) {A : Type 0} (f : Form N Node A) → Decided facts f → (a : A) (r r' xs : List Tok) → SpellsBy L limits f a r xs → Fair (bars facts f) r r' → SpellsBy O limits f a r' xs
    fair O c limits (token T g) d a r r' xs x q = x
    fair O c limits (give b) d a r r' xs x q = x
    fair O c limits (call n) d a r r' xs x q = c limits n a r xs x r' q
    fair O c limits (map h f) d b r r' xs (a, v, x) q = (a, v, fair O c limits f d a r r' xs x q)
    fair O c limits (f ⨾ g) (d, (d', o)) a r r' xs (ys, zs, e, x, y) q =
        let further = if_so (nullable facts g) (bars facts f) in
        let ahead = fair_after (nullable facts g) (bars facts f) (begins facts g) zs r r' (starts limits g d' a.1 r zs y) (fair_right (bars facts g) further r r' q) in
        (ys, zs, e, fair O c limits f d a.0 (zs ++ r) (zs ++ r') ys x ahead, fair O c limits g d' a.1 r r' zs y (fair_left (bars facts g) further r r' q))
    fair O c limits (into m f g) (d, (d', (n, (n', (w, b))))) a r r' xs (p, (ys, zs, e, x, y)) q =
        (p, (ys, zs, e, fair O c limits f d a.0 (zs ++ r) (zs ++ r') ys x (inl (sees_nothing (bars facts f) (zs ++ r') b)), fair O c limits g d' a.1 r r' zs y q))
    fair O c limits (choose T f g) (d, o) a r r' xs (inl x) q = inl (fair O c limits f d a r r' xs x (fair_left (bars facts f) (bars facts g) r r' q))
    fair O c limits (choose T f g) (d, (d', o)) a r r' xs (inr x) q = inr (fair O c limits g d' a r r' xs x (fair_right (bars facts f) (bars facts g) r r' q))
    fair O c limits (many T f) (d, o) all r r' xs x q = fair_all (SpellsBy L limits f) (SpellsBy O limits f) (bars facts f) (fair O c limits f d) all r r' xs x q
    fair O c limits (or_none T f b) (d, o) a r r' xs (inl x) q = inl (fair O c limits f d a r r' xs x (fair_right T (bars facts f) r r' q))
    fair O c limits (or_none T f b) d a r r' xs (inr (e, v, m)) q = inr (e, v, fair_none T r r' m (fair_left T (bars facts f) r r' q))
    fair O c limits (nest m T f) (d, o) a r r' xs (p, x) q = (p, fair O c limits f d a r r' xs x q)
    fair O c limits (bounded f) (d, o) a r r' xs (p, x) q = (p, fair O c unlimited f d a r r' xs x q)
    fair O c limits (two_ahead T U f g) (d, o) a r r' xs (inl x) q =
        let others = fair_right (if_so (not (long facts g)) U) (bars facts f ∪ bars facts g) r r' q in
        inl (fair O c limits f d a r r' xs x (fair_left (bars facts f) (bars facts g) r r' others))
    fair O c limits (two_ahead T U f g) (d, (d', (h, (o, (m, t))))) a r r' xs (inr (x, n)) q =
        let second = if_so (not (long facts g)) U in
        let others = fair_right second (bars facts f ∪ bars facts g) r r' q in
        let some = seen_some (begins facts g) xs (some_starts limits g d' m a r xs x) in
        inr (
          fair O c limits g d' a r r' xs x (fair_right (bars facts f) (bars facts g) r r' others),
          two_kept (long facts g) T U xs r r' (λ l. longs limits _ g d' l a r xs x) some (fair_left second (bars facts f ∪ bars facts g) r r' q) n,
        )
    fair O c limits (avoid T U f) (d, o) a r r' xs (x, n) q = (fair O c limits f d a r r' xs x q, n)

  module _ (body : Bodies N Node) (sure : (n : N) → Fits facts body n) where
    pub spells_starts : AllStart (Spells body)
    spells_starts = by_height body (λ limits n a r xs. sees (facts n).begins xs ≡ true) (λ L up s limits n a r xs x. head_starts L s limits (facts n).begins (body n) (sure n).sure (sure n).head a r xs x)

    pub spells_fair : (limits : Limits) (n : N) (a : Node n) (r xs : List Tok) → Spells body limits n a r xs → (r' : List Tok) → Fair (facts n).bars r r' → Spells body limits n a r' xs
    spells_fair = by_height body (λ limits n a r xs. (r' : List Tok) → Fair (facts n).bars r r' → Spells body limits n a r' xs)
        (λ L up k limits n a r xs x r' q. spells_body body limits n a r' xs (fair L (λ l m b s ys y. spells_starts l m b s ys (up l m b s ys y)) (Spells body) k limits (body n) (sure n).sure a r r' xs x
        (fair_less (bars facts (body n)) (facts n).bars r r' (λ ts. sees_none (bars facts (body n)) (facts n).bars ts (sure n).barred) q)))

    -- what a form spells, it spells before tokens that it does not bar
    pub form_fair : (limits : Limits) {A : Type 0} (f : Form N Node A) → Decided facts f → (a : A) (r r' xs : List Tok) → SpellsBy (Spells body) limits f a r xs → Fair (bars facts f) r r' → SpellsBy (Spells body) limits f a r' xs
    form_fair limits f d a r r' xs x q = fair (Spells body) spells_starts (Spells body) spells_fair limits f d a r r' xs x q

    -- and alone
    pub form_alone : (limits : Limits) {A : Type 0} (f : Form N Node A) → Decided facts f → (a : A) (r xs : List Tok) → SpellsBy (Spells body) limits f a r xs → SpellsBy (Spells body) limits f a [] xs
    form_alone limits f d a r xs x = form_fair limits f d a r [] xs x (inl refl)

choice : (b s n t : Bool) → (b || (s || (not n && t))) ≡ true → ((b || s) ≡ true) ⊎ ((n ≡ false) × ((b || t) ≡ true))
choice b s n t e = grind arith

clear : (b : Bool) (B T : Kinds) (ys : List Tok) → (b || apart B T) ≡ true → (b ≡ true → ys ≡ []) → Starts b T ys → sees B ys ≡ false
clear true B T ys p z s = ap (sees B) (z refl)
clear false B T ys p z (inl (f, n)) = cc
clear false B T ys p z (inr h) = sees_other B T ys p h

module _ {N : Type 0} {Node : N → Type 0} (facts : N → Facts) (body : Bodies N Node) (sure : (n : N) → Fits facts body n) where
  abbrev pub Has : {A : Type 0} → Form N Node A → Spelling A
  Has f = SpellsBy (Spells body) unlimited f

  -- something that it spells, which is no token, where it may be none
  abbrev pub Example : {A : Type 0} → Form N Node A → Type 0
  Example {A} f = (a : A) × (xs : List Tok) × (nullable facts f ≡ true → xs ≡ []) × Has f a [] xs

  -- rules have something, and so has what may not begin with two tokens
  record Have : Type 1 where
    rule : (n : N) → Example (call n)
    avoided : (T U : Kinds) (A : Type 0) (f : Form N Node A) → Decided facts (avoid T U f) → Example (avoid T U f)

  -- what the second part spells goes on from the first one
  pub join : {A B : Type 0} (f : Form N Node A) (g : Form N Node B) → Decided facts f → (a : A) (b : B) (r xs ys : List Tok) → Has f a r xs → Fair (bars facts f) r ys → Has g b [] ys → Has (f ⨾ g) (a, b) [] (xs ++ ys)
  join f g d a b r xs ys x q y = (xs, ys, refl, form_fair facts body sure unlimited f d a r (ys ++ []) xs x (subst (Fair (bars facts f) r) (sym (append-nil ys)) q), y)

  -- what an example of the second part begins with is not barred after the first
  pub not_barred : {A B : Type 0} (f : Form N Node A) (g : Form N Node B) → Decided facts g → (nullable facts g || apart (bars facts f) (begins facts g)) ≡ true → (r : List Tok) (e : Example g) → Fair (bars facts f) r e.1
  not_barred f g d p r e = inl (clear (nullable facts g) (bars facts f) (begins facts g) e.1 p e.2 (starts facts (Spells body) (spells_starts facts body sure) unlimited g d e.0 [] e.1 e.3))

  -- an example of a form, of those examples or without them
  example : (b : Bool) → (b ≡ true → Have) → (A : Type 0) (f : Form N Node A) → Decided facts f → (b || simple facts f) ≡ true → Example f
  example b k A (token T g) d e = (g (sample T), sample T ∷ [], λ x. cc, (sample T, refl, d, refl))
  example b k A (give a) d e = (a, [], λ x. refl, (refl, refl))
  example true k A (call n) d e = (k refl).rule n
  example false k A (call n) d e = cc
  example b k A (map {A = B} h f) d e = let x = example b k B f d e in (h x.0, x.1, x.2, (x.0, refl, x.3))
  example b k A (◌⨾◌ {A = B} {B = C} f g) (d, (d', (o, p))) e =
      let t : ((b || simple facts f) ≡ true) × ((b || simple facts g) ≡ true) = grind (arith, e) in
      let x = example b k B f d t.0 in
      let y = example b k C g d' t.1 in
      ((x.0, y.0), x.1 ++ y.1, λ z. let u = both (nullable facts f) (nullable facts g) z in ap (λ v. v ++ y.1) (x.2 u.0) ∙ y.2 u.1, join f g d x.0 y.0 [] x.1 y.1 x.3 (not_barred f g d' p [] y) y.3)
  example b k A (into {A = B} {B = C} m f g) (d, (d', (n, (n', (w, c))))) e =
      let t : ((b || simple facts f) ≡ true) × ((b || simple facts g) ≡ true) = grind (arith, e) in
      let x = example b k B f d t.0 in
      let y = example b k C g d' t.1 in
      ((x.0, y.0), x.1 ++ y.1, λ z. cc, (tt, join f g d x.0 y.0 [] x.1 y.1 x.3 (inl (sees_nothing (bars facts f) y.1 c)) y.3))
  example b k A (choose T f g) (d, (d', o)) e =
      let of_f = example b k A f d in
      let of_g = example b k A g d' in
      elim (choice b (simple facts g) (nullable facts g) (simple facts f) e) as (λ s. Example (choose T f g))
      [ inl q ↦ let y = of_g q in (y.0, y.1, y.2, inr y.3) | inr q ↦ let x = of_f q.1 in (x.0, x.1, λ m. let no = q.0 in cc, inl x.3) ]
  example b k A (many T f) d e = ([], [], λ x. refl, refl)
  example b k A (or_none T f a) d e = (a, [], λ x. refl, inr (refl, refl, refl))
  example b k A (nest m T f) (d, o) e = let x = example b k A f d e in (x.0, x.1, λ z. cc, (tt, x.3))
  example b k A (bounded f) (d, o) e = let x = example b k A f d e in (x.0, x.1, λ z. cc, (tt, x.3))
  example b k A (two_ahead T U f g) (d, o) e = let x = example b k A f d e in (x.0, x.1, λ z. cc, inl x.3)
  example true k A (avoid T U f) d e = (k refl).avoided T U A f d
  example false k A (avoid T U f) d e = cc

  -- a token of those that are a form by themselves
  one_alone : (A : Type 0) (f : Form N Node A) → Decided facts f → (t : Tok) → is (alone facts f) t ≡ true → (a : A) × Has f a [] (t ∷ [])
  one_alone A (token T g) d t i = (g t, (t, refl, i, refl))
  one_alone A (map {A = B} h f) d t i = let x = one_alone B f d t i in (h x.0, (x.0, refl, x.1))
  one_alone A (◌⨾◌ {A = B} {B = C} f g) (d, (d', o)) t i = go (nullable facts g) (simple facts g) i (example false (λ z. cc) C g d') (one_alone B f d t)
    where
      go : (n s : Bool) → is (if_so (n && s) (alone facts f)) t ≡ true → (s ≡ true → (c : C) × (xs : List Tok) × (n ≡ true → xs ≡ []) × Has g c [] xs) → (is (alone facts f) t ≡ true → (b : B) × Has f b [] (t ∷ [])) → (a : B × C) × Has (f ⨾ g) a [] (t ∷ [])
      go true true i y x = let u = x i in let v = y refl in ((u.0, v.0), (t ∷ [], [], refl, u.1, subst (Has g v.0 []) (v.2 refl) v.3))
      go true false i y x = cc
      go false s i y x = cc
  one_alone A (choose T f g) (d, (d', o)) t i =
      let of_f = one_alone A f d t in
      let of_g = one_alone A g d' t in
      (elim (is (alone facts f) t) as (λ b. (b ≡ true → (a : A) × Has f a [] (t ∷ [])) → (b || is (alone facts g) t) ≡ true → (a : A) × Has (choose T f g) a [] (t ∷ []))
      [ true ↦ λ x i. let u = x refl in (u.0, inl u.1) | false ↦ λ x i. let u = of_g i in (u.0, inr u.1) ]) of_f i
  one_alone A (bounded f) (d, o) t i = let x = one_alone A f d t i in (x.0, (tt, x.1))
  one_alone A f d t i = cc

  -- the token goes on to something, and not by a token of U
  other_second : (T U : Kinds) (A : Type 0) (f : Form N Node A) → Decided facts f → Holds (parts facts T U f) → (t : Tok) → is T t ≡ true → (a : A) × (others : List Tok) × (sees U others ≡ false) × Has f a [] (t ∷ others)
  other_second T U A (map {A = B} h f) d e t i = let x = other_second T U B f d e t i in (h x.0, x.1, x.2, (x.0, refl, x.3))
  other_second T U A (nest m V f) (d, o) e t i = let x = other_second T U A f d e t i in (x.0, x.1, x.2, (tt, x.3))
  other_second T U A (◌⨾◌ {A = B} {B = C} f g) (d, (d', (o, p))) (l, (m, (n, k))) t i =
      let x = one_alone B f d t (sees_among T (alone facts f) (t ∷ []) l i) in
      let y = example false (λ z. cc) C g d' m in
      ((x.0, y.0), y.1, sees_other U (begins facts g) y.1 k (some_starts facts (Spells body) (spells_starts facts body sure) unlimited g d' n y.0 [] y.1 y.3), join f g d x.0 y.0 [] (t ∷ []) y.1 x.1 (not_barred f g d' p [] y) y.3)
  other_second T U A f d e t i = cc

  -- the same, where the two tokens may not come
  pub goes_on_so : (T U : Kinds) (A : Type 0) (f : Form N Node A) → Decided facts (avoid T U f) → (t : Tok) → is T t ≡ true → (a : A) × (others : List Tok) × Has (avoid T U f) a [] (t ∷ others)
  goes_on_so T U A f (d, (s, (n, (k, (l, o))))) t i = let x = other_second T U A f d o t i in (x.0, x.1, (x.3, and_no (is T t) (sees U x.1) x.2))

  pub avoided_example : (T U : Kinds) (A : Type 0) (f : Form N Node A) → Decided facts (avoid T U f) → Example (avoid T U f)
  avoided_example T U A f d = let x = goes_on_so T U A f d (sample T) d.1.0 in (x.0, sample T ∷ x.1, λ z. cc, x.2)

  rule_example : (n : N) → Example (call n)
  rule_example n = let x = example false (λ z. cc) (Node n) (body n) (sure n).sure (sure n).example in (x.0, x.1, λ z. cc, spells_body body unlimited n x.0 [] x.1 x.3)

  -- every form has something
  pub some_example : (A : Type 0) (f : Form N Node A) → Decided facts f → Example f
  some_example A f d = example true (λ z. record { rule = rule_example; avoided = avoided_example }) A f d refl

  -- something begins with each first token of what has two heads
  pub with_head : (U : Kinds) (A : Type 0) (f : Form N Node A) → Decided facts f → Holds (second facts U f) → (t : Tok) → is (begins facts f) t ≡ true → (a : A) × (others : List Tok) × Has f a [] (t ∷ others)
  with_head U A (map {A = B} h f) d e t i = let x = with_head U B f d e t i in (h x.0, x.1, (x.0, refl, x.2))
  with_head U A (◌⨾◌ {A = B} {B = C} (token V v) g) (s, (d, o)) e t i = let y = some_example C g d in ((v t, y.0), y.1, (t ∷ [], y.1, refl, (t, refl, grind (arith, i), refl), y.3))
  with_head U A f d e t i = cc
