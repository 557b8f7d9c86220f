-- All of the tokens: what is read of them is what they spell, and each refusal says where and why they spell nothing.
use Rattle.std.proofs.Common.{◌≡◌, inl, inr, ℕ, zero, suc, ◌<◌, ◌≤◌, ◌+◌, List, [], ◌∷◌, ◌++◌, length, length-append, append_assoc, append-nil, take, drop, nat_lt, Ok, Err, true, false, ◌&&◌, Option, Some, None, refl, sym, ap, subst, ◌∙◌, arith}
use Rattle.std.proofs.lemmas.Bool.{true_from_ne_false, ltb-false}
use Rattle.std.proofs.lemmas.Bool.Decides.{nat_tests}
use Rattle.std.proofs.lemmas.List.{take-append-drop, take-append-le, drop-append-le}
use Rattle.std.proofs.Math.Seq.{take-append_seam, drop-append_seam}
use Rattle.arc_lex.specs.Tokens.{Tok}
use Rattle.arc_form.specs.Kinds.{Kinds}
use Rattle.arc_form.specs.Reader.{Read, Reader, Fault, misfit, too_deep, bind, ◌>>=◌, ret, first, sees, loop, allowed, nested, goes_over, up_to}
use Rattle.arc_form.specs.Form.{Limits, unlimited, Form, Bodies, token, give, call, map, ◌⨾◌, into, choose, many, or_none, nest, bounded, two_ahead, avoid, run, read}
use Rattle.arc_form.specs.Meaning.{SpellsAll, SpellsBy, Spells}
use Rattle.arc_form.specs.Places.{Begun, OneTooMany, PassesBy, PassesWithin, Passes}
use Rattle.arc_form.specs.Whole.{SpellsWhole, end, read_whole, FitsNone}
use Rattle.arc_form.proofs.Sets.{sees_among, sees_nothing, sees_apart, sees_other, sees_more}
use Rattle.arc_form.proofs.Static.{Facts, begins, goes_on, Decided, Heads, Fits}
use Rattle.arc_form.proofs.Local.{rest_of, fault_of, loop_more, past_some, allowed_then, nested_is, loop_turn}
use Rattle.arc_form.proofs.FormLocal.{read_is, some_front}
use Rattle.arc_form.proofs.FormBegins.{Positive, deep_begins, deep_second}
use Rattle.arc_form.proofs.FormStarts.{form_free, form_alone, head_starts, spells_starts}
use Rattle.arc_form.proofs.FormFirm.{allowed_fits, nested_fits, form_complete}
use Rattle.arc_form.proofs.FormAnswers.{Reported, Same, reported_begun, form_reported, stays}

-- of two fronts of a list, the longer one goes on from the other
longer : (b s c r : List Tok) → b ++ s ≡ c ++ r → length b ≤ length c → (m : List Tok) × (c ≡ b ++ m) × (s ≡ m ++ r)
longer b s c r e p =
    let n = length b in
    let front : take n c ≡ b = sym (take-append-le n c r p) ∙ sym (ap (take n) e) ∙ take-append_seam b s in
    (drop n c, sym (take-append-drop n c) ∙ ap (λ v. v ++ drop n c) front, sym (drop-append_seam b s) ∙ ap (drop n) e ∙ drop-append-le n c r p)

not_over : (n k l : ℕ) → n < l → (nat_lt n l && nat_lt (k + n) (suc l)) ≡ false → l < k + n
not_over n k l p e = grind (arith, nat_tests)

-- one answer is another
ok_is : {A : Type 0} {a b : A} {r s : List Tok} → ret a r ≡ Ok (b, s) → (a ≡ b) × (r ≡ s)
ok_is {A} {a} {b} {r} {s} e = let p : (a, r) ≡ (b, s) = cc in (ap (λ (x : A × List Tok). x.0) p, ap (λ (x : A × List Tok). x.1) p)

-- what is read to the end, and what is not
end_ok : {A : Type 0} (x : Read A) (a : A) (r : List Tok) → bind x end ≡ Ok (a, r) → x ≡ Ok (a, [])
end_ok (Ok (b, [])) a r e = ap (λ b. Ok (b, [])) (ok_is e).0
end_ok (Ok (b, u ∷ s)) a r e = cc
end_ok (Err x) a r e = cc

end_not : {A : Type 0} (x : Read A) (y : Fault) (rest : List Tok) → bind x end ≡ Err (y, rest) → (rest_of x ≡ rest) × (fault_of x ≡ y) × ((a : A) → x ≡ Ok (a, []) → ⊥)
end_not (Ok (b, [])) y rest e = cc
end_not {A} (Ok (b, u ∷ s)) y rest e = (ap (λ (z : Read A). rest_of z) e, ap (λ (z : Read A). fault_of z) e, λ a z. let no = (ok_is z).1 in cc)
end_not {A} (Err x) y rest e = (ap (λ (z : Read A). rest_of z) e, ap (λ (z : Read A). fault_of z) e, λ a z. cc)

module _ {N : Type 0} {Node : N → Type 0} (facts : N → Facts) (body : Bodies N Node) (sure : (n : N) → Fits facts body n) where
  module _ (A : Type 0) (f : Form N Node A) (d : Decided facts f) where
    abbrev limited : Limits → Reader A
    limited limits = run (read body) limits f

    abbrev ReportedSo : Limits → List Tok → Read A → Type 0
    ReportedSo limits ts x = Reported (SpellsBy (Spells body) limits f) (Begun body f) (Passes body limits f) (limited unlimited) ts x

    reads_whole : (limits : Limits) (a : A) (xs : List Tok) → SpellsWhole body limits f a xs → limited limits xs ≡ Ok (a, [])
    reads_whole limits a xs x = ap (limited limits) (sym (append-nil xs)) ∙ form_complete facts body sure limits f d a [] xs x refl

    -- what is read is spelled, within the limits
    pub whole_within : (limits : Limits) (ts : List Tok) (a : A) (r : List Tok) → read_whole body limits f ts ≡ Ok (a, r) → SpellsWhole body limits f a ts
    unfolding read_whole
    whole_within limits ts a r e =
        let t = subst (ReportedSo limits ts) (end_ok (limited limits ts) a r e) (form_reported facts body sure (Some limits) A f d ts) in
        subst (SpellsWhole body limits f a) (sym (t.cut ∙ append-nil t.taken)) t.good

    -- and without them
    pub whole_spelled : (limits : Limits) (ts : List Tok) (a : A) (r : List Tok) → read_whole body limits f ts ≡ Ok (a, r) → SpellsWhole body unlimited f a ts
    whole_spelled limits ts a r e = form_free body limits f a [] ts (whole_within limits ts a r e)

    -- the tokens spell nothing else
    pub whole_alone : (limits : Limits) (ts : List Tok) (a other : A) (r : List Tok) → read_whole body limits f ts ≡ Ok (a, r) → SpellsWhole body unlimited f other ts → other ≡ a
    whole_alone limits ts a other r e x = (ok_is (sym (reads_whole unlimited other ts x) ∙ reads_whole unlimited a ts (whole_spelled limits ts a r e))).0

    -- what is spelled within the limits is not refused
    pub whole_accepted : (limits : Limits) (ts : List Tok) (a : A) (y : Fault × List Tok) → read_whole body limits f ts ≡ Err y → SpellsWhole body limits f a ts → ⊥
    unfolding read_whole
    whole_accepted limits ts a y e x = let p = ap (λ (z : Read A). bind z end) (reads_whole limits a ts x) in cc

    -- nothing that is spelled goes on with the first token that is left
    no_more : (xs : List Tok) (x : Read A) → Same (limited unlimited) xs x → ((a : A) → x ≡ Ok (a, []) → ⊥) → (others : List Tok) (a : A) → first others ≡ first (rest_of x) → SpellsWhole body unlimited f a (xs ++ others) → ⊥
    no_more xs (Ok (b, [])) same whole others a h m = whole b refl
    no_more xs (Ok (b, t ∷ s)) same whole [] a h m = cc
    no_more xs (Ok (b, t ∷ s)) same whole (u ∷ others) a h m = let p = (ok_is (sym (reads_whole unlimited a (xs ++ u ∷ others) m) ∙ same (u ∷ others) h)).1 in cc
    no_more xs (Err x) same whole others a h m = let p = reads_whole unlimited a (xs ++ others) m in let q = same others h in cc

    -- a token that does not fit, or the end
    pub whole_misfit : (limits : Limits) (ts rest : List Tok) → read_whole body limits f ts ≡ Err (misfit, rest) → (before : List Tok) × (ts ≡ before ++ rest) × FitsNone body f before rest
    unfolding read_whole
    whole_misfit limits ts rest e =
        let x = limited limits ts in
        let p = end_not x misfit rest e in
        let t = form_reported facts body sure (Some limits) A f d ts in
        (t.taken, t.cut ∙ ap (λ v. t.taken ++ v) p.0, (reported_begun facts body sure (Some limits) f d x t.taken t.good, λ others a h m. no_more t.taken x (t.same p.1) p.2 others a (h ∙ ap first (sym p.0)) m))

    -- a token that passes a limit: without limits something goes on with what is before it
    pub whole_too_deep : (limits : Limits) (ts rest : List Tok) → read_whole body limits f ts ≡ Err (too_deep, rest) → (before : List Tok) × (ts ≡ before ++ rest) × Passes body limits f before rest × Begun body f before
    unfolding read_whole
    whole_too_deep limits ts rest e =
        let x = limited limits ts in
        let p = end_not x too_deep rest e in
        let t = form_reported facts body sure (Some limits) A f d ts in
        (t.taken, t.cut ∙ ap (λ v. t.taken ++ v) p.0, subst (Passes body limits f t.taken) p.0 (t.deep p.1), reported_begun facts body sure (Some limits) f d x t.taken t.good)

  -- ---- where a limit is passed, a form refuses the token there

  -- a form goes over a limit where one token is too many
  goes_over_there : (n : ℕ) (A : Type 0) (f : Form N Node A) → Decided facts f → (before : List Tok) (t : Tok) (r : List Tok) → OneTooMany body (Some n) f before (t ∷ r) → goes_over n (before ++ t ∷ r) (run (read body) unlimited f (before ++ t ∷ r)) ≡ true
  goes_over_there n A f d before t r (l, (a, others, y), whole) =
      true_from_ne_false _ (at (run (read body) unlimited f ts) (form_reported facts body sure None A f d ts) (stays facts body sure A f d ts))
    where
      ts : List Tok
      ts = before ++ t ∷ r

      all : length ts ≡ n + suc (length r)
      all = omega (arith, l, length-append before (t ∷ r))

      -- no more than those before are taken
      stops : (xs : List Tok) (x : Read A) → ts ≡ xs ++ rest_of x → length xs ≤ n → (before ≡ xs → Begun body f (before ++ t ∷ [])) → Same (run (read body) unlimited f) xs x → ⊥
      stops xs x c p k same = let q = longer xs (rest_of x) before (t ∷ r) (sym c) (omega (arith, l)) in on q.0 q.1 q.2
        where
          some : {a : A} {u : Tok} {v : List Tok} → rest_of x ≡ u ∷ v → x ≡ Ok (a, []) → ⊥
          some e z = let no : [] ≡ _ = ap (λ (y : Read A). rest_of y) (sym z) ∙ e in cc

          on : (m : List Tok) → before ≡ xs ++ m → rest_of x ≡ m ++ t ∷ r → ⊥
          on [] e z = let b = k (e ∙ append-nil xs) in no_more A f d xs x same (λ a w. some z w) (t ∷ b.1) b.0 (sym (ap first z)) (subst (SpellsWhole body unlimited f b.0) (append_assoc before (t ∷ []) b.1 ∙ ap (λ v. v ++ t ∷ b.1) (e ∙ append-nil xs)) b.2)
          on (u ∷ m) e z = no_more A f d xs x same (λ a w. some z w) (u ∷ (m ++ others)) a (sym (ap first z)) (subst (SpellsWhole body unlimited f a) (ap (λ v. v ++ others) e ∙ append_assoc xs (u ∷ m) others) y)

      at : (x : Read A) → Reported (SpellsBy (Spells body) unlimited f) (Begun body f) (λ b r. ⊥) (run (read body) unlimited f) ts x → fault_of x ≡ misfit → goes_over n ts x ≡ false → ⊥
      at (Ok (b, s)) u z e =
          let p = ltb-false (length s + n) (length ts) e in
          stops u.taken (Ok (b, s)) u.cut (omega (arith, p, ap length u.cut, length-append u.taken s)) (λ z. whole b (subst (SpellsWhole body unlimited f b) (sym z) (form_alone facts body sure unlimited f d b s u.taken u.good))) (u.same z)
      at (Err (y, s)) u z e =
          let p = not_over n (length s) (length ts) (omega (arith, all)) e in
          let few : length u.taken < n = omega (arith, p, ap length u.cut, length-append u.taken s) in
          stops u.taken (Err (y, s)) u.cut (omega (arith, few)) (λ z. absurd (omega (arith, few, ap length z))) (u.same z)

  bounded_there : (most : Option ℕ) (A : Type 0) (f : Form N Node A) → Decided facts f → (before r : List Tok) → OneTooMany body most f before r → up_to most (run (read body) unlimited f) (before ++ r) ≡ Err (too_deep, r)
  unfolding up_to
  bounded_there None A f d before r x = absurd x
  bounded_there (Some n) A f d before [] x = absurd x
  bounded_there (Some n) A f d before (t ∷ r) x = rw (goes_over_there n A f d before t r x) (ap (λ v. Err (too_deep, v)) (ap (λ k. drop k (before ++ t ∷ r)) (sym x.0) ∙ drop-append_seam before (t ∷ r)))

  module _ (h : ℕ) (limits : Limits) (positive : Positive limits) (rec : (n : N) (before r : List Tok) → PassesWithin body h limits n before r → read body limits n (before ++ r) ≡ Err (too_deep, r)) where
    head : (A : Type 0) (f : Form N Node A) → Decided facts f → (T : Kinds) → Heads facts T f → (before r : List Tok) → run (read body) limits f (before ++ r) ≡ Err (too_deep, r) → sees T (before ++ r) ≡ true
    head A f d T h before r e = sees_among (begins facts f) T (before ++ r) h.1.0 (deep_begins facts body sure limits positive A f d (before ++ r) r e)

    -- in a turn of a loop, after others
    turns_there : (T : Kinds) (A : Type 0) (f : Form N Node A) → Decided facts (many T f) → (zs r : List Tok) → run (read body) limits f (zs ++ r) ≡ Err (too_deep, r)
        → (all : List A) (ys : List Tok) → SpellsAll (SpellsBy (Spells body) limits f) all (zs ++ r) ys → run (read body) limits (many T f) (ys ++ (zs ++ r)) ≡ Err (too_deep, r)
    turns_there T A f (d, (h, p)) zs r there [] ys e =
        rw (e, loop_turn T (some_front facts body sure limits f d h.0) (zs ++ r), head A f d T h zs r there, there) refl
    turns_there T A f (d, (h, p)) zs r there (a ∷ others) ys (us, vs, e, m, y) =
        let rest = vs ++ (zs ++ r) in
        let later = turns_there T A f (d, (h, p)) zs r there others vs y in
        let first = form_complete facts body sure limits f d a rest us m (sees_other (goes_on facts f) T rest p.0 (sees_among (begins facts f) T rest h.1.0 (deep_begins facts body sure limits positive (List A) (many T f) (d, (h, p)) rest r later))) in
        ap (loop T (run (read body) limits f)) (ap (λ v. v ++ (zs ++ r)) e ∙ append_assoc us vs (zs ++ r))
        ∙ loop_more T (us ++ rest) rest a (some_front facts body sure limits f d h.0) (sees_more T us rest (head_starts facts (Spells body) (spells_starts facts body sure) limits T f d h a rest us m)) first
        ∙ ap (λ v. bind v (λ others. ret (a ∷ others))) later

    answers : (A : Type 0) (f : Form N Node A) → Decided facts f → (before r : List Tok) → PassesBy body (PassesWithin body h) limits f before r → run (read body) limits f (before ++ r) ≡ Err (too_deep, r)
    answers A (token T g) d before r x = absurd x
    answers A (give a) d before r x = absurd x
    answers A (call n) d before r x = rec n before r x
    answers A (map {A = B} v f) d before r x = ap (λ y. bind y (λ a. ret (v a))) (answers B f d before r x)
    answers A (◌⨾◌ {A = B} {B = C} f g) (d, o) before r (inl x) = ap (λ y. bind y (λ a. run (read body) limits g >>= (λ b. ret (a, b)))) (answers B f d before r x)
    answers A (◌⨾◌ {A = B} {B = C} f g) (d, (d', (o, p))) before r (inr (a, ys, zs, e, m, x)) =
        let line : before ++ r ≡ ys ++ (zs ++ r) = ap (λ v. v ++ r) e ∙ append_assoc ys zs r in
        let there = answers C g d' zs r x in
        let first_part = form_complete facts body sure limits f d a (zs ++ r) ys m (sees_other (goes_on facts f) (begins facts g) (zs ++ r) o (deep_begins facts body sure limits positive C g d' (zs ++ r) r there)) in
        rw (line, first_part, there) refl
    answers A (into {A = B} {B = C} m f g) (d, o) before r (inl x) = ap (λ y. bind y (λ a. allowed limits.depth m >>= (λ u. run (read body) limits g >>= (λ b. ret (a, b))))) (answers B f d before r x)
    answers A (into {A = B} {B = C} m f g) (d, (d', (n, (n', (w, o))))) before r (inr (inl (p, l, a, x))) =
        let first_part = form_complete facts body sure limits f d a r before x (sees_nothing (goes_on facts f) r w) in
        rw (first_part, allowed_then {A = B × C} limits.depth m (run (read body) limits g >>= (λ b. ret (a, b))) r, p) (past_some r l)
    answers A (into {A = B} {B = C} m f g) (d, (d', (n, (n', (w, o))))) before r (inr (inr (p, a, ys, zs, e, s, x))) =
        let line : before ++ r ≡ ys ++ (zs ++ r) = ap (λ v. v ++ r) e ∙ append_assoc ys zs r in
        let there = answers C g d' zs r x in
        let first_part = form_complete facts body sure limits f d a (zs ++ r) ys s (sees_nothing (goes_on facts f) (zs ++ r) w) in
        rw (line, first_part, allowed_fits limits.depth m p, there) refl
    answers A (choose T f g) (d, (d', (h, o))) before r (inl x) = let there = answers A f d before r x in rw (head A f d T h before r there) there
    answers A (choose T f g) (d, (d', (h, o))) before r (inr x) =
        let there = answers A g d' before r x in
        rw (sees_apart (begins facts g) T (before ++ r) o (deep_begins facts body sure limits positive A g d' (before ++ r) r there)) there
    answers A (many {A = B} T f) d before r (all, ys, zs, e, m, x) =
        ap (loop T (run (read body) limits f)) (ap (λ v. v ++ r) e ∙ append_assoc ys zs r) ∙ turns_there T B f d zs r (answers B f d.0 zs r x) all ys m
    answers A (or_none T f a) (d, h) before r x = let there = answers A f d before r x in rw (head A f d T h before r there) there
    answers A (nest m T f) (d, o) before r (inl (p, x)) = nested_fits limits.depth m T (run (read body) limits f) (before ++ r) p ∙ answers A f d before r x
    answers A (nest m T f) d before r (inr (p, e, q)) = ap (λ v. nested limits.depth m T (run (read body) limits f) (v ++ r)) e ∙ rw (nested_is limits.depth m T (run (read body) limits f) r, p, q) refl
    answers A (bounded f) (d, o) before r x = bounded_there limits.tokens A f d before r x
    answers A (two_ahead T U f g) (d, (d', (h, (o, p)))) before r (inl x) =
        let there = answers A f d before r x in
        rw (head A f d T h before r there, deep_second facts body sure limits positive U A f d o (before ++ r) r there) there
    answers A (two_ahead T U f g) (d, (d', o)) before r (inr (x, e)) = rw e (answers A g d' before r x)
    answers A (avoid T U f) (d, o) before r (x, e) = rw e (answers A f d before r x)

  within_answers : (h : ℕ) (limits : Limits) → Positive limits → (n : N) (before r : List Tok) → PassesWithin body h limits n before r → read body limits n (before ++ r) ≡ Err (too_deep, r)
  unfolding PassesWithin
  within_answers zero limits positive n before r x = absurd x
  within_answers (suc h) limits positive n before r x =
      read_is facts body sure limits n (before ++ r) ∙ answers h limits positive (within_answers h limits positive) (Node n) (body n) (sure n).sure before r x

  -- where a limit is passed, that is answered, and nothing else
  pub whole_passes : (limits : Limits) → Positive limits → (A : Type 0) (f : Form N Node A) → Decided facts f → (before r : List Tok) → Passes body limits f before r → read_whole body limits f (before ++ r) ≡ Err (too_deep, r)
  unfolding read_whole
  whole_passes limits positive A f d before r (h, x) = ap (λ y. bind y end) (answers h limits positive (within_answers h limits positive) A f d before r x)
