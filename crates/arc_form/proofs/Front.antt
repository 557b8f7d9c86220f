-- What is read of the tokens up to a limit and one more decides what is read of so many tokens at most.
use Rattle.std.proofs.Common.{◌≡◌, ℕ, zero, suc, ◌<◌, ◌≤◌, ◌-◌, List, [], ◌∷◌, ◌++◌, length, length-append, take, drop, Ok, Err, true, false, Some, None, refl, sym, ap, ◌∙◌, arith}
use Rattle.std.proofs.lemmas.Bool.{ltb-false, true_from_ne_false}
use Rattle.std.proofs.lemmas.Bool.Decides.{nat_tests}
use Rattle.std.proofs.lemmas.List.{length-map, length-take, take-take, take-map, drop-map}
use Rattle.std.proofs.Math.Seq.{drop-append_seam}
use Rattle.arc_lex.specs.declared.token.Token.{Token}
use Rattle.arc_lex.specs.Tokens.{Tok, tok, toks}
use Rattle.arc_form.specs.Reader.{Read, Reader, Fault, misfit, too_deep, first, goes_over, up_to}
use Rattle.arc_form.specs.Form.{unlimited, Form, Bodies, run, read}
use Rattle.arc_form.proofs.Static.{Facts, Decided, Fits}
use Rattle.arc_form.proofs.Local.{rest_of, fault_of, put}
use Rattle.arc_form.proofs.FormAnswers.{Same, form_reported, stays}

-- f takes tokens, and gives this answer of all lists that are the same up to the token at which it stops
pub record Stops {A : Type 0} (f : Reader A) (ts : List Tok) : Type 0 where
  pub before : List Tok
  pub cut : ts ≡ before ++ rest_of (f ts)
  pub same : Same f before (f ts)

module _ {N : Type 0} {Node : N → Type 0} (facts : N → Facts) (body : Bodies N Node) (sure : (n : N) → Fits facts body n) {A : Type 0} (f : Form N Node A) (d : Decided facts f) where
  abbrev plain : Reader A
  plain = run (read body) unlimited f

  -- a form without limits stops so
  pub form_stops : (ts : List Tok) → Stops plain ts
  form_stops ts = let t = form_reported facts body sure None A f d ts in record { before = t.taken; cut = t.cut; same = t.same (stays facts body sure A f d ts) }

  -- no token is too deep in it
  pub never_deep : (ts r : List Tok) (y : Fault) → plain ts ≡ Err (y, r) → y ≡ misfit
  never_deep ts r y e = sym (ap (λ (x : Read A). fault_of x) e) ∙ stays facts body sure A f d ts

first_take : (k : ℕ) (ts : List Tok) → first (take (suc k) ts) ≡ first ts
first_take k [] = refl
first_take k (t ∷ ts) = refl

-- lists that begin alike
split_alike : (k : ℕ) (b v ts : List Tok) → take k ts ≡ take k (b ++ v) → length b < k → (r : List Tok) × (ts ≡ b ++ r) × (first r ≡ first v)
split_alike zero b v ts e p = absurd (omega arith)
split_alike (suc k) [] v ts e p = (ts, refl, sym (first_take k ts) ∙ ap first e ∙ first_take k v)
split_alike (suc k) (u ∷ b) v [] e p = cc
split_alike (suc k) (u ∷ b) v (t ∷ ts) e p =
    let heads : t ≡ u = cc in
    let tails : take k ts ≡ take k (b ++ v) = cc in
    let s = split_alike k b v ts tails (omega arith) in
    (s.0, ap (λ x. x ∷ ts) heads ∙ ap (λ w. u ∷ w) s.1, s.2)

-- whether an answer goes over a limit hangs on how many tokens were taken and on whether one is left
over_alike : {A : Type 0} (n : ℕ) (b r : List Tok) (x : Read A) → first r ≡ first (rest_of x) → goes_over n (b ++ r) (put x r) ≡ goes_over n (b ++ rest_of x) x
over_alike n b r (Ok x) e = simp length-append (grind (arith, nat_tests))
over_alike n b [] (Err (y, [])) e = refl
over_alike n b [] (Err (y, u ∷ v)) e = cc
over_alike n b (t ∷ r) (Err (y, [])) e = cc
over_alike n b (t ∷ r) (Err (y, u ∷ v)) e = simp length-append (grind (arith, nat_tests))

stops_within : {A : Type 0} (n : ℕ) (b : List Tok) (x : Read A) → goes_over n (b ++ rest_of x) x ≡ false → length b ≤ n
stops_within n b (Ok x) o = let p = ltb-false _ _ o in omega (arith, p, length-append b x.1)
stops_within n b (Err x) o = let l = length-append b x.1 in grind (arith, nat_tests)

-- ---- of tokens in memory

pub length_toks : (l : List Token) → length (toks l) ≡ length l
length_toks l = length-map l tok

pub take_short : (n : ℕ) (l : List Token) → length (take n l) ≤ length l
take_short n l = omega (arith, length-take n l)

module _ {A : Type 0} (n : ℕ) (f : Reader A) (stops : (ts : List Tok) → Stops f ts) where
  -- what stops within the limit is read so of all lists that are alike up to the limit and one token more
  alike : (us ts : List Tok) → take (suc n) ts ≡ take (suc n) us → goes_over n us (f us) ≡ false
      → (rest : List Tok) × (ts ≡ (stops us).before ++ rest) × (f ts ≡ put (f us) rest) × (goes_over n ts (f ts) ≡ false)
  alike us ts e o =
      let s = stops us in
      let here : goes_over n (s.before ++ rest_of (f us)) (f us) ≡ false = ap (λ v. goes_over n v (f us)) (sym s.cut) ∙ o in
      let few = stops_within n s.before (f us) here in
      let r = split_alike (suc n) s.before (rest_of (f us)) ts (e ∙ ap (take (suc n)) s.cut) (omega (arith, few)) in
      let same : f ts ≡ put (f us) r.0 = ap f r.1 ∙ s.same r.0 r.2 in
      (r.0, r.1, same, ap (goes_over n ts) same ∙ ap (λ v. goes_over n v (put (f us) r.0)) r.1 ∙ over_alike n s.before r.0 (f us) r.2 ∙ here)

  -- `ahead` is the tokens up to the limit and one more, of which `rest` are left; of all tokens `r` are
  module _ (tokens ahead rest r : List Token) (front : ahead ≡ take (suc n) tokens) where
    abbrev ts : List Tok
    ts = toks tokens

    abbrev us : List Tok
    us = toks ahead

    alike_toks : take (suc n) ts ≡ take (suc n) us
    alike_toks = sym (ap (take (suc n)) (ap toks front ∙ sym (take-map tok (suc n) tokens)) ∙ take-take (suc n) (suc n) (toks tokens) (omega arith))

    pub fits_so : (x : Read A) → f (toks ahead) ≡ x → rest_of x ≡ toks rest → goes_over n (toks ahead) x ≡ false → r ≡ drop (length ahead - length rest) tokens → up_to (Some n) f (toks tokens) ≡ put x (toks r)
    unfolding up_to
    fits_so x e l o d =
        let a = alike us ts alike_toks (ap (goes_over n us) e ∙ o) in
        let b = (stops us).before in
        let left : rest_of (f us) ≡ toks rest = ap (λ x. rest_of x) e ∙ l in
        let many : length ahead - length rest ≡ length b = omega (arith, length_toks ahead, length_toks rest, ap length left, ap length (stops us).cut, length-append b (rest_of (f us))) in
        let rest_is : toks r ≡ a.0 = ap toks d ∙ sym (drop-map tok (length ahead - length rest) tokens) ∙ ap (λ k. drop k ts) many ∙ ap (drop (length b)) a.1 ∙ drop-append_seam b a.0 in
        rw (a.3) (a.2 ∙ ap (λ x. put x a.0) e ∙ ap (put x) (sym rest_is))

    -- lists that are alike so far go over the limit both, or none
    pub over_so : (x : Read A) → f (toks ahead) ≡ x → goes_over n (toks ahead) x ≡ true → r ≡ drop n tokens → up_to (Some n) f (toks tokens) ≡ Err (too_deep, toks r)
    unfolding up_to
    over_so x e o d =
        let over : goes_over n ts (f ts) ≡ true = true_from_ne_false _ (λ q. let no : true ≡ false = sym (ap (goes_over n us) e ∙ o) ∙ (alike ts us (sym alike_toks) q).3 in cc) in
        rw over (ap (λ u. Err (too_deep, u)) (sym (ap toks d ∙ sym (drop-map tok n tokens))))

    -- no more are left than there were
    pub rest_short : (y : Fault) → f (toks ahead) ≡ Err (y, toks rest) → length rest ≤ length ahead
    rest_short y e = omega (arith, length_toks ahead, length_toks rest, ap length (stops us).cut, length-append (stops us).before (rest_of (f us)), ap (λ x. length (rest_of x)) e)
