-- What is read of the option for steps.
use Rattle.std.proofs.Common.{◌≡◌, ◌∙◌, ◌≤◌, ℕ, Bool, true, false, refl, sym, ap, subst, Option, Some, None, cond}
use Rattle.std.specs.Prelude.{Result, Ok, Err}
use Rattle.std.specs.Str.Parse.{ParsesUnsigned, digits_value, without_leading_plus}
use Rattle.clap.specs.Walk.{Text}
use Rattle.clap.specs.Matches.{TriesOne}
use Rattle.clap.specs.Values.{Accepts}
use Rattle.clap.specs.declared.builder.value_parser.ValueParser.TheVariants as vp
use Rattle.clap.proofs.ValueTestLemmas.{accepts-Accepts, Accepts-accepts}
use Rattle.arc_words.specs.Commands.{steps_in}

abbrev most : ℕ
most = 9223372036854775807

-- a text that passes says its number
passes : (t : Text) → Accepts false (vp.Unsigned 1 most) t → steps_in (Some t) ≡ Some (digits_value 10 (without_leading_plus t))
passes t h = ap (λ b. cond b (Some (digits_value 10 (without_leading_plus t))) None) (Accepts-accepts false (vp.Unsigned 1 most) t h)

is_false : (b : Bool) → (b ≡ true → ⊥) → b ≡ false
is_false true never = absurd (never refl)
is_false false never = refl

-- and one that doesn't says none
fails : (t : Text) → (Accepts false (vp.Unsigned 1 most) t → ⊥) → None ≡ steps_in (Some t)
fails t refused = sym (ap (λ b. cond b (Some (digits_value 10 (without_leading_plus t))) None) (is_false _ (λ e. refused (accepts-Accepts false (vp.Unsigned 1 most) t e))))

-- the number that was tried, by what clap's clauses say of it
module _ (E : Type 0) (G : Text → Result ℕ E → Type 0) (only : (u : Text) (x : Result ℕ E) → G u x → ParsesUnsigned 64 10 u x) where
  pub within : (o : Option Text) (r : Result (Option ℕ) E) → (o ≡ None → r ≡ Ok None) → ((t : Text) → o ≡ Some t → TriesOne G t r) → (n : ℕ) → r ≡ Ok (Some n) → 1 ≤ n → n ≤ most
      → Some n ≡ steps_in o
  within None r none tries n is low high = absurd (let bad : ◌≡◌ {A = Result (Option ℕ) E} (Ok (Some n)) (Ok None) = sym is ∙ none refl in cc)
  within (Some t) r none tries n is low high =
      let h = only t (Ok n) (subst (TriesOne G t) is (tries t refl)) in
      ap (λ k. Some k) h.1 ∙ sym (passes t (h.0.0, h.0.1, subst (λ k. 1 ≤ k) h.1 low, subst (λ k. k ≤ most) h.1 high))

  pub beyond : (o : Option Text) (r : Result (Option ℕ) E) → (o ≡ None → r ≡ Ok None) → ((t : Text) → o ≡ Some t → TriesOne G t r) → (n : ℕ) → r ≡ Ok (Some n) → (1 ≤ n → n ≤ most → ⊥)
      → None ≡ steps_in o
  beyond None r none tries n is out = absurd (let bad : ◌≡◌ {A = Result (Option ℕ) E} (Ok (Some n)) (Ok None) = sym is ∙ none refl in cc)
  beyond (Some t) r none tries n is out =
      let h = only t (Ok n) (subst (TriesOne G t) is (tries t refl)) in
      fails t (λ a. out (subst (λ k. 1 ≤ k) (sym h.1) a.2) (subst (λ k. k ≤ most) (sym h.1) a.3))

  pub absent : (o : Option Text) (r : Result (Option ℕ) E) → ((t : Text) → o ≡ Some t → TriesOne G t r) → r ≡ Ok None → Some 1000000000 ≡ steps_in o
  absent None r tries is = refl
  absent (Some t) r tries is = absurd (subst (TriesOne G t) is (tries t refl))

  pub unread : (o : Option Text) (r : Result (Option ℕ) E) → (o ≡ None → r ≡ Ok None) → ((t : Text) → o ≡ Some t → TriesOne G t r) → (e : E) → r ≡ Err e → None ≡ steps_in o
  unread None r none tries e is = absurd (let bad : ◌≡◌ {A = Result (Option ℕ) E} (Err e) (Ok None) = sym is ∙ none refl in cc)
  unread (Some t) r none tries e is = fails t (λ a. only t (Err e) (subst (TriesOne G t) is (tries t refl)) (a.0, a.1))
