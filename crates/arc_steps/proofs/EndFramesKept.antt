-- A frame that is the end of an object stays a valid one where objects are changed or made.
use Rattle.std.proofs.Common.{◌≡◌, ◌≢◌, ℕ, zero, suc, List, [], ◌∷◌, ◌++◌, drop, Option, Some, None, refl, sym, ap, ◌∙◌, subst}
use Rattle.std.specs.Prelude.{All, slice_get, slice_set}
use Rattle.std.proofs.lemmas.List.Elements.{All-nil, All-cons, All-head, All-tail}
use Rattle.arc_spec.specs.Classes.{Class, field_order}
use Rattle.arc_spec.specs.Objects.{Object, Live, Dying, Emptying, object_at}
use Rattle.arc_spec.specs.HolderCounts.{ReturnFrame, Calling, Ending, Clearing}
use Rattle.arc_cells.specs.Representation.{IsDying, IsEmptying, EndsOther, Ends}

-- ---- what holds of an object

module _ (P : Option Object → Type 0) where
  fact_set : (xs : List Object) (k : ℕ) (x : Object) (j : ℕ) → (P (slice_get xs k) → P (Some x)) → P (slice_get xs j) → P (slice_get (slice_set xs k x) j)
  fact_set [] k x j turn h = h
  fact_set (y ∷ xs) zero x zero turn h = turn h
  fact_set (y ∷ xs) zero x (suc j) turn h = h
  fact_set (y ∷ xs) (suc k) x zero turn h = h
  fact_set (y ∷ xs) (suc k) x (suc j) turn h = fact_set xs k x j turn h

  fact_at_set : (xs : List Object) (k : ℕ) (x : Object) (o : ℕ) → (P (slice_get xs k) → P (Some x)) → P (object_at xs o) → P (object_at (slice_set xs k x) o)
  fact_at_set xs k x zero turn h = h
  fact_at_set xs k x (suc j) turn h = fact_set xs k x j turn h

  fact_else : (xs : List Object) (k : ℕ) (x : Object) (j : ℕ) → j ≢ k → P (slice_get xs j) → P (slice_get (slice_set xs k x) j)
  fact_else [] k x j other h = h
  fact_else (y ∷ xs) zero x zero other h = absurd (other refl)
  fact_else (y ∷ xs) zero x (suc j) other h = h
  fact_else (y ∷ xs) (suc k) x zero other h = h
  fact_else (y ∷ xs) (suc k) x (suc j) other h = fact_else xs k x j (λ same. other (ap suc same)) h

  fact_at_else : (xs : List Object) (k : ℕ) (x : Object) (o : ℕ) → o ≢ suc k → P (object_at xs o) → P (object_at (slice_set xs k x) o)
  fact_at_else xs k x zero other h = h
  fact_at_else xs k x (suc j) other h = fact_else xs k x j (λ same. other (ap suc same)) h

  fact_more : (P None → ⊥) → (xs more : List Object) (j : ℕ) → P (slice_get xs j) → P (slice_get (xs ++ more) j)
  fact_more none [] more j h = absurd (none h)
  fact_more none (x ∷ xs) more zero h = h
  fact_more none (x ∷ xs) more (suc j) h = fact_more none xs more j h

  fact_at_more : (P None → ⊥) → (xs more : List Object) (o : ℕ) → P (object_at xs o) → P (object_at (xs ++ more) o)
  fact_at_more none xs more zero h = absurd (none h)
  fact_at_more none xs more (suc j) h = fact_more none xs more j h

-- an object that is as far, and of the same class
abbrev pub IsAsFar : Object → Option Object → Type 0
IsAsFar x found = (o : Object) → found ≡ Some o → (x.phase ≡ o.phase) × (x.class ≡ o.class)

dying_same : (found : Option Object) (x : Object) → IsAsFar x found → IsDying found → IsDying (Some x)
dying_same None x same h = absurd h
dying_same (Some o) x same h = (same o refl).0 ∙ h

emptying_same : (classes : List Class) (fields : List ℕ) (found : Option Object) (x : Object) → IsAsFar x found → IsEmptying classes fields found → IsEmptying classes fields (Some x)
emptying_same classes fields None x same h = absurd h
emptying_same classes fields (Some o) x same h = ((same o refl).0 ∙ h.0, h.1, h.2 ∙ ap (λ c. drop h.1 (field_order classes c)) (sym (same o refl).1))

module _ (classes : List Class) where
  -- one object is another now, which is as far
  pub ends_set : (objects : List Object) (k : ℕ) (x : Object) (frames : List ReturnFrame) → IsAsFar x (slice_get objects k) → Ends classes objects frames → Ends classes (slice_set objects k x) frames
  ends_set objects k x [] same h = tt
  ends_set objects k x (Calling back w ∷ others) same h = ends_set objects k x others same h
  ends_set objects k x (Ending back w o next left ∷ others) same h = (fact_at_set IsDying objects k x o (dying_same (slice_get objects k) x same) h.0, h.1, ends_set objects k x others same h.2)
  ends_set objects k x (Clearing back w o fields ∷ others) same h = (fact_at_set (IsEmptying classes fields) objects k x o (emptying_same classes fields (slice_get objects k) x same) h.0, h.1, ends_set objects k x others same h.2)

  -- one object that has no end there is another now
  pub ends_else : (objects : List Object) (k : ℕ) (x : Object) (frames : List ReturnFrame) → All (EndsOther (suc k)) frames → Ends classes objects frames → Ends classes (slice_set objects k x) frames
  ends_else objects k x [] others h = tt
  ends_else objects k x (Calling back w ∷ frames) others h = ends_else objects k x frames (All-tail (EndsOther (suc k)) (Calling back w) frames others) h
  ends_else objects k x (Ending back w o next left ∷ frames) others h = (
    fact_at_else IsDying objects k x o (All-head (EndsOther (suc k)) (Ending back w o next left) frames others) h.0,
    h.1,
    ends_else objects k x frames (All-tail (EndsOther (suc k)) (Ending back w o next left) frames others) h.2,
  )
  ends_else objects k x (Clearing back w o fields ∷ frames) others h = (
    fact_at_else (IsEmptying classes fields) objects k x o (All-head (EndsOther (suc k)) (Clearing back w o fields) frames others) h.0,
    h.1,
    ends_else objects k x frames (All-tail (EndsOther (suc k)) (Clearing back w o fields) frames others) h.2,
  )

  -- further objects were made
  pub ends_more : (objects more : List Object) (frames : List ReturnFrame) → Ends classes objects frames → Ends classes (objects ++ more) frames
  ends_more objects more [] h = tt
  ends_more objects more (Calling back w ∷ others) h = ends_more objects more others h
  ends_more objects more (Ending back w o next left ∷ others) h = (fact_at_more IsDying (λ none. none) objects more o h.0, h.1, ends_more objects more others h.2)
  ends_more objects more (Clearing back w o fields ∷ others) h = (fact_at_more (IsEmptying classes fields) (λ none. none) objects more o h.0, h.1, ends_more objects more others h.2)

  live_differs : (objects : List Object) (k o : ℕ) (x : Object) → slice_get objects k ≡ Some x → x.phase ≡ Live → IsDying (object_at objects o) → o ≢ suc k
  live_differs objects k o x there live dying same =
      let at_k : IsDying (object_at objects (suc k)) = subst (λ o. IsDying (object_at objects o)) same dying in
      let is : x.phase ≡ Dying = subst IsDying there at_k in
      let both : Live ≡ Dying = sym live ∙ is in
      absurd (cc)

  live_stays : (fields : List ℕ) (objects : List Object) (k o : ℕ) (x : Object) → slice_get objects k ≡ Some x → x.phase ≡ Live → IsEmptying classes fields (object_at objects o) → o ≢ suc k
  live_stays fields objects k o x there live emptying same =
      let at_k : IsEmptying classes fields (object_at objects (suc k)) = subst (λ o. IsEmptying classes fields (object_at objects o)) same emptying in
      let is : IsEmptying classes fields (Some x) = subst (IsEmptying classes fields) there at_k in
      let both : Live ≡ Emptying = sym live ∙ is.0 in
      absurd (cc)

  -- an object whose dealloc hasn't begun has no end there
  pub live_unended : (objects : List Object) (k : ℕ) (x : Object) (frames : List ReturnFrame) → slice_get objects k ≡ Some x → x.phase ≡ Live → Ends classes objects frames → All (EndsOther (suc k)) frames
  live_unended objects k x [] there live h = All-nil (EndsOther (suc k))
  live_unended objects k x (Calling back w ∷ others) there live h = All-cons (EndsOther (suc k)) (Calling back w) others tt (live_unended objects k x others there live h)
  live_unended objects k x (Ending back w o next left ∷ others) there live h =
      All-cons (EndsOther (suc k)) (Ending back w o next left) others (live_differs objects k o x there live h.0) (live_unended objects k x others there live h.2)
  live_unended objects k x (Clearing back w o fields ∷ others) there live h =
      All-cons (EndsOther (suc k)) (Clearing back w o fields) others (live_stays fields objects k o x there live h.0) (live_unended objects k x others there live h.2)
