-- Loops that join one thing more, whatever it is, to what there is, and those that fill a list.
use Rattle.std.proofs.Common.{◌≡◌, List, Ok, Err, cond, refl, sym, ap, ◌∙◌, [], ◌∷◌, ◌++◌, append_assoc, append-nil}
use Rattle.arc_lex.specs.Tokens.{Tok}
use Rattle.arc_form.specs.Kinds.{Kinds}
use Rattle.arc_form.specs.Operators.{fold}
use Rattle.arc_form.specs.Reader.{Read, Reader, bind, ◌>>=◌, ret, sees, if_sees, loop}
use Rattle.arc_form.proofs.Binding.{bind_twice, bind_if}
use Rattle.arc_form.proofs.Local.{Takes, loop_turn}
use Rattle.arc_form.specs.Joining.{joining}
use Rattle.arc_form.specs.Views.{all}

module _ {A B : Type 0} (T : Kinds) (f : Reader A) (join : B → A → B) (front : Takes 1 f) where
  -- one more is joined, or there is none
  pub joining_is : (b : B) (us : List Tok) → joining T f join b us ≡ if_sees T (f >>= (λ a. joining T f join (join b a))) (ret b) us
  joining_is b us = rw (loop_turn T front us) (simp (bind_if, bind_twice))

  -- the same, where what is joined is given to what is there
  abbrev pub joined : B → Reader B
  joined b us = bind {A = B → B} (bind (loop T f us) (λ all. ret (λ left. fold join left all))) (λ make. ret (make b))

  pub joined_is : (b : B) (us : List Tok) → joined b us ≡ if_sees T (f >>= (λ a. joined (join b a))) (ret b) us
  joined_is b us = bind_twice (loop T f us) (λ all. ret (λ left. fold join left all)) (λ make. ret (make b)) ∙ joining_is b us ∙ ap (λ y. cond (sees T us) y (ret b us)) (elim (f us) as (λ (x : Read A). bind x (λ a. joining T f join (join b a)) ≡ bind x (λ a. joined (join b a)))
      [ Ok x ↦ sym (bind_twice (loop T f x.1) (λ all. ret (λ left. fold join left all)) (λ make. ret (make (join b x.0)))) | Err x ↦ refl ])

abbrev pub push : {T : Type 0} → List T → T → List T
push made t = made ++ t ∷ []

pub all_push : {A T : Type 0} (tree : A → T) (made : List A) (a : A) → all tree (made ++ a ∷ []) ≡ all tree made ++ tree a ∷ []
all_push tree [] a = refl
all_push tree (b ∷ made) a = ap (λ v. tree b ∷ v) (all_push tree made a)

pub fold_push : {T : Type 0} (made others : List T) → fold push made others ≡ made ++ others
fold_push made [] = sym (append-nil made)
fold_push made (t ∷ others) = fold_push (made ++ t ∷ []) others ∙ append_assoc made (t ∷ []) others

-- what a loop reads is joined to nothing, one by one
pub row_start : {T : Type 0} (K : Kinds) (f : Reader T) (us : List Tok) → loop K f us ≡ joining K f push [] us
row_start {T} K f us = elim (loop K f us) as (λ (x : Read (List T)). x ≡ bind x (λ others. ret (fold push [] others))) [ Ok x ↦ ap (λ v. Ok (v, x.1)) (sym (fold_push [] x.0)) | Err x ↦ refl ]
