-- Readers one after another, however they are put together.
use Rattle.std.proofs.Common.{◌≡◌, List, [], ◌∷◌, Bool, true, false, cond, Ok, Err, refl}
use Rattle.arc_lex.specs.Tokens.{Tok}
use Rattle.arc_form.specs.Kinds.{Kinds, is}
use Rattle.arc_form.specs.Reader.{Read, Reader, bind, ◌>>=◌, ret, taken, take_one}

pub bind_twice : {A B C : Type 0} (x : Read A) (f : A → Reader B) (g : B → Reader C) → bind (bind x f) g ≡ bind x (λ a us. bind (f a us) g)
bind_twice (Ok x) f g = refl
bind_twice (Err e) f g = refl

pub bind_if : {A B : Type 0} (b : Bool) (x y : Read A) (g : A → Reader B) → bind (cond b x y) g ≡ cond b (bind x g) (bind y g)
bind_if true x y g = refl
bind_if false x y g = refl

-- two readers, whose values are taken together and given on
pub pair_then : {A B C : Type 0} (x : Read A) (g : Reader B) (k : A × B → Reader C) → bind (bind x (λ a. g >>= (λ b. ret (a, b)))) k ≡ bind x (λ a. g >>= (λ b. k (a, b)))
pair_then x g k = simp bind_twice

-- and of which the second is given on
pub second_then : {A B C : Type 0} (x : Read A) (g : Reader B) (k : B → Reader C) → bind (bind {A = A × B} (bind x (λ a. g >>= (λ b. ret (a, b)))) (λ p. ret p.1)) k ≡ bind x (λ a. g >>= k)
second_then x g k = simp bind_twice

-- a token, and what is made of what it gives
pub take_as : {A B : Type 0} (T : Kinds) (g : Tok → A) (h : A → B) (ts : List Tok) → take_one T (λ t. h (g t)) ts ≡ bind (take_one T g ts) (λ a. ret (h a))
take_as T g h [] = refl
take_as T g h (t ∷ ts) = go (is T t)
  where
    go : (b : Bool) → taken b (λ t. h (g t)) t ts ≡ bind (taken b g t ts) (λ a. ret (h a))
    go true = refl
    go false = refl

-- readers of which each part reads alike
pub bind_alike : {A B : Type 0} (x : Read A) (f g : A → Reader B) → ((a : A) (us : List Tok) → f a us ≡ g a us) → bind x f ≡ bind x g
bind_alike (Ok x) f g k = k x.0 x.1
bind_alike (Err x) f g k = refl
