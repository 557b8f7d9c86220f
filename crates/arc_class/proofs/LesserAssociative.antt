-- The lesser of two by an order, which is associative.
use Rattle.std.proofs.Common.{◌≡◌, Bool, true, false, if◌then◌else◌, refl}

abbrev pub lesser : {A : Type 0} → (below : A → A → Bool) → A → A → A
lesser below a b = if below b a then b else a

pub lesser-assoc : {A : Type 0} (below : A → A → Bool) → ((a b c : A) → below b a ≡ true → below c b ≡ true → below c a ≡ true) → ((a b c : A) → below b a ≡ false → below c b ≡ false → below c a ≡ false)
    → (a b c : A) → lesser below (lesser below a b) c ≡ lesser below a (lesser below b c)
lesser-assoc below both none a b c = go (below b a) (below c b) refl refl
  where
    go : (p q : Bool) → below b a ≡ p → below c b ≡ q → lesser below (lesser below a b) c ≡ lesser below a (lesser below b c)
    go true true p q = rw (p, q, both a b c p q) refl
    go true false p q = rw (p, q, p) refl
    go false true p q = rw (p, q) refl
    go false false p q = rw (p, q, none a b c p q, p) refl
