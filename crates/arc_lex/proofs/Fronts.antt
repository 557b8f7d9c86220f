-- The longest token at the front, where that is an entry of a table, or else an unused word or mark.
use Rattle.std.proofs.Common.{◌≡◌, ◌≤◌, ◌⊎◌, inl, inr, ℕ, List, ◌++◌, length, Bool, true, Some, None, sym, ap, subst, ◌∙◌, arith, not, nat_eq}
use Rattle.std.specs.List.{Contains, starts_with}
use Rattle.arc_lex.specs.Source.{IsToken}
use Rattle.arc_lex.specs.Spellings.{unused}
use Rattle.arc_lex.specs.Tokens.{Sort}
use Rattle.arc_lex.specs.private.Pieces.{first_front, itself}
use Rattle.arc_lex.proofs.Tables.{nth, all_pass, passes, longest_first, front_longest, front_no_longer, front_begins}
use Rattle.arc_lex.proofs.Unused.{place_of, unused_longest_first}

module _ {A : Type 0} (bytes_of : A → List ℕ) (those : List A) (stands : (a : A) → (n : ℕ) × (nth n those ≡ Some a)) (ordered : longest_first bytes_of those ≡ true) where
  -- no unused one begins with an entry
  abbrev leads_none : A → Bool
  leads_none a = all_pass (λ u. not (starts_with nat_eq u (bytes_of a))) unused

  module _ (apart : all_pass leads_none those ≡ true) (xs : List ℕ) (which : (ys r : List ℕ) (o : Sort) → xs ≡ ys ++ r → IsToken ys o → ((a : A) × (ys ≡ bytes_of a)) ⊎ Contains unused ys) where
    pub entry_longest : (a : A) → first_front bytes_of those xs ≡ Some a → (ys r : List ℕ) (o : Sort) → xs ≡ ys ++ r → IsToken ys o → length ys ≤ length (bytes_of a)
    entry_longest a e ys r o c t = go (which ys r o c t)
      where
        go : ((b : A) × (ys ≡ bytes_of b)) ⊎ Contains unused ys → length ys ≤ length (bytes_of a)
        go (inl (b, same)) =
            let place = stands b in
            let k = front_longest bytes_of those place.0 xs r b ordered place.1 (c ∙ ap (λ us. us ++ r) same) in
            let found : Some a ≡ Some k.0 = sym e ∙ k.1 in
            let equal : a ≡ k.0 = cc in
            let short : length (bytes_of b) ≤ length (bytes_of a) = subst (λ u. length (bytes_of b) ≤ length (bytes_of u)) (sym equal) k.2 in
            omega (arith, short, ap length same)
        go (inr h) =
            let place = stands a in
            let other = place_of unused ys h in
            let free = passes (λ u. not (starts_with nat_eq u (bytes_of a))) unused other.0 ys (passes leads_none those place.0 a apart place.1) other.1 in
            front_no_longer xs (bytes_of a) ys r (front_begins bytes_of those xs a e) c free

    unused_front : (ys r : List ℕ) → xs ≡ ys ++ r → Contains unused ys → (u : List ℕ) × (first_front itself unused xs ≡ Some u) × (length ys ≤ length u)
    unused_front ys r c h = let (n, e) = place_of unused ys h in front_longest itself unused n xs r ys unused_longest_first e c

    no_entry : first_front bytes_of those xs ≡ None → (b : A) (r : List ℕ) → xs ≡ bytes_of b ++ r → ⊥
    no_entry none b r c = let place = stands b in let k = front_longest bytes_of those place.0 xs r b ordered place.1 c in let e = k.1 in cc

    pub unused_longest : first_front bytes_of those xs ≡ None → (u : List ℕ) → first_front itself unused xs ≡ Some u → (ys r : List ℕ) (o : Sort) → xs ≡ ys ++ r → IsToken ys o → length ys ≤ length u
    unused_longest none u e ys r o c t = go (which ys r o c t)
      where
        go : ((b : A) × (ys ≡ bytes_of b)) ⊎ Contains unused ys → length ys ≤ length u
        go (inl (b, same)) = absurd (no_entry none b r (c ∙ ap (λ us. us ++ r) same))
        go (inr h) =
            let (v, f, short) = unused_front ys r c h in
            let found : Some u ≡ Some v = sym e ∙ f in
            let equal : u ≡ v = cc in
            subst (λ w. length ys ≤ length w) (sym equal) short

    pub no_token : first_front bytes_of those xs ≡ None → first_front itself unused xs ≡ None → (ys r : List ℕ) (o : Sort) → xs ≡ ys ++ r → IsToken ys o → ⊥
    no_token none also ys r o c t = go (which ys r o c t)
      where
        go : ((b : A) × (ys ≡ bytes_of b)) ⊎ Contains unused ys → ⊥
        go (inl (b, same)) = no_entry none b r (c ∙ ap (λ us. us ++ r) same)
        go (inr h) = let (v, f, short) = unused_front ys r c h in cc
