-- Where a comment ends.
use Rattle.std.proofs.Common.{◌≡◌, ◌≤◌, ℕ, ◌+◌, List, [], ◌∷◌, length, Bool, true, false, cond, ◌&&◌, nat_eq, Option, Some, None, option_map, refl, arith}
use Rattle.arc_lex.specs.Source.{to_close}

-- so many more, if there is a number
abbrev pub plus : ℕ → Option ℕ → Option ℕ
plus i None = None
plus i (Some n) = Some (i + n)

pub close_within : (star : Bool) (bs : List ℕ) (n : ℕ) → to_close star bs ≡ Some n → n ≤ length bs
close_within star [] n e = cc
close_within star (b ∷ bs) n e = go (star && nat_eq b 47) (to_close (nat_eq b 42) bs) (close_within (nat_eq b 42) bs) e
  where
    go : (t : Bool) (o : Option ℕ) → ((k : ℕ) → o ≡ Some k → k ≤ length bs) → cond t (Some 1) (option_map (λ n. n + 1) o) ≡ Some n → n ≤ length (b ∷ bs)
    go true o h e = let k : 1 ≡ n = cc in omega (arith, k)
    go false None h e = cc
    go false (Some j) h e = let k : j + 1 ≡ n = cc in let l = h j refl in omega (arith, k, l)
