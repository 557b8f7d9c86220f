-- Case analysis on a test: a fact holds if it holds where the test is true and where it is false.
use Rattle.std.proofs.Common.{◌≡◌, Bool, true, false, refl}

pub by_test : (P : Bool → Type 0) (t : Bool) → (t ≡ true → P true) → (t ≡ false → P false) → P t
by_test P true holds fails = holds refl
by_test P false holds fails = fails refl
