-- Writes compose: bytes that are written in several calls, of which one may fail.
use Rattle.std.proofs.Common.{◌≡◌, IsErrAnd, arith, ℕ, ◌+◌, ◌<◌, List, [], ◌∷◌, ◌++◌, Option, Result, Ok, Err, refl, append_assoc, length, take, drop, get_or, take-append-drop}
use Rattle.std.proofs.lemmas.List.{drop_more}
use Rattle.std.specs.Io.KnownBytes.{Appends}
use Rattle.std.proofs.KnownBytes.{Appends-nil, Appends-trans}
use Rattle.arc_code.specs.declared.code.IoFault.{IoFault}
use Rattle.arc_code.specs.declared.code.IoFault.TheVariants.{Write}
use Rattle.arc_code.specs.CountedDevices.{AppendsLess}
use Rattle.arc_code.specs.WrittenBytes.{Written, WrittenAndFlushed}

-- some first bytes are a part, where a byte is left
pub front_part : (h0 h1 : Option (List ℕ)) (n : ℕ) (bytes : List ℕ) → n < length bytes → Appends h0 h1 (take n bytes) → AppendsLess h0 h1 bytes
front_part h0 h1 n bytes within wrote = (take n bytes, drop (n + 1) bytes, get_or bytes n 0, grind (arith, take-append-drop, drop_more), wrote)

module _ (e : IoFault) (h0 h1 : Option (List ℕ)) (f0 f1 : ℕ) (F : Type 0) where
  -- where the first bytes were not all written, the later ones don't matter
  pub wider : (xs ys : List ℕ) → Written (Err e) xs h0 h1 f0 f1 F → Written (Err e) (xs ++ ys) h0 h1 f0 f1 F
  wider xs ys (write, (part, rest, next, split, wrote), rose, failed) = (write, (part, rest ++ ys, next, simp (split, append_assoc), wrote), rose, failed)

  -- before a flush the device failed
  pub not_flushed : (bytes : List ℕ) → Written (Err e) bytes h0 h1 f0 f1 F → WrittenAndFlushed (Err e) bytes h0 h1 f0 f1 F
  not_flushed bytes (write, (part, rest, next, split, wrote), rose, failed) = (write, (part, next ∷ rest, split, wrote), rose, failed)

  -- bytes in four parts, of which the first ones were written
  module _ (a b c z : List ℕ) where
    pub third_failed : Written (Err e) ((a ++ b) ++ c) h0 h1 f0 f1 F → Written (Err e) (((a ++ b) ++ c) ++ z) h0 h1 f0 f1 F
    third_failed w = wider ((a ++ b) ++ c) z w

    pub second_failed : Written (Err e) (a ++ b) h0 h1 f0 f1 F → Written (Err e) (((a ++ b) ++ c) ++ z) h0 h1 f0 f1 F
    second_failed w = third_failed (wider (a ++ b) c w)

    pub first_failed : Written (Err e) a h0 h1 f0 f1 F → Written (Err e) (((a ++ b) ++ c) ++ z) h0 h1 f0 f1 F
    first_failed w = second_failed (wider a b w)

-- a function answers the failure of what it calls
pub answered : (r : Result (Unit {0}) IoFault) (e : IoFault) (h0 h1 : Option (List ℕ)) (f0 f1 : ℕ) (F : Type 0) (bytes : List ℕ) → IsErrAnd r (λ y. y ≡ e) → Written (Err e) bytes h0 h1 f0 f1 F → Written r bytes h0 h1 f0 f1 F
answered r e h0 h1 f0 f1 F bytes same w = search arith

-- it stops there, where the next bytes were to be written
pub stops : (r : Result (Unit {0}) IoFault) (e : IoFault) (h0 h1 : Option (List ℕ)) (f0 f1 : ℕ) (F : Type 0) (x : ℕ) (xs ys : List ℕ) → AppendsLess h0 h1 (x ∷ xs) → f1 ≡ f0 + 1 → F → e ≡ Write
    → IsErrAnd r (λ y. y ≡ e) → Written r (x ∷ (xs ++ ys)) h0 h1 f0 f1 F
stops r e h0 h1 f0 f1 F x xs ys part rose failed is same = answered r e h0 h1 f0 f1 F (x ∷ (xs ++ ys)) same (wider e h0 h1 f0 f1 F (x ∷ xs) ys (is, part, rose, failed))

-- bytes after bytes that were written
pub then_written : (r : Result (Unit {0}) IoFault) (h0 h1 h2 : Option (List ℕ)) (f0 f1 f2 : ℕ) (F : Type 0) (xs ys : List ℕ) → Written (Ok tt) xs h0 h1 f0 f1 F → Written r ys h1 h2 f1 f2 F
    → Written r (xs ++ ys) h0 h2 f0 f2 F
then_written r h0 h1 h2 f0 f1 f2 F xs ys first more = search (arith, Appends-trans, append_assoc)

-- the same of bytes that are these
pub joined : (r : Result (Unit {0}) IoFault) (h0 h1 h2 : Option (List ℕ)) (f0 f1 f2 : ℕ) (F : Type 0) (xs ys all : List ℕ) → Written (Ok tt) xs h0 h1 f0 f1 F → Written r ys h1 h2 f1 f2 F
    → all ≡ xs ++ ys → Written r all h0 h2 f0 f2 F
joined r h0 h1 h2 f0 f1 f2 F xs ys all first more is = rw is (then_written r h0 h1 h2 f0 f1 f2 F xs ys first more)

pub then_ok : (h0 h1 h2 : Option (List ℕ)) (f0 f1 f2 : ℕ) (F : Type 0) (xs ys : List ℕ) → Written (Ok tt) xs h0 h1 f0 f1 F → Written (Ok tt) ys h1 h2 f1 f2 F → Written (Ok tt) (xs ++ ys) h0 h2 f0 f2 F
then_ok = then_written (Ok tt)

pub then_failed : (e : IoFault) (h0 h1 h2 : Option (List ℕ)) (f0 f1 f2 : ℕ) (F : Type 0) (xs ys : List ℕ) → Written (Ok tt) xs h0 h1 f0 f1 F → Written (Err e) ys h1 h2 f1 f2 F → Written (Err e) (xs ++ ys) h0 h2 f0 f2 F
then_failed e = then_written (Err e)

-- no byte yet
pub none_written : (h : Option (List ℕ)) (f : ℕ) (F : Type 0) → Written (Ok tt) [] h h f f F
none_written h f F = (Appends-nil h, refl)
