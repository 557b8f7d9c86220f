-- A flush after a text was written: both were done, or one of them failed.
use Rattle.std.proofs.Common.{◌≡◌, ℕ, ◌+◌, List, [], Option, Result, Ok, Err, OnOk, OnErr, ◌⊎◌, inl, inr, refl, sym, ap, ◌∙◌}
use Rattle.std.proofs.lemmas.List.{append-nil}
use Rattle.std.specs.Io.KnownBytes.{Keeps}
use Rattle.std.proofs.KnownBytes.{Appends-kept}
use Rattle.arc_code.specs.declared.code.IoFault.{IoFault}
use Rattle.arc_code.specs.declared.code.IoFault.TheVariants.{Write}
use Rattle.arc_code.specs.WrittenBytes.{Written, WrittenAndFlushed}

-- the text was written, and passed on, or the writer failed
pub and_flushed : (r : Result (Unit {0}) IoFault) (text : List ℕ) (h0 h1 h2 : Option (List ℕ)) (f0 f1 f2 : ℕ) (P F : Type 0) → Written (Ok tt) text h0 h1 f0 f1 F → Keeps h1 h2
    → OnOk r (f2 ≡ f1) → OnErr r (f2 ≡ f1 + 1) → OnErr r F → OnOk r P → (answer : Result (Unit {0}) IoFault) × WrittenAndFlushed answer text h0 h2 f0 f2 F × OnOk answer P
and_flushed (Ok u) text h0 h1 h2 f0 f1 f2 P F wrote kept fine rose failed passed = (Ok tt, (Appends-kept h0 h1 h2 text wrote.0 kept, fine ∙ wrote.1), passed)
and_flushed (Err e) text h0 h1 h2 f0 f1 f2 P F wrote kept fine rose failed passed =
    (Err Write, (refl, (text, [], sym (append-nil text), Appends-kept h0 h1 h2 text wrote.0 kept), rose ∙ ap (λ f. f + 1) wrote.1, failed), tt)

-- the text was written, and then the flush failed
pub flush_failed : (f : IoFault) (text : List ℕ) (h0 h1 h2 : Option (List ℕ)) (f0 f1 f2 : ℕ) (F : Type 0) → Written (Ok tt) text h0 h1 f0 f1 F → Keeps h1 h2 → f ≡ Write → f2 ≡ f1 + 1 → F → WrittenAndFlushed (Err f) text h0 h2 f0 f2 F
flush_failed f text h0 h1 h2 f0 f1 f2 F wrote kept is rose failed = (is, (text, [], sym (append-nil text), Appends-kept h0 h1 h2 text wrote.0 kept), rose ∙ ap (λ f. f + 1) wrote.1, failed)

-- a flush passed on what was written, or failed
pub passed_or_failed : (r : Result (Unit {0}) IoFault) (P F : Type 0) → OnOk r P → OnErr r F → P ⊎ F
passed_or_failed (Ok u) P F passed failed = inl passed
passed_or_failed (Err e) P F passed failed = inr failed
