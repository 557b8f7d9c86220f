-- What a call that writes these bytes does to the known bytes of a writer and to its failures.
use Rattle.std.specs.Prelude.{◌≡◌, ℕ, ◌+◌, List, Option, Result, Ok, Err}
use Rattle.std.specs.Io.KnownBytes.{Appends}
use Rattle.arc_code.specs.declared.code.IoFault.{IoFault}
use Rattle.arc_code.specs.declared.code.IoFault.TheVariants.{Write}
use Rattle.arc_code.specs.CountedDevices.{AppendsLess, AppendsPart}

-- all of them were written; or some first ones and not all, the failures rose by one, and the device has failed
abbrev pub Written : Result (Unit {0}) IoFault → (bytes : List ℕ) → (held0 held1 : Option (List ℕ)) → (failures0 failures1 : ℕ) → (has_failed : Type 0) → Type 0
Written (Ok _) bytes h0 h1 f0 f1 failed = Appends h0 h1 bytes × (f1 ≡ f0)
Written (Err fault) bytes h0 h1 f0 f1 failed = (fault ≡ Write) × AppendsLess h0 h1 bytes × (f1 ≡ f0 + 1) × failed

-- They were written, and then flushed: all of them were written; or some first ones, which may be all, since a flush may fail, the failures rose by one, and the device has failed
abbrev pub WrittenAndFlushed : Result (Unit {0}) IoFault → (bytes : List ℕ) → (held0 held1 : Option (List ℕ)) → (failures0 failures1 : ℕ) → (has_failed : Type 0) → Type 0
WrittenAndFlushed (Ok _) bytes h0 h1 f0 f1 failed = Appends h0 h1 bytes × (f1 ≡ f0)
WrittenAndFlushed (Err fault) bytes h0 h1 f0 f1 failed = (fault ≡ Write) × AppendsPart h0 h1 bytes × (f1 ≡ f0 + 1) × failed
