-- Calls of a device that are made again where they were interrupted, at most 100 of them in a row, so RETRIES after the first.
-- That as many interruptions in a row are a failure is this project's own choice.
use Rattle.std.specs.Prelude.{◌≡◌, ◌⊎◌, ℕ, zero, suc, ◌+◌, ◌<◌, ◌≤◌, List, length, drop, Option, ⊤}
use Rattle.arc_code.specs.declared.counted.TheConstants.{RETRIES}
use Rattle.arc_code.specs.declared.device.Attempt.{Attempt}
use Rattle.arc_code.specs.declared.device.Attempt.TheVariants.{Done, Interrupted}
use Rattle.arc_code.specs.DeviceCalls.{IsUndone}

-- so many calls in a row were interrupted
abbrev pub Interruptions : {T A : Type 0} → (call : T → Attempt A → T → Type 0) → ℕ → (old new : T) → Type 0
Interruptions call zero old new = new ≡ old
Interruptions {T} call (suc n) old new = (between : T) × Interruptions call n old between × call between Interrupted new

-- What came of the calls: the first one that isn't interrupted decides, or else the last one.
pub record Tried {T A : Type 0} (call : T → Attempt A → T → Type 0) (old : T) (answer : Attempt A) (new : T) : Type 0 where
  pub interrupted : ℕ
  pub few : interrupted ≤ RETRIES
  pub before : T
  pub interruptions : Interruptions call interrupted old before
  pub decides : call before answer new
  pub last : answer ≡ Interrupted → interrupted ≡ RETRIES

-- ---- failures: an error that is no interruption, 100 interruptions, and a write that takes no byte

-- a write isn't done, or took no byte
abbrev pub IsFailedWrite : Attempt ℕ → Type 0
IsFailedWrite (Done (suc n)) = ⊥
IsFailedWrite _ = ⊤

-- calls failed, which left the device so
abbrev pub Fails : {T A : Type 0} → (call : T → Attempt A → T → Type 0) → (old new : T) → Type 0
Fails {T} {A} call old new = (answer : Attempt A) × IsUndone answer × Tried call old answer new

-- a write of some bytes, of which there is one at least
abbrev pub FailsToWrite : {T : Type 0} → (writes : List ℕ → T → Attempt ℕ → T → Type 0) → (bytes : List ℕ) → (old new : T) → Type 0
FailsToWrite writes bytes old new = (0 < length bytes) × (answer : Attempt ℕ) × IsFailedWrite answer × Tried (writes bytes) old answer new

-- the device is as a failed read left it
abbrev pub HasFailedToRead : {T : Type 0} → (reads : T → Attempt (Option ℕ) → T → Type 0) → T → Type 0
HasFailedToRead {T} reads new = (old : T) × Fails reads old new

-- the device is as a failed write of some bytes left it, or a failed flush
abbrev pub HasFailedToWrite : {T : Type 0} → (writes : List ℕ → T → Attempt ℕ → T → Type 0) → (flushes : T → Attempt (Unit {0}) → T → Type 0) → T → Type 0
HasFailedToWrite {T} writes flushes new = ((old : T) × (bytes : List ℕ) × FailsToWrite writes bytes old new) ⊎ ((old : T) × Fails flushes old new)

-- the device is as a flush left it that was done: what was written before it is passed on
abbrev pub HasPassedOn : {T : Type 0} → (flushes : T → Attempt (Unit {0}) → T → Type 0) → T → Type 0
HasPassedOn {T} flushes new = (old : T) × Tried flushes old (Done tt) new

-- ---- all bytes

-- of these bytes so many first ones were taken in so many writes, each of which offers all that are left and takes one byte at least
abbrev pub Takings : {T : Type 0} → (writes : List ℕ → T → Attempt ℕ → T → Type 0) → (bytes : List ℕ) → (times : ℕ) → (old : T) → (taken : ℕ) → (new : T) → Type 0
Takings writes bytes zero old taken new = (taken ≡ 0) × (new ≡ old)
Takings {T} writes bytes (suc times) old taken new =
    (between : T) × (fewer more : ℕ) × (taken ≡ fewer + suc more) × Takings writes bytes times old fewer between × Tried (writes (drop fewer bytes)) between (Done (suc more)) new

-- of these bytes so many first ones were taken
abbrev pub Took : {T : Type 0} → (writes : List ℕ → T → Attempt ℕ → T → Type 0) → (bytes : List ℕ) → (old : T) → (taken : ℕ) → (new : T) → Type 0
Took writes bytes old taken new = (times : ℕ) × Takings writes bytes times old taken new

-- so many first ones were taken, and then a write of the others failed
abbrev pub TookPart : {T : Type 0} → (writes : List ℕ → T → Attempt ℕ → T → Type 0) → (bytes : List ℕ) → (old : T) → (taken : ℕ) → (new : T) → Type 0
TookPart {T} writes bytes old taken new = (between : T) × Took writes bytes old taken between × FailsToWrite writes (drop taken bytes) between new
