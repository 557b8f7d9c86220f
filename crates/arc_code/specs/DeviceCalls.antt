-- What one call of a device does to the bytes that it has left, or holds.
use Rattle.std.specs.Prelude.{ℕ, ◌≤◌, List, [], ◌∷◌, length, take, Option, Some, None, ⊤}
use Rattle.std.specs.Io.KnownBytes.{Appends, Consumes, IsAtEnd, Keeps}
use Rattle.arc_code.specs.declared.device.Attempt.{Attempt}
use Rattle.arc_code.specs.declared.device.Attempt.TheVariants.{Done}

-- A read gave the next byte, or none at the end; where it isn't done, nothing was taken.
abbrev pub Gives : Attempt (Option ℕ) → (old new : Option (List ℕ)) → Type 0
Gives (Done (Some b)) old new = Consumes old new (b ∷ [])
Gives (Done None) old new = IsAtEnd new × Consumes old new []
Gives _ old new = Keeps old new

-- A write took so many first ones of these bytes; where it isn't done, it took none.
abbrev pub Takes : Attempt ℕ → (bytes : List ℕ) → (old new : Option (List ℕ)) → Type 0
Takes (Done n) bytes old new = (n ≤ length bytes) × Appends old new (take n bytes)
Takes _ bytes old new = Keeps old new

-- the call isn't done
abbrev pub IsUndone : {A : Type 0} → Attempt A → Type 0
IsUndone (Done x) = ⊥
IsUndone _ = ⊤
