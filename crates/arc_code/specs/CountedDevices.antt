-- What a counted reader has left, what a counted writer holds, and how they change.
use Rattle.std.specs.Prelude.{◌≡◌, ℕ, Bool, false, List, [], ◌∷◌, ◌++◌, None, Some, Option, if◌then◌else◌}
use Rattle.std.specs.Io.KnownBytes.{Appends, Consumes, IsAtEnd}
use Rattle.arc_code.specs.declared.counted.Counted.{Counted}

-- how often a device has failed, and the device
abbrev pub failures_of : {T : Type 0} → Counted T → ℕ
failures_of c = c.failures

abbrev pub inner_of : {T : Type 0} → Counted T → T
inner_of c = c.inner

-- the reader has answered the end
abbrev pub has_ended : {T : Type 0} → Counted T → Bool
has_ended c = c.at_end

-- no failure yet, and no end
abbrev pub fresh : {T : Type 0} → T → Counted T
fresh inner = record { inner = inner; failures = 0; at_end = false }

-- the known bytes that a reader has left: none, once it has answered the end
abbrev pub left_in : {T : Type 0} → (T → Option (List ℕ)) → Counted T → Option (List ℕ)
left_in remaining c = if c.at_end then Some [] else remaining c.inner

-- the known bytes that a writer holds
abbrev pub held_by : {T : Type 0} → (T → Option (List ℕ)) → Counted T → Option (List ℕ)
held_by contents c = contents c.inner

-- the next byte was taken; or there was none, and there is none from now on
abbrev pub Answers : Option (List ℕ) → Option ℕ → Option (List ℕ) → Type 0
Answers old (Some b) new = Consumes old new (b ∷ [])
Answers old None new = IsAtEnd old × (new ≡ Some [])

-- known bytes grow by some first ones of these, and not by all: there is a further one
abbrev pub AppendsLess : Option (List ℕ) → Option (List ℕ) → List ℕ → Type 0
AppendsLess old new bytes = (part rest : List ℕ) × (next : ℕ) × (bytes ≡ part ++ next ∷ rest) × Appends old new part

-- known bytes grow by some first ones of these, or by all
abbrev pub AppendsPart : Option (List ℕ) → Option (List ℕ) → List ℕ → Type 0
AppendsPart old new bytes = (part rest : List ℕ) × (bytes ≡ part ++ rest) × Appends old new part
