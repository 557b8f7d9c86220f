-- Where a run of code is after some steps on an input.
use Rattle.std.specs.Prelude.{◌≡◌, ℕ, List, [], ◌++◌, Some, slice_get}
use Rattle.arc_spec.specs.declared.event.Event.{Event}
use Rattle.arc_spec.specs.SmallSteps.{Reached, Running, Ended, Faulted, Wedged, after_steps}
use Rattle.arc_code.specs.declared.instr.Op.TheVariants.{Alloc}
use Rattle.arc_code.specs.declared.instr.Instr.TheVariants.{Plain}
use Rattle.arc_code.specs.CodeSteps.{Program, State, start, step}
use Rattle.arc_steps.specs.Steps.{bytes_of}
use Rattle.arc_turns.specs.Runs.{IsAsking, IsWriting}

-- a run after so many steps
abbrev pub run_of : Program → (input : List ℕ) → (made : ℕ) → Reached State
run_of p input made = after_steps (step p) made (Running (start p) input [])

-- what it has left of its input
abbrev pub rest_of : {S : Type 0} → Reached S → List ℕ
rest_of (Running s i t) = i
rest_of (Ended n i t) = i
rest_of (Faulted f i t) = i
rest_of (Wedged i t) = i

-- In so many steps it has taken exactly these bytes: of an input that begins with them, what comes after them is left.
abbrev pub Takes : Program → (made : ℕ) → (taken rest : List ℕ) → Type 0
Takes p made taken rest = rest_of (run_of p (taken ++ rest) made) ≡ rest

-- it goes on at an instruction that makes an object
abbrev pub MakesObject : Program → Reached State → Type 0
MakesObject p (Running s i t) = slice_get p.instrs s.at ≡ Some (Plain Alloc)
MakesObject p _ = ⊥

-- it goes on at an instruction that reads a byte
abbrev pub ReadsByte : Program → Reached State → Type 0
ReadsByte p (Running s i t) = IsAsking (step p s)
ReadsByte p _ = ⊥

-- it goes on at an instruction that writes a further byte after these, or that reads one, before which what was written is passed on
abbrev pub WritesByte : Program → (part : List ℕ) → Reached State → Type 0
WritesByte p part (Running s i t) = (given : List Event) × (part ≡ bytes_of given) × IsWriting (step p s) given
WritesByte p part _ = ⊥
