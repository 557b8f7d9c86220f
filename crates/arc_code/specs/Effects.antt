-- When a step takes and gives what the table of instructions says; what a table of heights says of the instructions of a program, so that no run has more.
use Rattle.std.specs.Prelude.{◌≡◌, ◌≤◌, ℕ, suc, ◌+◌, ◌-◌, ◌*◌, List, [], length, Option, Some, slice_get}
use Rattle.arc_ast.specs.declared.tree.Sign.{Sign}
use Rattle.arc_spec.specs.declared.class.Gives.{Gives}
use Rattle.arc_spec.specs.declared.class.Gives.TheVariants as gives
use Rattle.arc_spec.specs.Classes.{lookup}
use Rattle.arc_spec.specs.declared.limits.TheConstants.{MOST_LEVELS}
use Rattle.arc_spec.specs.SmallSteps.{Next, Goes, Asks, Ends, Faults, Stuck, Reached, Running, Ended, Faulted, Wedged, after_steps}
use Rattle.arc_code.specs.declared.instr.Instr.{Instr}
use Rattle.arc_code.specs.declared.instr.Instr.TheVariants.{Plain, PrintText, Jump, JumpZero, Call, Send, SendSuper, SendTo, SendToSuper, StoreStrong, StoreGlobal, StoreField, Empty, DropAll, Settle, Give, Return, EndStep}
use Rattle.arc_spec.specs.HolderCounts.{stacked}
use Rattle.arc_code.specs.Instructions.{Program, State, start, step}
pub use Rattle.arc_code.specs.declared.effect.Effect.{Effect}
pub use Rattle.arc_code.specs.declared.effect.Height.{Height}
pub use Rattle.arc_code.specs.InstructionTable.{of_names, on_numbers, on_names, as_number, as_object, giving, operation_effect, passes, effect}

-- from one state to another, at the next instruction of the running function, there are as many numbers, references and places more or less as an effect says
pub record Follows (e : Effect) (s t : State) : Type 0 where
  pub numbers : length t.stack + e.numbers_taken ≡ length s.stack + e.numbers_given
  pub names : length t.held.names + e.names_taken ≡ length s.held.names + e.names_given
  pub temporaries : length t.held.temporaries ≡ length s.held.temporaries + e.temporaries
  pub variables : length t.held.variables ≡ length s.held.variables + e.variables
  pub places : t.held.places ≡ s.held.places
  pub at : t.at ≡ s.at + 1
  pub frames : t.frames ≡ s.frames

-- a fact of each state to which a step may lead
abbrev pub After : {S : Type 0} → (S → Type 0) → Next S → Type 0
After P (Goes s events) = P s
After P (Asks go) = (answer : Option ℕ) → P (go answer)
After P (Ends n) = Unit {0}
After P (Faults f) = Unit {0}
After P Stuck = Unit {0}

-- a function that has nothing yet
abbrev pub no_height : Height
no_height = record { numbers = 0; names = 0; temporaries = 0; variables = 0 }

-- what an effect leaves of the one height is within the other
pub record FitsBetween (before after : Height) (e : Effect) : Type 0 where
  pub numbers : before.numbers + e.numbers_given ≤ after.numbers + e.numbers_taken
  pub names : before.names + e.names_given ≤ after.names + e.names_taken
  pub temporaries : before.temporaries + e.temporaries ≤ after.temporaries
  pub variables : before.variables + e.variables ≤ after.variables

-- A table says how many numbers, references and places the running function has at most before the instruction with a number.
module _ {J F T : Type 0} (p : Program J F T) (height : ℕ → Height) where
  -- what an instruction leaves of the one height is within the other
  abbrev pub FitsFrom : (before after : Height) → Instr J F T → Type 0
  FitsFrom before after x = FitsBetween before after (effect x)

  -- what an instruction leaves is within the table there
  abbrev pub FitsTo : (pc to : ℕ) → Instr J F T → Type 0
  FitsTo pc to x = FitsFrom (height pc) (height to) x

  -- the same at the next instruction, where a call has given a number or an object
  abbrev pub FitsCall : (pc : ℕ) → Effect → Type 0
  FitsCall pc e = FitsBetween (height pc) (height (pc + 1)) e × ((e.numbers_given ≤ (height (pc + 1)).numbers) × (e.names_given ≤ (height (pc + 1)).names))

  abbrev pub FitsMessage : (pc : ℕ) → Instr J F T → Type 0
  FitsMessage pc x = FitsCall pc (effect x)

  -- What the table says of the instruction with a number. A call takes the variables with which the function begins. Where a function is left there is its result,
  -- and its variables that name objects, and no more.
  abbrev pub FitsAt : (pc : ℕ) → Instr J F T → Type 0
  FitsAt pc (Plain o) = FitsTo pc (pc + 1) (Plain o)
  FitsAt pc (PrintText t) = FitsTo pc (pc + 1) (PrintText t)
  FitsAt pc (Jump j) = FitsTo pc (p.lands pc j) (Jump j)
  FitsAt pc (JumpZero j) = FitsTo pc (pc + 1) (JumpZero j) × FitsTo pc (p.lands pc j) (JumpZero j)
  FitsAt pc (Call f gives) = (to : ℕ) → p.entry f ≡ Some to → FitsCall pc (giving gives (height to).numbers (height to).names)
  FitsAt pc (Send selector takes objects gives) = FitsMessage pc (Send selector takes objects gives)
  FitsAt pc (SendSuper from selector takes objects gives) = FitsMessage pc (SendSuper from selector takes objects gives)
  FitsAt pc (SendTo selector takes objects gives) = FitsMessage pc (SendTo selector takes objects gives)
  FitsAt pc (SendToSuper from selector takes objects gives) = FitsMessage pc (SendToSuper from selector takes objects gives)
  FitsAt pc (StoreStrong i) = FitsTo pc (pc + 1) (StoreStrong i)
  FitsAt pc (StoreGlobal i) = FitsTo pc (pc + 1) (StoreGlobal i)
  FitsAt pc (StoreField class index) = FitsTo pc (pc + 1) (StoreField class index)
  FitsAt pc (Empty i) = FitsTo pc (pc + 1) (Empty i)
  FitsAt pc Settle = FitsFrom (record (height pc) { temporaries = (height pc).temporaries - 1 }) (height (pc + 1)) Settle
  FitsAt pc Give = FitsFrom (record (height pc) { variables = 0 }) no_height Give
  FitsAt pc DropAll = FitsFrom (record (height pc) { temporaries = 0 }) (height (pc + 1)) DropAll
  FitsAt pc Return = FitsFrom (record (height pc) { variables = 0 }) no_height Return
  FitsAt pc EndStep = FitsFrom (height pc) no_height EndStep

-- A second table says what the function gives in which an instruction stands.
module _ {J F T : Type 0} (p : Program J F T) (result : ℕ → Gives) where
  abbrev pub SameResult : (pc to : ℕ) → Type 0
  SameResult pc to = result to ≡ result pc

  -- What it says of the instruction with a number. A run stays in the function, which is left with what it gives; what is called gives what is wanted.
  abbrev pub GivesAt : (pc : ℕ) → Instr J F T → Type 0
  GivesAt pc (Jump j) = SameResult pc (p.lands pc j)
  GivesAt pc (JumpZero j) = SameResult pc (pc + 1) × SameResult pc (p.lands pc j)
  GivesAt pc (Call f wanted) = SameResult pc (pc + 1) × ((to : ℕ) → p.entry f ≡ Some to → result to ≡ wanted)
  GivesAt pc Give = result pc ≡ gives.Object
  GivesAt pc Return = result pc ≡ gives.Number
  GivesAt pc EndStep = Unit {0}
  GivesAt pc x = SameResult pc (pc + 1)

-- tables that fit a program, whose greatest heights these are
module _ {J F T : Type 0} (p : Program J F T) (height : ℕ → Height) (result : ℕ → Gives) where
  pub record HeightsFit (most_numbers most_names most_places : ℕ) : Type 0 where
    pub at : (pc : ℕ) (x : Instr J F T) → slice_get p.instrs pc ≡ Some x → FitsAt p height pc x
    pub results : (pc : ℕ) (x : Instr J F T) → slice_get p.instrs pc ≡ Some x → GivesAt p result pc x
    pub methods : (from : Option ℕ) (sign : Sign) (selector takes objects : ℕ) (wanted : Gives) (to : ℕ) → lookup p.classes from sign selector takes objects wanted ≡ Some to
        → (passes sign takes ≤ (height to).numbers) × (objects ≤ (height to).names) × (result to ≡ wanted)
    pub numbers_most : (pc : ℕ) → (height pc).numbers ≤ most_numbers
    pub names_most : (pc : ℕ) → (height pc).names ≤ most_names
    pub places_most : (pc : ℕ) → (height pc).temporaries + (height pc).variables ≤ most_places

-- the room for what runs on all levels and for the program's start, each of which has at most so many
abbrev pub room_for : (most : ℕ) → ℕ
room_for most = suc MOST_LEVELS * most

-- where a run is, there are at most so many numbers, references and places
abbrev pub HasAtMost : (numbers names places : ℕ) → Reached State → Type 0
HasAtMost numbers names places (Running s input trace) = (length s.stack ≤ numbers) × (length s.held.names ≤ names) × (length (stacked s.held) ≤ places)
HasAtMost numbers names places (Ended n input trace) = Unit {0}
HasAtMost numbers names places (Faulted f input trace) = Unit {0}
HasAtMost numbers names places (Wedged input trace) = Unit {0}

-- on each input there are at most so many numbers, references and places after any number of steps
abbrev pub NeverHasMore : {J F T : Type 0} → Program J F T → (numbers names places : ℕ) → Type 0
NeverHasMore p numbers names places = (input : List ℕ) (n : ℕ) → HasAtMost numbers names places (after_steps (step p) n (Running (start p) input []))
