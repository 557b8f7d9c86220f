-- How many numbers, references, temporaries and variables that name objects the running function has at most before
-- each action of a program, by the effects of those before it; and the greatest of them.
use Rattle.std.specs.Prelude.{ℕ, suc, ◌+◌, ◌-◌, max, List, [], ◌∷◌, ◌++◌, length, drop, get_or, Option, Some, None}
use Rattle.arc_spec.specs.Resolved.{Function, Program}
use Rattle.arc_spec.specs.declared.class.Method.{Method}
use Rattle.arc_spec.specs.declared.class.Gives.{Gives}
use Rattle.arc_spec.specs.declared.class.Gives.TheVariants as gives
use Rattle.arc_spec.specs.Classes.{Class}
use Rattle.arc_spec.specs.Meaning.{function_places}
use Rattle.arc_code.specs.declared.instr.Instr.TheVariants.{Jump, JumpZero, Call, DropAll, Settle, Give, Return}
use Rattle.arc_code.specs.declared.effect.Effect.{Effect}
use Rattle.arc_code.specs.declared.effect.Height.{Height}
use Rattle.arc_code.specs.Effects.{effect, giving, passes, no_height, room_for}
use Rattle.arc_lower.specs.PlainActions.{PlainAction}
use Rattle.arc_lower.specs.Lowered.{all_functions, slots_of, parameters_of, start_actions, leave_actions, entry_of, body_actions, function_actions, stub_actions, entries_of}
use Rattle.arc_lower.specs.Size.{object_parameters}

abbrev pub height : (numbers names temporaries variables : ℕ) → Height
height numbers names temporaries variables = record { numbers = numbers; names = names; temporaries = temporaries; variables = variables }

-- the height between two statements of a function with so many variables of each kind
abbrev pub between : (slots names : ℕ) → Height
between slots names = height slots 0 0 names

abbrev pub highest : Height → Height → Height
highest a b = height (max a.numbers b.numbers) (max a.names b.names) (max a.temporaries b.temporaries) (max a.variables b.variables)

-- what an action takes and gives; a call takes the variables of the function that hold numbers, and the references of its parameters
abbrev pub effect_in : Program → PlainAction → Effect
effect_in P (Call f wanted) = giving wanted (slots_of P wanted f) (parameters_of P wanted f)
effect_in P x = effect x

-- the height once an effect has taken what it takes, and what it gives is there
abbrev pub after_effect : Height → Effect → Height
after_effect h e =
    height (h.numbers - e.numbers_taken + e.numbers_given) (h.names - e.names_taken + e.names_given) (h.temporaries + e.temporaries) (h.variables + e.variables)

-- the height after an action that goes on with the next one
abbrev pub next_height : Program → PlainAction → Height → Height
next_height P DropAll h = record h { temporaries = 0 }
next_height P Settle h = record h { temporaries = h.temporaries - 1 }
next_height P x h = after_effect h (effect_in P x)

-- where a walk over actions is: the height there, and those at which the parts begin that tests may lead to, the last test first
pub record Walk : Type 0 where
  pub height : Height
  pub pending : List Height

abbrev pub walk : Height → (pending : List Height) → Walk
walk h pending = record { height = h; pending = pending }

-- What stands after a jump is the part that the last test may lead to, or stands between two statements. It is given
-- the temporaries that there are before the jump, which may be there after that part.
abbrev pub other_part : (base : Height) → Walk → Height
other_part base w = record (get_or w.pending 0 base) { temporaries = w.height.temporaries }

-- The walk before the next action, in a function that has so much between two statements. What stands after a return is another part of the program.
abbrev pub next_walk : Program → (base : Height) → PlainAction → Walk → Walk
next_walk P base (Jump to) w = walk (other_part base w) (drop 1 w.pending)
next_walk P base (JumpZero to) w = let h = next_height P (JumpZero to) w.height in walk h (h ∷ w.pending)
next_walk P base Return w = walk (record base { variables = 0 }) w.pending
next_walk P base Give w = walk (record base { variables = 0 }) w.pending
next_walk P base x w = walk (next_height P x w.height) w.pending

-- the walk after all of these actions
abbrev pub last_walk : Program → (base : Height) → Walk → List PlainAction → Walk
last_walk P base w [] = w
last_walk P base w (x ∷ xs) = last_walk P base (next_walk P base x w) xs

-- the heights before each of them
abbrev pub walk_heights : Program → (base : Height) → Walk → List PlainAction → List Height
walk_heights P base w [] = []
walk_heights P base w (x ∷ xs) = w.height ∷ walk_heights P base (next_walk P base x w) xs

-- the same where the first is at this height, after no test
abbrev pub heights : Program → (base : Height) → Height → List PlainAction → List Height
heights P base h xs = walk_heights P base (walk h []) xs

abbrev pub last_height : Program → (base : Height) → Height → List PlainAction → Height
last_height P base h xs = (last_walk P base (walk h []) xs).height

-- the greatest of them, or this one, where it is greater
abbrev pub greatest : List Height → Height → Height
greatest [] most = most
greatest (h ∷ others) most = greatest others (highest most h)

-- the same, where it is asked for
abbrev pub raised : List Height → Option Height → Option Height
raised hs None = None
raised hs (Some most) = Some (greatest hs most)

abbrev pub start_heights : Program → List Height
start_heights P = heights P no_height no_height (start_actions P)

-- a function is left with its result above its variables, and entered with the references of its parameters
abbrev pub function_heights : Program → (place : ℕ) → Function → List Height
function_heights P place f =
    let base = between f.slots (function_places f) in
    heights P base (between (suc f.slots) (function_places f)) (leave_actions f)
    ++ heights P base (height f.slots (object_parameters f) 0 0) (body_actions P place (entry_of place f) f)

abbrev pub functions_heights : Program → (place : ℕ) → List Function → List Height
functions_heights P place [] = []
functions_heights P place (f ∷ others) = function_heights P place f ++ functions_heights P (place + length (function_actions P place f)) others

abbrev pub stub_heights : Program → (entries : List ℕ) → (wanted : Gives) → (values objects f : ℕ) → List Height
stub_heights P entries wanted values objects f = heights P no_height (height values objects 0 0) (stub_actions P entries wanted values objects f)

abbrev pub methods_heights : Program → (entries : List ℕ) → List Method → List Height
methods_heights P entries [] = []
methods_heights P entries (m ∷ others) = stub_heights P entries m.gives (passes m.sign m.takes) m.objects m.runs ++ methods_heights P entries others

abbrev pub dealloc_heights : Program → (entries : List ℕ) → Option ℕ → List Height
dealloc_heights P entries None = []
dealloc_heights P entries (Some f) = stub_heights P entries gives.Number 0 0 f

abbrev pub class_heights : Program → (entries : List ℕ) → Class → List Height
class_heights P entries c = dealloc_heights P entries c.dealloc ++ methods_heights P entries c.methods

abbrev pub classes_heights : Program → (entries : List ℕ) → List Class → List Height
classes_heights P entries [] = []
classes_heights P entries (c ∷ others) = class_heights P entries c ++ classes_heights P entries others

-- the heights of all actions of a program, in their order
abbrev pub lowered_heights : Program → List Height
lowered_heights P = (start_heights P ++ functions_heights P (length (start_actions P)) (all_functions P)) ++ classes_heights P (entries_of P) P.classes

-- the greatest number of numbers, of references, of temporaries and of variables, that a function has
abbrev pub greatest_height : Program → Height
greatest_height P = greatest (lowered_heights P) no_height

-- how many places that is
abbrev pub places_in : Height → ℕ
places_in h = h.temporaries + h.variables

-- the room for all calls and ends of objects that may run within one another, each at the greatest height
abbrev pub room_of : Program → ℕ
room_of P = room_for (greatest_height P).numbers

abbrev pub names_of : Program → ℕ
names_of P = room_for (greatest_height P).names

abbrev pub places_of : Program → ℕ
places_of P = room_for (places_in (greatest_height P))

-- the heights of a program as a table; there is none after its actions
abbrev pub height_at : Program → ℕ → Height
height_at P pc = get_or (lowered_heights P) pc no_height

-- ---- what functions give

-- heights in a function that gives this
abbrev pub in_function : Gives → List Height → List (Height × Gives)
in_function given [] = []
in_function given (h ∷ others) = (h, given) ∷ in_function given others

abbrev pub functions_marks : Program → (place : ℕ) → List Function → List (Height × Gives)
functions_marks P place [] = []
functions_marks P place (f ∷ others) = in_function f.gives (function_heights P place f) ++ functions_marks P (place + length (function_actions P place f)) others

abbrev pub methods_marks : Program → (entries : List ℕ) → List Method → List (Height × Gives)
methods_marks P entries [] = []
methods_marks P entries (m ∷ others) = in_function m.gives (stub_heights P entries m.gives (passes m.sign m.takes) m.objects m.runs) ++ methods_marks P entries others

abbrev pub class_marks : Program → (entries : List ℕ) → Class → List (Height × Gives)
class_marks P entries c = in_function gives.Number (dealloc_heights P entries c.dealloc) ++ methods_marks P entries c.methods

abbrev pub classes_marks : Program → (entries : List ℕ) → List Class → List (Height × Gives)
classes_marks P entries [] = []
classes_marks P entries (c ∷ others) = class_marks P entries c ++ classes_marks P entries others

-- the heights of all actions of a program, each with what the function gives in which the action stands
abbrev pub lowered_marks : Program → List (Height × Gives)
lowered_marks P =
    (in_function gives.Number (start_heights P) ++ functions_marks P (length (start_actions P)) (all_functions P)) ++ classes_marks P (entries_of P) P.classes

abbrev pub no_mark : Height × Gives
no_mark = (no_height, gives.Number)

-- the same as a table
abbrev pub result_at : Program → ℕ → Gives
result_at P pc = (get_or (lowered_marks P) pc no_mark).1
