-- What a running program can change and show, and how a part of it ends.
use Rattle.std.specs.Prelude.{ℕ, zero, suc, Bool, if◌then◌else◌, slice_get, slice_index_or, ℤ, pos, List, [], ◌∷◌, ◌++◌, map, take, slice_set, drop}
use Rattle.arc_spec.specs.declared.event.Event.{Event}
use Rattle.arc_spec.specs.declared.event.Event.TheVariants.{Byte}
use Rattle.arc_spec.specs.declared.event.Fault as faults
use Rattle.arc_spec.specs.declared.location.Location.{Location}
use Rattle.arc_spec.specs.declared.location.Location.TheVariants.{Local, Global}
use Rattle.arc_spec.specs.Number.{byte_or_end}
use Rattle.arc_spec.specs.Objects.{Object, nils, field_places}
use Rattle.arc_spec.specs.Statics.{Statics, first_statics}

-- The running function: in a method of objects `self`, the variables that hold numbers, those that name objects, of which its parameters are the first, and the
-- temporaries of its full-expression, the last one first. After the variables that name objects comes the place of the result, where it gives an object. All of these and
-- the temporaries are strong places (ARC, "Ownership qualification"); `self` is none but in a method that owns it, where it is a variable too, since what sent the message
-- holds it.
pub record Activation : Type 0 where
  pub self : ℕ
  pub locals : List ℤ
  pub strong : List ℕ
  pub temporaries : List ℕ

-- the bytes of the input that are left, the events so far, what is kept from the start to the end, what the variables of the whole program name that name objects,
-- the objects, the running function, and the strong places of those that wait for it
pub record World : Type 0 where
  pub input : List ℕ
  pub trace : List Event
  pub statics : Statics
  pub strong_globals : List ℕ
  pub objects : List Object
  pub frame : Activation
  pub waiting : List ℕ

abbrev pub first_frame : Activation
first_frame = record { self = 0; locals = []; strong = []; temporaries = [] }

-- what a program begins with: the numbers of its variables, and so many variables that name objects, each of which is nil
abbrev pub first_world : (globals : List ℤ) → (strong_globals : ℕ) → List ℕ → World
first_world globals strong_globals input = record {
  input = input;
  trace = [];
  statics = first_statics globals;
  strong_globals = nils strong_globals;
  objects = [];
  frame = first_frame;
  waiting = [];
}

-- the strong places of the running function
abbrev pub frame_places : Activation → List ℕ
frame_places f = f.temporaries ++ f.strong

-- the strong places of all functions that were called
abbrev pub stacked : World → List ℕ
stacked w = frame_places w.frame ++ w.waiting

-- All strong places: what each of them names (ARC, "Ownership qualification"). They are the temporaries and variables of all functions that were called, the variables
-- of the whole program, and the fields of the objects that aren't gone.
abbrev pub places : World → List ℕ
places w =
    stacked w
    ++ (w.strong_globals
    ++ field_places w.objects)

abbrev pub with_objects : World → List Object → World
with_objects w objects = record w { objects = objects }

abbrev pub with_locals : World → List ℤ → World
with_locals w locals = record w { frame = record w.frame { locals = locals } }

abbrev pub with_strong_globals : World → List ℕ → World
with_strong_globals w strong_globals = record w { strong_globals = strong_globals }

abbrev pub with_strong : World → List ℕ → World
with_strong w strong = record w { frame = record w.frame { strong = strong } }

abbrev pub with_temporaries : World → List ℕ → World
with_temporaries w temporaries = record w { frame = record w.frame { temporaries = temporaries } }

-- the number of a variable; one that there isn't counts as 0
abbrev pub local_at : List ℤ → ℕ → ℤ
local_at locals i = slice_index_or locals i (pos 0)

-- what a place of these names; one that there isn't names nothing
abbrev pub name_at : List ℕ → ℕ → ℕ
name_at strong i = slice_index_or strong i 0

-- So many, the first of which are given: what the variables of a function that begins hold and name. All others are 0 or nil (this project's own choice, where C99,
-- section 6.7.8, leaves them open).
abbrev pub padded : {A : Type 0} → (none : A) → (count : ℕ) → (given : List A) → List A
padded none zero given = []
padded none (suc n) [] = none ∷ padded none n []
padded none (suc n) (a ∷ given) = a ∷ padded none n given

-- what a function or a method is given: its arguments that are numbers, and those that are objects or nil
pub record Given : Type 0 where
  pub numbers : List ℤ
  pub objects : List ℕ

-- what a function or a method gives: a number, or an object or nil
pub record Answer : Type 0 where
  pub number : ℤ
  pub object : ℕ

abbrev pub nothing_given : Given
nothing_given = record { numbers = []; objects = [] }

-- what the first variables that name objects name: `self`, where it is owned, and the objects that are given
abbrev pub and_self : (owns : Bool) → (self : ℕ) → List ℕ → List ℕ
and_self owns self given = if owns then self ∷ given else given

-- A function begins, with so many variables that hold numbers and so many places for those that name objects, of which so many are given (C99, section 6.5.2.2): the
-- running one waits for it.
abbrev pub entered : (slots count parameters : ℕ) → (owns : Bool) → (self : ℕ) → Given → World → World
entered slots count parameters owns self given w = record w {
  frame = record { self = self; locals = padded (pos 0) slots given.numbers; strong = padded 0 count (and_self owns self (take parameters given.objects)); temporaries = [] };
  waiting = stacked w;
}

-- a function is left, and the one that waited for it runs again
abbrev pub left : (before now : World) → World
left before now = record now { frame = before.frame; waiting = before.waiting }

-- a temporary takes an object; nil is taken too, and then the temporary names nothing (this project's own choice, where ARC, "Object operands", asks for less)
abbrev pub takes : ℕ → World → World
takes r w = record w { frame = record w.frame { temporaries = r ∷ w.frame.temporaries } }

-- what a variable names
abbrev pub named_at : Location → World → ℕ
named_at (Local i) w = name_at w.frame.strong i
named_at (Global i) w = name_at w.strong_globals i

-- a variable names this now
abbrev pub stores : Location → ℕ → World → World
stores (Local i) r w = record w { frame = record w.frame { strong = slice_set w.frame.strong i r } }
stores (Global i) r w = record w { strong_globals = slice_set w.strong_globals i r }

-- how a part of a program ends: with a value, stopped by a fault, or cut where a loop would pass the bound on its turns
pub data Outcome (A : Type 0) : Type 0 where
  Done : A → World → Outcome A
  Faulted : faults.Fault → World → Outcome A
  Cut : World → Outcome A

-- one part of a program, and after it another, where the first is done
abbrev pub then_do : {A B : Type 0} → Outcome A → (A → World → Outcome B) → Outcome B
then_do (Done a w) go = go a w
then_do (Faulted f w) go = Faulted f w
then_do (Cut w) go = Cut w

-- what ends without a value
pub data Finished : Type 0 where
  finished : Finished

-- events are shown
abbrev pub shows : List Event → World → World
shows events w = record w { trace = w.trace ++ events }

-- these bytes are printed
abbrev pub prints : List ℕ → World → World
prints bytes w = shows (map Byte bytes) w

-- getchar (C99, section 7.19.7.6): the next byte of the input, or -1 at its end
abbrev pub next_number : List ℕ → ℤ
next_number input = byte_or_end (slice_get input 0)

-- the next byte is taken from the input, if there is one
abbrev pub has_read : World → World
has_read w = record w { input = drop 1 w.input }
