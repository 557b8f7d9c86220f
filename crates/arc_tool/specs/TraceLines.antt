-- The text of a trace, which is this project's own choice: a line for the bytes that are printed between two deallocs, one for each dealloc, and one for how
-- the run stopped.
use Rattle.std.specs.Prelude.{ℕ, ◌/◌, ◌%◌, Bool, true, false, List, [], ◌∷◌, ◌++◌, get_or, codes, fold, if◌then◌else◌}
use Rattle.std.specs.Fmt.{signed_decimal}
use Rattle.arc_spec.specs.declared.event.Event.{Event}
use Rattle.arc_spec.specs.declared.event.Event.TheVariants.{Byte, Dealloc}
use Rattle.arc_code.specs.declared.code.IoFault.TheVariants.{Read}
use Rattle.arc_code.specs.DeviceFaults as faulty
use Rattle.arc_machine.specs.declared.stop.Stop.TheVariants as stop
use Rattle.arc_machine.specs.FaultNames as stopped
use Rattle.arc_tool.specs.declared.lines.Left.{Left}
use Rattle.arc_tool.specs.declared.lines.Left.TheVariants.{Stopped, Unread}
use Rattle.arc_tool.specs.Status.{named}

-- a hexadecimal digit, of which letters are small
abbrev pub digit : ℕ → ℕ
digit d = get_or (codes "0123456789abcdef") d 0

-- a byte in two of them
abbrev pub two_digits : ℕ → List ℕ
two_digits b = digit (b / 16) ∷ digit (b % 16) ∷ []

-- the name of a class, by the names of all in the order of their numbers
abbrev pub name_at : List (List ℕ) → ℕ → List ℕ
name_at names class = get_or names class []

-- the line of the dealloc of an object, with its number and its class
abbrev pub dealloc_line : List (List ℕ) → (object class : ℕ) → List ℕ
dealloc_line names object class = named (codes "dealloc ") object (name_at names class) ++ codes "\n"

-- how a run was left: the number with which it ended, why it was stopped, that there was no room for an object, that its steps are used, or that the reader
-- failed
abbrev pub left_text : Left → List ℕ
left_text (Stopped (stop.Ended n)) = codes "end " ++ signed_decimal n
left_text (Stopped (stop.Fault f)) = named (codes "fault ") (stopped.report f).0 (stopped.report f).1
left_text (Stopped stop.NoHeap) = codes "noheap"
left_text (Stopped stop.StepsUsed) = codes "steps"
left_text Unread = named (codes "io ") (faulty.report Read).0 (faulty.report Read).1

-- the end of a line of printed bytes, where one is open
abbrev pub closing : Bool → List ℕ
closing begun = if begun then codes "\n" else []

-- its beginning, where none is open
abbrev pub opening : Bool → List ℕ
opening begun = if begun then [] else codes "out "

-- what an event adds to the text: a byte goes on with a line of printed bytes, where one is open, or begins one, and a dealloc ends it
abbrev pub event_text : List (List ℕ) → (begun : Bool) → Event → List ℕ
event_text names begun (Byte b) = opening begun ++ two_digits b
event_text names begun (Dealloc object class) = closing begun ++ dealloc_line names object class

-- whether a line of printed bytes is open after an event
abbrev pub leaves_open : Event → Bool
leaves_open (Byte b) = true
leaves_open (Dealloc object class) = false

-- what events add one after another, and whether a line of printed bytes is open after them
abbrev pub events_text : List (List ℕ) → (begun : Bool) → List Event → List ℕ
events_text names begun [] = []
events_text names begun (e ∷ events) = event_text names begun e ++ events_text names (leaves_open e) events

abbrev pub open_after : (begun : Bool) → List Event → Bool
open_after = fold (λ _ e. leaves_open e)

-- the end of the text
abbrev pub end_text : (begun : Bool) → Left → List ℕ
end_text begun left = closing begun ++ (left_text left ++ codes "\n")

-- the whole text of a run that showed these events and was left so
abbrev pub trace_text : List (List ℕ) → List Event → Left → List ℕ
trace_text names events left = events_text names false events ++ end_text (open_after false events) left
