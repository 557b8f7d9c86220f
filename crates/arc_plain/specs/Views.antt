-- What the interpreter's values stand for. The interpreter is this project's own.
use Rattle.std.specs.Prelude.{Option, None, ◌≡◌, ℕ, ℤ, List, ◌∷◌, ◌++◌, map, reverse, if◌then◌else◌, Some, Result, Ok, Err}
use Rattle.arc_spec.specs.declared.class.Gives.{Gives}
use Rattle.arc_spec.specs.Resolved.{Piece, Function, Arguments, Receiver}
use Rattle.arc_spec.specs.Objects as objects
use Rattle.arc_spec.specs.Objects.{object_at, with_object, is_emptying}
use Rattle.arc_spec.specs.World as worlds
use Rattle.arc_spec.specs.World.{World, Outcome, Done, Faulted, Cut, then_do, Finished, finished, prints, name_at}
use Rattle.arc_ast.specs.declared.tree.Kind.TheVariants as k
use Rattle.arc_spec.specs.Number.{converted, is_zero}
use Rattle.arc_spec.specs.Meaning as meaning
use Rattle.arc_spec.specs.Meaning.{formatted, byte_count, Callees, chosen, level, in_object, field_stores, ToClass, ToObject, ToSuper}
use Rattle.arc_checked.specs.declared.program.CheckedFunction.{CheckedFunction}
use Rattle.arc_checked.specs.Checked.{program_of, commands}
use Rattle.arc_plain.specs.declared.context.Context.{Context}
use Rattle.arc_plain.specs.declared.frame.Activation.{Activation}
use Rattle.arc_plain.specs.declared.given.Given.{Given}
use Rattle.arc_plain.specs.declared.given.Answered.{Answered}
use Rattle.arc_plain.specs.declared.message.Target.{Target}
use Rattle.arc_plain.specs.declared.message.Target.TheVariants as targets
use Rattle.arc_spec.specs.declared.event.Fault.TheVariants.{Resurrected}
use Rattle.arc_plain.specs.declared.object.Object.{Object}
use Rattle.arc_plain.specs.declared.object.Phase.{Phase}
use Rattle.arc_plain.specs.declared.object.Phase.TheVariants.{Live, Dying, Emptying, Gone}
use Rattle.arc_spec.specs.Correctness.{meaning_seen, Observation, Stop, Ends, Faults}
use Rattle.arc_plain.specs.declared.progress.Progress.{Progress}
use Rattle.arc_plain.specs.declared.halt.Halt.{Halt}
use Rattle.arc_plain.specs.declared.halt.Halt.TheVariants as halt
use Rattle.arc_plain.specs.declared.halt.Halt.TheVariants.{Stopped, Memory}
use Rattle.arc_plain.specs.declared.statement.Flow.{Flow}
use Rattle.arc_plain.specs.declared.statement.Flow.TheVariants.{Normal, Broken, Continued, Returned}
use Rattle.arc_plain.specs.declared.interpret.Answer.{Answer}
use Rattle.arc_plain.specs.declared.interpret.PlainStop.{PlainStop}
use Rattle.arc_plain.specs.declared.interpret.PlainStop.TheVariants as stops
use Rattle.arc_plain.specs.declared.interpret.PlainStop.TheVariants.{Ended, Fault}

abbrev pub phase_of : Phase → objects.Phase
phase_of Live = objects.Live
phase_of Dying = objects.Dying
phase_of Emptying = objects.Emptying
phase_of Gone = objects.Gone

-- an object without where its fields lie in memory
abbrev pub object_of : Object → objects.Object
object_of o = record { class = o.class; fields = o.fields.items; strong = o.strong.items; phase = phase_of o.phase }

-- the running function, whose last temporary lies at the end
abbrev pub frame_of : Activation → worlds.Activation
frame_of f = record { self = f.itself; locals = f.locals.items; strong = f.strong.items; temporaries = reverse f.temporaries.items }

-- what is left to read, the events so far, what is kept from the start to the end, what the whole program's variables name that name objects, the objects, the running
-- function, and the places of those that wait, of which the newest lie at the end
abbrev pub world : Progress → World
world progress = record {
  input = progress.input.now;
  trace = progress.trace.items;
  statics = progress.statics;
  strong_globals = progress.strong_globals.items;
  objects = map object_of progress.objects.items;
  frame = frame_of progress.frame;
  waiting = reverse progress.waiting.items;
}

-- the world in which this function runs again, and these places wait
abbrev pub left_at : worlds.Activation → (waiting : List ℕ) → World → World
left_at frame waiting w = record w { frame = frame; waiting = reverse waiting }

-- the objects, of which the one with this number is changed, where there is one
abbrev pub changed_to : List objects.Object → (o : ℕ) → (objects.Object → objects.Object) → Option objects.Object → List objects.Object
changed_to all o change None = all
changed_to all o change (Some ob) = with_object all o (change ob)

abbrev pub changed : List objects.Object → (o : ℕ) → (objects.Object → objects.Object) → List objects.Object
changed all o change = changed_to all o change (object_at all o)

-- what an object's field names; nothing where there is no such object
abbrev pub named_in : Option objects.Object → (index : ℕ) → ℕ
named_in None index = 0
named_in (Some ob) index = name_at ob.strong index

-- a field of an object is nil, where there is the object
abbrev pub cleared : (o index : ℕ) → Option objects.Object → World → World
cleared o index None w = w
cleared o index (Some ob) w = field_stores o ob index 0 w

-- a field of an object takes a new value, and the old one is given, which isn't dropped yet
abbrev pub field_replaced : (r index value : ℕ) → World → objects.Object → Outcome ℕ
field_replaced r index value w o = if is_emptying o.phase then Faulted Resurrected w else Done (name_at o.strong index) (field_stores r o index value w)

abbrev pub object_field_replaced : Callees → (r class index value : ℕ) → World → Outcome ℕ
object_field_replaced D r class index value w = in_object D class (object_at w.objects r) (field_replaced r index value w) w

-- arguments without where they lie in memory
abbrev pub given_of : Given → worlds.Given
given_of given = record { numbers = given.numbers.items; objects = given.objects.items }

-- what is given, without where it lies in memory
abbrev pub answer_of : Answered → worlds.Answer
answer_of a = record { number = a.number; object = a.object }

-- what is second of some places, and the others
abbrev pub FollowsLast : List ℕ → (second : ℕ) → (others : List ℕ) → Type 0
FollowsLast places second others = (last : ℕ) × ((rest : List ℕ) × ((places ≡ last ∷ second ∷ rest) × (others ≡ last ∷ rest)))

-- a call and a message, with what is evaluated for them
abbrev pub invoked : Callees → (wanted : Gives) → (f : ℕ) → Arguments → World → Outcome worlds.Answer
invoked D wanted f arguments w = then_do (meaning.all_evaluated D arguments w) (λ given w1. D.call wanted f 0 given w1)

abbrev pub sent_to : Callees → (wanted : Gives) → Receiver → (selector : ℕ) → Arguments → World → Outcome worlds.Answer
sent_to D wanted receiver selector arguments w =
    then_do (meaning.received D receiver w) (λ target w1. then_do (meaning.all_evaluated D arguments w1) (λ given w2. meaning.sent D wanted target selector given w2))

-- who gets a message
abbrev pub target_of : Target → meaning.Target
target_of (targets.Class from class) = ToClass from class
target_of (targets.Object self) = ToObject self
target_of (targets.Super from self) = ToSuper from self

-- a function without where it lies in memory
abbrev pub function_of : CheckedFunction → Function
function_of f =
    record { slots = f.slots; names = f.names; parameters = f.parameters; gives = f.gives; owns = f.owns; body = commands f.body.items }

-- what a call or an end of an object does in this context
abbrev pub deeper : Context → Callees
deeper context = level (program_of context.program.now) context.bound context.levels

-- how a statement was left
abbrev pub flow_of : Flow → meaning.Flow
flow_of Normal = meaning.Normal
flow_of Broken = meaning.Broken
flow_of Continued = meaning.Continued
flow_of (Returned n) = meaning.Returned n

-- how a loop is left after a part of it that was left so, if it is
abbrev pub leaving : meaning.Flow → Option meaning.Flow
leaving meaning.Normal = None
leaving meaning.Broken = Some meaning.Broken
leaving meaning.Continued = Some meaning.Continued
leaving (meaning.Returned n) = Some (meaning.Returned n)

-- its step
abbrev pub step_of : (World → Outcome meaning.Flow) → World → Outcome (Option meaning.Flow)
step_of step w = then_do (step w) (λ flow w1. Done (leaving flow) w1)

-- what follows its body
abbrev pub past_body : meaning.Flow → (World → Outcome (Option meaning.Flow)) → World → Outcome (Option meaning.Flow)
past_body meaning.Normal rest w = rest w
past_body meaning.Continued rest w = rest w
past_body meaning.Broken rest w = Done (Some meaning.Normal) w
past_body (meaning.Returned n) rest w = Done (Some (meaning.Returned n)) w

-- a turn, with what follows the body
abbrev pub turn_of : (rest : World → Outcome (Option meaning.Flow)) → (body : World → Outcome meaning.Flow) → World → Outcome (Option meaning.Flow)
turn_of rest body w = then_do (body w) (λ flow w1. past_body flow rest w1)

-- what ends without a value
abbrev pub nothing_of : Unit {0} → Finished
nothing_of u = finished

-- what an answer says of a meaning, and of the world after it; a want of memory says nothing
abbrev pub Reports : {A B : Type 0} → (A → B) → Result A Halt → Outcome B → World → Type 0
Reports view (Ok a) outcome w = outcome ≡ Done (view a) w
Reports view (Err (Stopped fault)) outcome w = outcome ≡ Faulted fault w
Reports view (Err halt.Cut) outcome w = outcome ≡ Cut w
Reports view (Err Memory) outcome w = Unit {0}

-- what one piece of a format writes after a text, and the values that it leaves
abbrev pub WritesPiece : Piece → List ℤ → (old new : List ℕ) → (rest : List ℤ) → Type 0
WritesPiece piece values old new rest =
    (others : List Piece) → old ++ formatted (piece ∷ others) values ≡ new ++ formatted others rest

-- printf, once its values are known
abbrev pub printed : List Piece → List ℤ → World → Outcome ℤ
printed pieces values w = let bytes = formatted pieces values in Done (byte_count bytes) (prints bytes w)

abbrev pub stop_of : PlainStop → Option Stop
stop_of (Ended n) = Some (Ends n)
stop_of (Fault fault) = Some (Faults fault)
stop_of stops.Cut = None

-- what an answer shows
abbrev pub seen : Answer → Observation
seen answer = record { trace = answer.trace.items; stop = stop_of answer.stop }

-- the value of main, as an int
abbrev pub as_int : Outcome worlds.Answer → Outcome ℤ
as_int outcome = then_do outcome (λ a w. Done (converted k.Int a.number) w)

-- how a program stops, whatever it means, of whose main this is the answer
abbrev pub Stops : Result Answered Halt → PlainStop → Type 0
Stops left stop = (outcome : Outcome worlds.Answer) (w : World) → Reports answer_of left outcome w → meaning_seen (as_int outcome) ≡ record { trace = w.trace; stop = stop_of stop }
