-- What a program means: the events that it shows on an input, and how it ends.
use Rattle.std.specs.Prelude.{ℕ, zero, suc, ◌+◌, ◌-◌, ℤ, pos, List, [], ◌∷◌, ◌++◌, length, Option, Some, None, option_map, Bool, true, false, not, ◌&&◌, nat_eq, slice_get, slice_set, slice_index_or, if◌then◌else◌}
use Rattle.std.specs.Fmt.{signed_decimal}
use Rattle.std.specs.Option.{option_map_or, option_or}
use Rattle.arc_ast.specs.declared.tree.BinaryOperator.{BinaryOperator}
use Rattle.arc_ast.specs.declared.tree.Kind.{Kind}
use Rattle.arc_ast.specs.declared.tree.Kind.TheVariants as k
use Rattle.arc_ast.specs.declared.tree.Moment.{Moment}
use Rattle.arc_ast.specs.declared.tree.Moment.TheVariants.{Before, After}
use Rattle.arc_ast.specs.declared.tree.Sign.{Sign}
use Rattle.arc_ast.specs.declared.tree.Sign.TheVariants as signs
use Rattle.arc_spec.specs.declared.event.Event.TheVariants.{Dealloc}
use Rattle.arc_spec.specs.declared.event.Fault.TheVariants.{Arithmetic, Unrecognized, NilField, FieldClass, Depth, Resurrected}
use Rattle.arc_spec.specs.declared.limits.TheConstants.{MOST_LEVELS}
use Rattle.arc_spec.specs.declared.class.Gives.{Gives}
use Rattle.arc_spec.specs.declared.class.Gives.TheVariants as gives
use Rattle.arc_spec.specs.Classes.{Class, superclasses, ancestry, own_dealloc, lookup, same_gives, new_selector, init_selector, is_root_init, descends, class_at, field_counts, field_order}
use Rattle.arc_spec.specs.Number.{converted, applied, combined, low_byte, is_zero}
use Rattle.arc_spec.specs.Objects.{Object, Phase, Dying, Emptying, Gone, object_at, with_object, in_phase, is_live, is_emptying, new_object, names}
use Rattle.arc_spec.specs.Resolved.{Piece, Bytes, Decimal, Character, Value, Number, ReadByte, Print, Unary, Binary, Conditional, Convert, Location, Local, Global, Read, AssignNumber, Update, Call, Send, Receiver, ClassValue, ClassSuper, ObjectValue, ObjectSuper, GetField, SetField, UpdateField, NotSame, IsObject, Reference, Nil, Itself, Variable, ObjectConditional, AssignObject, GetObjectField, SetObjectField, Alloc, New, ObjectCall, ObjectSend, Arguments, no_arguments, number_argument, object_argument, Command, Sequence, Evaluate, EvaluateReference, InitVariable, Return, Give, If, While, Break, Continue, Commands, no_commands, and_command, Function, Program}
use Rattle.arc_spec.specs.World.{World, Outcome, Done, Faulted, Cut, then_do, Finished, finished, shows, prints, places, first_world, Given, nothing_given, Answer, entered, left, takes, named_at, stores, local_at, name_at, next_number, has_read}

-- what a format writes of these values, of which each number takes the next (C99, section 7.19.6.1)
abbrev pub formatted : List Piece → List ℤ → List ℕ
formatted [] values = []
formatted (Bytes bytes ∷ pieces) values = bytes ++ formatted pieces values
formatted (_ ∷ pieces) [] = formatted pieces []
formatted (Decimal ∷ pieces) (v ∷ values) = signed_decimal v ++ formatted pieces values
formatted (Character ∷ pieces) (v ∷ values) = low_byte v ∷ formatted pieces values

-- the number of bytes, as an int
abbrev pub byte_count : List ℕ → ℤ
byte_count bytes = converted k.Int (pos (length bytes))

-- a value, or a division's fault where it has none (that it stops the program is this project's own choice)
abbrev pub or_fault : Option ℤ → World → Outcome ℤ
or_fault (Some v) w = Done v w
or_fault None w = Faulted Arithmetic w

-- the new number of a place that held a number, by an operator and its right operand, as one of the kind that the place keeps (C99, section 6.5.16.2)
abbrev pub updated : BinaryOperator → (computed kept : Kind) → (old x : ℤ) → World → Outcome ℤ
updated operator computed kept old x w = then_do (or_fault (combined operator computed old x) w) (λ v w1. Done (converted kept v) w1)

-- what an update gives of the two (C99, sections 6.5.2.4 and 6.5.3.1)
abbrev pub given_by : Moment → (old new : ℤ) → ℤ
given_by Before old new = old
given_by After old new = new

-- the number that a variable holds; one that there isn't counts as 0
abbrev pub held_at : Location → World → ℤ
held_at (Local i) w = local_at w.frame.locals i
held_at (Global i) w = local_at w.statics.numbers i

-- a variable holds this number
abbrev pub holds : Location → ℤ → World → World
holds (Local i) x w = record w { frame = record w.frame { locals = slice_set w.frame.locals i x } }
holds (Global i) x w = record w { statics = record w.statics { numbers = slice_set w.statics.numbers i x } }

-- what a call does, one level deeper, with what it wants, the number of the function, its `self` and what it is given; what the end of an object does; and the classes of
-- the program
pub record Callees : Type 0 where
  pub call : (wanted : Gives) → ℕ → (self : ℕ) → Given → World → Outcome Answer
  pub end_of : ℕ → World → Outcome Finished
  pub classes : List Class

-- ---- places that are dropped

-- A place was dropped that named this: where it was the last strong place of an object whose dealloc hasn't begun, the object ends (ARC, "Object liveness" and "dealloc").
abbrev pub released : Callees → ℕ → World → Outcome Finished
released D r w = if is_live (object_at w.objects r) && not (names r (places w)) then D.end_of r w else Done finished w

-- temporaries are dropped, the last one that was taken first (the order is this project's own choice)
abbrev pub temporaries_dropped : Callees → List ℕ → World → Outcome Finished
temporaries_dropped D [] w = Done finished w
temporaries_dropped D (r ∷ others) w = then_do (released D r (record w { frame = record w.frame { temporaries = others } })) (λ _ w1. temporaries_dropped D others w1)

-- the end of a full-expression (C99, section 6.8, paragraph 4; ARC, "Object operands")
abbrev pub all_dropped : Callees → World → Outcome Finished
all_dropped D w = temporaries_dropped D w.frame.temporaries w

-- a strong variable takes a new value, and then the old one is dropped (ARC, "Assignment")
abbrev pub assigned : Callees → Location → ℕ → World → Outcome Finished
assigned D i r w = released D (named_at i w) (stores i r w)

-- So many variables are dropped, from the first one on, in the reverse of their order: their scope ends (C99, section 6.2.4; ARC, "Ownership qualification"; the
-- order is this project's own choice).
abbrev pub variables_dropped : Callees → (first count : ℕ) → World → Outcome Finished
variables_dropped D first zero w = Done finished w
variables_dropped D first (suc n) w = then_do (assigned D (Local (first + n)) 0 w) (λ _ w1. variables_dropped D first n w1)

-- ---- messages

-- a further argument, before those that follow it
abbrev pub and_number : ℤ → Given → Given
and_number x given = record given { numbers = x ∷ given.numbers }

abbrev pub and_object : ℕ → Given → Given
and_object r given = record given { objects = r ∷ given.objects }

-- A message to a class with what it has found: that function runs with the class as its first argument, `self` (OPL, "Using Hidden Arguments"); with none it is a
-- fault, which is this project's own choice.
abbrev pub sent_to_class : Callees → (wanted : Gives) → Option ℕ → (class : ℤ) → Given → World → Outcome Answer
sent_to_class D wanted None class given w = Faulted Unrecognized w
sent_to_class D wanted (Some f) class given w = D.call wanted f 0 (and_number class given) w

-- the function that a message finds from a class up (OPL, "How Messaging Works")
abbrev pub finds : Callees → (wanted : Gives) → (from : Option ℕ) → Sign → (selector : ℕ) → Given → Option ℕ
finds D wanted from sign selector given = lookup D.classes from sign selector (length given.numbers) (length given.objects) wanted

-- an object or nil is given
abbrev pub gives_object : ℕ → Answer
gives_object r = record { number = pos 0; object = r }

-- What no class of the source answers, the root may: its `init` gives the object back that gets it, and is no level of its own (OPL, "Allocating and Initializing
-- Objects").
abbrev pub answered_by_root : (wanted : Gives) → (self selector : ℕ) → Given → World → Outcome Answer
answered_by_root wanted self selector given w =
    if is_root_init selector (length given.numbers) (length given.objects) wanted then Done (gives_object self) w else Faulted Unrecognized w

-- a message to an object, the same
abbrev pub sent_to_method : Callees → (wanted : Gives) → Option ℕ → (self selector : ℕ) → Given → World → Outcome Answer
sent_to_method D wanted None self selector given w = answered_by_root wanted self selector given w
sent_to_method D wanted (Some f) self selector given w = D.call wanted f self given w

-- the class of an object
abbrev pub class_in : Option Object → Option ℕ
class_in = option_map (λ o. o.class)

-- a message to what this names, which is looked up from a class; to nil it gives 0 or nil (OPL, "Sending Messages to nil"); so does one to `super`
-- whose `self` is nil (this project's own choice)
abbrev pub sent_to_object : Callees → (wanted : Gives) → (from : Option ℕ) → (self selector : ℕ) → Given → World → Outcome Answer
sent_to_object D wanted from zero selector given w = Done (gives_object 0) w
sent_to_object D wanted from (suc k) selector given w = sent_to_method D wanted (finds D wanted from signs.Instance selector given) (suc k) selector given w

-- who gets a message: a class, whose method is looked up from this class, an object, or an object whose method is looked up from this class
pub data Target : Type 0 where
  ToClass : (from : Option ℕ) → (class : ℤ) → Target
  ToObject : (self : ℕ) → Target
  ToSuper : (from self : ℕ) → Target

-- a message with its arguments
abbrev pub sent : Callees → (wanted : Gives) → Target → (selector : ℕ) → Given → World → Outcome Answer
sent D wanted (ToClass from class) selector given w = sent_to_class D wanted (finds D wanted from signs.Class selector given) class given w
sent D wanted (ToObject self) selector given w = sent_to_object D wanted (class_in (object_at w.objects self)) self selector given w
sent D wanted (ToSuper from self) selector given w = sent_to_object D wanted (Some from) self selector given w

-- the number that a call or a message gives
abbrev pub number_given : Outcome Answer → Outcome ℤ
number_given o = then_do o (λ a w. Done a.number w)

-- and the object or nil, which a temporary of the caller takes (ARC, "Retained return values")
abbrev pub object_given : Outcome Answer → Outcome ℕ
object_given o = then_do o (λ a w. Done a.object (takes a.object w))

-- ---- objects

-- the number of an object that is made now
abbrev pub next_object : World → ℕ
next_object w = suc (length w.objects)

-- an object of a class is made, and a temporary takes it (OPL, "Allocating and Initializing Objects"); what is no class has no such method
abbrev pub made : Callees → Option ℕ → World → Outcome ℕ
made D None w = Faulted Unrecognized w
made D (Some c) w =
    Done (next_object w) (takes (next_object w) (record w { objects = w.objects ++ new_object c (field_counts (slice_get D.classes c)) ∷ [] }))

-- the temporary before the last one is dropped
abbrev pub second_dropped : Callees → List ℕ → World → Outcome Finished
second_dropped D (r ∷ made_first ∷ others) w = released D made_first (record w { frame = record w.frame { temporaries = r ∷ others } })
second_dropped D _ w = Done finished w

-- The root's `new` is `[[self alloc] init]`, without a level of its own. Of the two temporaries that these take the one that holds what `init` gives stays, as the caller's,
-- and the one that holds what was made is dropped (OPL, "Allocating and Initializing Objects").
abbrev pub made_new : Callees → Option ℕ → World → Outcome ℕ
made_new D class w =
    then_do (made D class w) (λ r w1.
    then_do (object_given (sent D gives.Object (ToObject r) init_selector nothing_given w1)) (λ a w2.
    then_do (second_dropped D w2.frame.temporaries w2) (λ _ w3. Done a w3)))

-- `new`, where a class of the source has such a method, and else that of the root
abbrev pub new_found : Callees → Option ℕ → (class : ℤ) → World → Outcome ℕ
new_found D None class w = made_new D (class_at class) w
new_found D (Some f) class w = object_given (D.call gives.Object f 0 (and_number class nothing_given) w)

-- the message `new` to a class, which is looked up from this class, where one is given, and else from the class itself
abbrev pub new_sent : Callees → (from : Option ℕ) → (class : ℤ) → World → Outcome ℕ
new_sent D from class w = new_found D (finds D gives.Object (option_or from (class_at class)) signs.Class new_selector nothing_given) class w

-- an object's field is used, whose own class this is: nil has none, and an object of another class hasn't this one (this project's own choice)
abbrev pub in_object : {A : Type 0} → Callees → (class : ℕ) → Option Object → (Object → Outcome A) → World → Outcome A
in_object D class None go w = Faulted NilField w
in_object D class (Some o) go w = if descends D.classes (Some o.class) class then go o else Faulted FieldClass w

-- a field that holds a number is read, and set; one that there is not counts as 0
abbrev pub field_read : Callees → (r class index : ℕ) → World → Outcome ℤ
field_read D r class index w = in_object D class (object_at w.objects r) (λ o. Done (slice_index_or o.fields index (pos 0)) w) w

abbrev pub field_set : Callees → (r class index : ℕ) → ℤ → World → Outcome ℤ
field_set D r class index v w =
    in_object D class (object_at w.objects r) (λ o. Done v (record w { objects = with_object w.objects r (record o { fields = slice_set o.fields index v }) })) w

-- a field that names an object is read, and a temporary takes what it names (ARC, "Object operands")
abbrev pub object_field_read : Callees → (r class index : ℕ) → World → Outcome ℕ
object_field_read D r class index w =
    in_object D class (object_at w.objects r) (λ o. Done (name_at o.strong index) (takes (name_at o.strong index) w)) w

-- a field of an object names this now
abbrev pub field_stores : (r : ℕ) → Object → (index value : ℕ) → World → World
field_stores r o index value w = record w { objects = with_object w.objects r (record o { strong = slice_set o.strong index value }) }

-- A field takes a new value, and then the old one is dropped (ARC, "Assignment"). Where the fields of its object are being destroyed this is a fault (this project's
-- own choice).
abbrev pub field_assigned : Callees → (r index value : ℕ) → World → Object → Outcome Finished
field_assigned D r index value w o = if is_emptying o.phase then Faulted Resurrected w else released D (name_at o.strong index) (field_stores r o index value w)

-- a field that names an object takes a new value
abbrev pub object_field_set : Callees → (r class index value : ℕ) → World → Outcome Finished
object_field_set D r class index value w = in_object D class (object_at w.objects r) (field_assigned D r index value w) w

-- 1 where the two differ
abbrev pub difference : ℕ → ℕ → ℤ
difference a b = if nat_eq a b then pos 0 else pos 1

-- `true` says that the test is 0: then the second, and else the first (C99, sections 6.5.15 and 6.8.4.1)
abbrev pub chosen : {A : Type 0} → Bool → A → A → A
chosen true a b = b
chosen false a b = a

-- Evaluation goes from left to right. printf evaluates all values, then writes the bytes, and gives their number. An assignment gives what its left side holds then, which is its right side, converted before (C99, section 6.5.16).
-- A message evaluates its receiver and then its arguments; one to `super` goes to `self`, in a class method the first variable (OPL, "Messages to self and super").
-- Each object that a variable, `self`, a field, an assignment or a message gives is taken by a temporary (this project's own choice, stronger than ARC). A field's object is
-- evaluated before what is assigned to it, and once where it is updated, after which its number is read, then the right side evaluated, and then the new number
-- stored (C99, section 6.5.16.2; that the old number is read first is this project's own choice). A choice evaluates its test, and then one of the two alone (C99, section 6.5.15).
abbrev mutual
  pub evaluated : Callees → Value → World → Outcome ℤ
  evaluated D (Number n) w = Done n w
  evaluated D ReadByte w = Done (next_number w.input) (has_read w)
  evaluated D (Print pieces arguments) w =
      then_do (all_evaluated D arguments w) (λ given w1. let bytes = formatted pieces given.numbers in Done (byte_count bytes) (prints bytes w1))
  evaluated D (Unary operator kind a) w = then_do (evaluated D a w) (λ x w1. Done (applied operator kind x) w1)
  evaluated D (Binary operator kind a b) w =
      then_do (evaluated D a w) (λ x w1. then_do (evaluated D b w1) (λ y w2. or_fault (combined operator kind x y) w2))
  evaluated D (Conditional c a b) w = then_do (evaluated D c w) (λ x w1. chosen (is_zero x) (evaluated D a w1) (evaluated D b w1))
  evaluated D (Convert kind a) w = then_do (evaluated D a w) (λ x w1. Done (converted kind x) w1)
  evaluated D (Read i) w = Done (held_at i w) w
  evaluated D (AssignNumber i a) w = then_do (evaluated D a w) (λ x w1. Done x (holds i x w1))
  evaluated D (Update moment i operator computed kept a) w =
      let old = held_at i w in
      then_do (evaluated D a w) (λ x w1. then_do (updated operator computed kept old x w1) (λ new w2. Done (given_by moment old new) (holds i new w2)))
  evaluated D (Call f arguments) w = then_do (all_evaluated D arguments w) (λ given w1. number_given (D.call gives.Number f 0 given w1))
  evaluated D (Send receiver selector arguments) w =
      then_do (received D receiver w) (λ target w1. then_do (all_evaluated D arguments w1) (λ given w2. number_given (sent D gives.Number target selector given w2)))
  evaluated D (GetField a class index) w = then_do (referred D a w) (λ r w1. field_read D r class index w1)
  evaluated D (SetField a class index b) w = then_do (referred D a w) (λ r w1. then_do (evaluated D b w1) (λ v w2. field_set D r class index v w2))
  evaluated D (UpdateField moment a class index operator computed kept b) w =
      then_do (referred D a w) (λ r w1. then_do (field_read D r class index w1) (λ old w2. then_do (evaluated D b w2) (λ x w3.
      then_do (updated operator computed kept old x w3) (λ new w4. then_do (field_set D r class index new w4) (λ _ w5. Done (given_by moment old new) w5)))))
  evaluated D (NotSame a b) w = then_do (referred D a w) (λ x w1. then_do (referred D b w1) (λ y w2. Done (difference x y) w2))
  evaluated D (IsObject a) w = then_do (referred D a w) (λ x w1. Done (difference x 0) w1)

  pub referred : Callees → Reference → World → Outcome ℕ
  referred D Nil w = Done 0 w
  referred D Itself w = Done w.frame.self (takes w.frame.self w)
  referred D (Variable i) w = Done (named_at i w) (takes (named_at i w) w)
  referred D (ObjectConditional c a b) w = then_do (evaluated D c w) (λ x w1. chosen (is_zero x) (referred D a w1) (referred D b w1))
  referred D (AssignObject i a) w = then_do (referred D a w) (λ r w1. then_do (assigned D i r w1) (λ _ w2. Done r (takes r w2)))
  referred D (GetObjectField a class index) w = then_do (referred D a w) (λ r w1. object_field_read D r class index w1)
  referred D (SetObjectField a class index b) w =
      then_do (referred D a w) (λ r w1. then_do (referred D b w1) (λ value w2.
      then_do (object_field_set D r class index value w2) (λ _ w3. Done value (takes value w3))))
  referred D (Alloc a) w = then_do (evaluated D a w) (λ class w1. made D (class_at class) w1)
  referred D (New from a) w = then_do (evaluated D a w) (λ class w1. new_sent D from class w1)
  referred D (ObjectCall f arguments) w = then_do (all_evaluated D arguments w) (λ given w1. object_given (D.call gives.Object f 0 given w1))
  referred D (ObjectSend receiver selector arguments) w =
      then_do (received D receiver w) (λ target w1. then_do (all_evaluated D arguments w1) (λ given w2. object_given (sent D gives.Object target selector given w2)))

  pub received : Callees → Receiver → World → Outcome Target
  received D (ClassValue a) w = then_do (evaluated D a w) (λ class w1. Done (ToClass (class_at class) class) w1)
  received D (ClassSuper from) w = Done (ToClass (Some from) (local_at w.frame.locals 0)) w
  received D (ObjectValue a) w = then_do (referred D a w) (λ self w1. Done (ToObject self) w1)
  received D (ObjectSuper a from) w = then_do (referred D a w) (λ self w1. Done (ToSuper from self) w1)

  pub all_evaluated : Callees → Arguments → World → Outcome Given
  all_evaluated D no_arguments w = Done nothing_given w
  all_evaluated D (number_argument a others) w =
      then_do (evaluated D a w) (λ x w1. then_do (all_evaluated D others w1) (λ given w2. Done (and_number x given) w2))
  all_evaluated D (object_argument a others) w =
      then_do (referred D a w) (λ r w1. then_do (all_evaluated D others w1) (λ given w2. Done (and_object r given) w2))

-- full-expressions (C99, section 6.8): their temporaries are dropped at their end
abbrev pub full_expression : Callees → Value → World → Outcome ℤ
full_expression D a w = then_do (evaluated D a w) (λ v w1. then_do (all_dropped D w1) (λ _ w2. Done v w2))

abbrev pub full_object_expression : Callees → Reference → World → Outcome Finished
full_object_expression D a w = then_do (referred D a w) (λ _ w1. all_dropped D w1)

-- a variable begins with an object (ARC, "Ownership qualification")
abbrev pub begun : Callees → ℕ → Reference → World → Outcome Finished
begun D i a w = then_do (referred D a w) (λ r w1. then_do (assigned D (Local i) r w1) (λ _ w2. all_dropped D w2))

-- the place of the result of the running function, which is its last one
abbrev pub result_place : World → ℕ
result_place w = length w.frame.strong - 1

-- how a statement is left: at its end, by a `break`, by a `continue`, or by a return with a value (C99, section 6.8.6); an object that is returned is in its place then
pub data Flow : Type 0 where
  Normal : Flow
  Broken : Flow
  Continued : Flow
  Returned : ℤ → Flow

-- what follows a statement that was left at its end
abbrev pub if_normal : Flow → (World → Outcome Flow) → World → Outcome Flow
if_normal Normal go w = go w
if_normal flow go w = Done flow w

-- one after the other
abbrev pub in_turn : (one other : World → Outcome Flow) → World → Outcome Flow
in_turn one other w = then_do (one w) (λ flow w1. if_normal flow other w1)

-- what follows the body of a loop: a `continue` leaves the body alone, and a `break` the loop (C99, sections 6.8.6.2 and 6.8.6.3)
abbrev pub after_body : Flow → (World → Outcome Flow) → World → Outcome Flow
after_body Broken go w = Done Normal w
after_body (Returned v) go w = Done (Returned v) w
after_body _ go w = go w

-- a loop that begins with its test (C99, sections 6.8.5.1 and 6.8.5.3), which is cut where one turn more than the bound would begin
abbrev pub turns : (bound : ℕ) → (World → Outcome ℤ) → (step body : World → Outcome Flow) → World → Outcome Flow
turns zero test step body w = then_do (test w) (λ v w1. chosen (is_zero v) (Cut w1) (Done Normal w1))
turns (suc n) test step body w =
    then_do (test w) (λ v w1. chosen (is_zero v) (then_do (body w1) (λ flow w2. after_body flow (in_turn step (turns n test step body)) w2)) (Done Normal w1))

-- a loop with its test before or after each turn; where it is after, the first turn has none, and then the loop goes on as one that begins with its test (C99, section 6.8.5.2)
abbrev pub looped : Moment → (bound : ℕ) → (World → Outcome ℤ) → (step body : World → Outcome Flow) → World → Outcome Flow
looped Before bound test step body w = turns bound test step body w
looped After zero test step body w = Cut w
looped After (suc n) test step body w = then_do (body w) (λ flow w1. after_body flow (in_turn step (turns n test step body)) w1)

-- a block's own variables are dropped at its end, and where a `break` or a `continue` leaves it; where a return does, the function drops them
abbrev pub scope_left : Callees → (first count : ℕ) → Flow → World → Outcome Flow
scope_left D first count (Returned v) w = Done (Returned v) w
scope_left D first count flow w = then_do (variables_dropped D first count w) (λ _ w1. Done flow w1)

abbrev pub normally : Outcome Finished → Outcome Flow
normally o = then_do o (λ _ w. Done Normal w)

-- `bound` is how many turns each running of a loop may make
abbrev mutual
  pub executed : Callees → (bound : ℕ) → Command → World → Outcome Flow
  executed D bound (Sequence first count all) w = then_do (all_executed D bound all w) (λ flow w1. scope_left D first count flow w1)
  executed D bound (Evaluate a) w = then_do (full_expression D a w) (λ _ w1. Done Normal w1)
  executed D bound (EvaluateReference a) w = normally (full_object_expression D a w)
  executed D bound (InitVariable i a) w = normally (begun D i a w)
  executed D bound (Return None) w = Done (Returned (pos 0)) w
  executed D bound (Return (Some a)) w = then_do (full_expression D a w) (λ v w1. Done (Returned v) w1)
  executed D bound (Give a) w = then_do (begun D (result_place w) a w) (λ _ w1. Done (Returned (pos 0)) w1)
  executed D bound (If test a b) w = then_do (full_expression D test w) (λ v w1. chosen (is_zero v) (executed D bound a w1) (executed D bound b w1))
  executed D bound (While moment test step body) w = looped moment bound (full_expression D test) (executed D bound step) (executed D bound body) w
  executed D bound Break w = Done Broken w
  executed D bound Continue w = Done Continued w

  pub all_executed : Callees → (bound : ℕ) → Commands → World → Outcome Flow
  all_executed D bound no_commands w = Done Normal w
  all_executed D bound (and_command c others) w = then_do (executed D bound c w) (λ flow w1. if_normal flow (all_executed D bound others) w1)

-- a function that reaches its end gives 0 (C99, section 5.1.2.2.3, for main; for all others this project's choice); a `break` and a `continue` are in loops alone
abbrev pub given : Flow → ℤ
given (Returned v) = v
given _ = pos 0

-- a function that does nothing, and gives 0 or nil
abbrev pub nothing_giving : Gives → Function
nothing_giving wanted = record { slots = 0; names = 0; parameters = 0; gives = wanted; owns = false; body = no_commands }

-- the function of a number, of which this is wanted; one that there isn't, or that gives something else, does nothing
abbrev pub function_at : Program → (wanted : Gives) → ℕ → Function
function_at P wanted f =
    option_map_or (λ g. if same_gives g.gives wanted then g else nothing_giving wanted) (slice_get P.functions f) (nothing_giving wanted)

-- how many strong places a function has but for its temporaries: its variables and, where it gives an object, the place of its result
abbrev pub function_places : Function → ℕ
function_places f = if same_gives f.gives gives.Object then suc f.names else f.names

-- what a function gives that is left in this way: the place of its result names nothing, where it has none
abbrev pub answer : Function → Flow → World → Answer
answer f flow w = record { number = given flow; object = name_at w.frame.strong f.names }

-- A call: the function runs with variables of its own, and after it the caller's are there again. The variables that name objects are dropped at its end, also
-- after a return, and the parameters among them last; those of blocks that were left before name nothing by then. Its result isn't dropped.
abbrev pub called : Callees → (bound : ℕ) → Function → (self : ℕ) → Given → World → Outcome Answer
called D bound f self given_to w =
    then_do (all_executed D bound f.body (entered f.slots (function_places f) f.parameters f.owns self given_to w)) (λ flow w1.
    then_do (variables_dropped D 0 f.names w1) (λ _ w2. Done (answer f flow w2) (left w w2)))

-- ---- the end of an object (ARC, "dealloc")

-- what the dealloc of a class does
abbrev pub dealloc_run : Program → Callees → (bound : ℕ) → Option ℕ → (o : ℕ) → World → Outcome Finished
dealloc_run P D bound None o w = Done finished w
dealloc_run P D bound (Some f) o w = then_do (called D bound (function_at P gives.Number f) o nothing_given w) (λ _ w1. Done finished w1)

-- what the deallocs of these classes do, each once (ARC, "dealloc")
abbrev pub deallocs_run : Program → Callees → (bound : ℕ) → (classes : List ℕ) → (o : ℕ) → World → Outcome Finished
deallocs_run P D bound [] o w = Done finished w
deallocs_run P D bound (class ∷ others) o w =
    then_do (dealloc_run P D bound (own_dealloc (slice_get P.classes class)) o w) (λ _ w1. deallocs_run P D bound others o w1)

-- an object in another phase
abbrev pub turned : Phase → (o : ℕ) → Option Object → World → World
turned phase o None w = w
turned phase o (Some ob) w = record w { objects = with_object w.objects o (in_phase phase ob) }

-- an object is gone, unless a strong place names it again (this project's own choice)
abbrev pub gone : (o : ℕ) → World → Outcome Finished
gone o w = if names o (places w) then Faulted Resurrected w else Done finished (turned Gone o (object_at w.objects o) w)

-- its dealloc begins: this is shown with its number and its class (the event is this project's own choice)
abbrev pub dying : (o : ℕ) → Option Object → World → World
dying o None w = w
dying o (Some ob) w = shows (Dealloc o ob.class ∷ []) (turned Dying o (Some ob) w)

-- a field of an object is dropped: it is nil, and what it named may end, one level deeper
abbrev pub field_dropped : Callees → (o index : ℕ) → Option Object → World → Outcome Finished
field_dropped D o index None w = Done finished w
field_dropped D o index (Some ob) w = released D (name_at ob.strong index) (field_stores o ob index 0 w)

-- the fields of an object are dropped, in this order (ARC, "dealloc")
abbrev pub fields_dropped : Callees → (order : List ℕ) → (o : ℕ) → World → Outcome Finished
fields_dropped D [] o w = Done finished w
fields_dropped D (index ∷ others) o w = then_do (field_dropped D o index (object_at w.objects o) w) (λ _ w1. fields_dropped D others o w1)

-- the fields of an object that name objects are destroyed: those of its class first, and then those of the classes above it
abbrev pub emptied : Callees → (o : ℕ) → Option Object → World → Outcome Finished
emptied D o None w = Done finished w
emptied D o (Some ob) w = fields_dropped D (field_order D.classes ob.class) o (turned Emptying o (Some ob) w)

-- The end of an object: the deallocs of its class and of those above it run, up to the root; then its fields that name objects are destroyed; and then it is gone
-- (ARC, "dealloc").
abbrev pub ended : Program → Callees → (bound : ℕ) → (o : ℕ) → World → Outcome Finished
ended P D bound o w =
    then_do (deallocs_run P D bound (ancestry (superclasses P.classes) (class_in (object_at w.objects o))) o (dying o (object_at w.objects o) w)) (λ _ w1.
    then_do (emptied D o (object_at w1.objects o) w1) (λ _ w2. gone o w2))

-- calls and ends of objects where so many levels are left: with none they are a fault
abbrev pub level : Program → (bound levels : ℕ) → Callees
level P bound zero = record { call = λ wanted f self given w. Faulted Depth w; end_of = λ o w. Faulted Depth w; classes = P.classes }
level P bound (suc n) = record {
  call = λ wanted f self given w. called (level P bound n) bound (function_at P wanted f) self given w;
  end_of = λ o w. ended P (level P bound n) bound o w;
  classes = P.classes;
}

-- the meaning of a program on an input, with a bound on the turns of each loop: main's value, as an int
abbrev pub mean : Program → List ℕ → (bound : ℕ) → Outcome ℤ
mean P input bound =
    then_do ((level P bound MOST_LEVELS).call gives.Number P.main 0 nothing_given (first_world P.globals P.strong_globals input)) (λ a w. Done (converted k.Int a.number) w)
