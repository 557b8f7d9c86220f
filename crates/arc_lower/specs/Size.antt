-- How many actions a program becomes, by its forms. `Lowered` says which actions they are, and the law
-- `actions_counted` that they are exactly so many. A form of which nothing is said here is one action beyond its parts.
use Rattle.std.specs.Prelude.{ℕ, zero, suc, ◌+◌, ◌-◌, ◌*◌, ◌/◌, Bool, true, false, ◌||◌, nat_lt, if◌then◌else◌, pos, List, [], ◌∷◌, length, is_some, Option, Some, None}
use Rattle.std.specs.List.{sum_by}
use Rattle.arc_ast.specs.declared.tree.Kind.{Kind}
use Rattle.arc_ast.specs.declared.tree.Moment.{Moment}
use Rattle.arc_ast.specs.declared.tree.Moment.TheVariants.{Before, After}
use Rattle.arc_ast.specs.declared.tree.Sign.TheVariants as signs
use Rattle.arc_spec.specs.declared.location.Location.{Location}
use Rattle.arc_spec.specs.declared.location.Location.TheVariants.{Local, Global}
use Rattle.arc_spec.specs.Resolved.{Piece, Bytes, Value, Number, ReadByte, Print, Unary, Binary, Conditional, Convert, Read, AssignNumber, Update, Call, Send, Receiver, ClassValue, ClassSuper, ObjectValue, ObjectSuper, GetField, SetField, UpdateField, NotSame, IsObject, Reference, Nil, Itself, Variable, ObjectConditional, AssignObject, GetObjectField, SetObjectField, Alloc, New, ObjectCall, ObjectSend, Arguments, no_arguments, number_argument, object_argument, Command, Sequence, Evaluate, EvaluateReference, InitVariable, Return, Give, If, While, Break, Continue, Commands, no_commands, and_command, Function, Program}
use Rattle.arc_spec.specs.declared.class.Method.{Method}
use Rattle.arc_spec.specs.declared.class.Gives.{Gives}
use Rattle.arc_spec.specs.declared.class.Gives.TheVariants as gives
use Rattle.arc_spec.specs.Classes.{Class, lookup, lesser, new_selector}
use Rattle.arc_spec.specs.Meaning.{function_at, function_places}
use Rattle.arc_code.specs.declared.code.TheConstants.{MOST_TEXT}
use Rattle.arc_code.specs.Effects.{passes}
use Rattle.arc_lower.specs.KnownKinds.{is_within, binary_kind, known_kind}

-- of how many actions a part of an expression is, and whether it takes an object: a temporary holds that to the end of the full-expression
pub record Size : Type 0 where
  pub actions : ℕ
  pub takes : Bool

-- so many actions that take no object
abbrev pub plain : ℕ → Size
plain n = record { actions = n; takes = false }

-- so many actions, one of which takes an object
abbrev pub taking : ℕ → Size
taking n = record { actions = n; takes = true }

-- one part after another
infixr 20 ◌and◌
abbrev pub ◌and◌ : Size → Size → Size
s and t = record { actions = s.actions + t.actions; takes = s.takes || t.takes }

-- by whether there is such a variable: one of the whole program, or one of so many of the function
abbrev pub by_variable : Location → (count : ℕ) → (there missing : ℕ) → ℕ
by_variable (Global i) count there missing = there
by_variable (Local i) count there missing = if nat_lt i count then there else missing

-- a conversion, none where each number of the kind that is known is one of the other
abbrev pub conversion_size : (known kind : Kind) → ℕ
conversion_size known kind = if is_within known kind then 0 else 1

-- an update that gives the old number copies it, and takes the new one at its end
abbrev pub copy_size : Moment → ℕ
copy_size Before = 2
copy_size After = 0

-- how many of the arguments are numbers, and how many objects
abbrev pub number_count : Arguments → ℕ
number_count no_arguments = 0
number_count (number_argument a others) = suc (number_count others)
number_count (object_argument a others) = number_count others

abbrev pub object_count : Arguments → ℕ
object_count no_arguments = 0
object_count (number_argument a others) = object_count others
object_count (object_argument a others) = suc (object_count others)

-- a format, with so many numbers: a text is printed by parts of so many bytes at most, an empty one by one action, and a number is copied and printed
abbrev pub format_size : List Piece → (numbers : ℕ) → ℕ
format_size [] numbers = 0
format_size (Bytes bytes ∷ pieces) numbers = suc ((length bytes - 1) / MOST_TEXT) + format_size pieces numbers
format_size (_ ∷ pieces) zero = format_size pieces zero
format_size (_ ∷ pieces) (suc n) = 2 + format_size pieces n

-- `printf` after its arguments: besides the format, an action for each of these, and the count of bytes, which begins at 0 and becomes an int
abbrev pub print_size : List Piece → (numbers objects : ℕ) → ℕ
print_size pieces numbers objects = format_size pieces numbers + numbers + objects + 2

-- how many of the variables of a function that name objects come before its parameters
abbrev pub owned_by : Function → ℕ
owned_by f = if f.owns then 1 else 0

-- how many objects a function takes: it has no more parameters than places after `self`
abbrev pub object_parameters : Function → ℕ
object_parameters f = lesser f.parameters (function_places f - owned_by f)

abbrev pub distance : ℕ → ℕ → ℕ
distance a b = (a - b) + (b - a)

-- How a function is entered with so many numbers and so many objects: an action for each by which these are more or
-- fewer than its variables that hold numbers and its parameters that name objects, and a call or a jump.
abbrev pub entering_size : Program → (wanted : Gives) → (f numbers objects : ℕ) → ℕ
entering_size P wanted f numbers objects =
    distance numbers (function_at P wanted f).slots + distance objects (object_parameters (function_at P wanted f)) + 1

-- whether a class has a `new` of its own, or one above it has
abbrev pub has_new : Program → (class : ℕ) → Bool
has_new P class = is_some (lookup P.classes (Some class) signs.Class new_selector 0 0 gives.Object)

-- `new` of a class: one message where the class has such a method, or inherits it, and else the three actions of the
-- root's; both and three to find out where it isn't known
abbrev pub new_size : Program → (from : Option ℕ) → Value → ℕ
new_size P (Some class) a = if has_new P class then 1 else 3
new_size P None (Number (pos class)) = if has_new P class then 1 else 3
new_size P None a = 7

-- An expression in a function. A choice has two jumps. A number is copied and then put into its variable. An update
-- reads the old number, computes the new one and stores it, in a field by a second reference to its object. What is
-- stored as an object is taken once more, and a variable that isn't there is nil, which is taken.
abbrev mutual
  pub value_size : Program → Function → Value → Size
  value_size P f (Print pieces given) = arguments_size P f given and plain (print_size pieces (number_count given) (object_count given))
  value_size P f (Unary operator kind a) = value_size P f a and plain 1
  value_size P f (Binary operator kind a b) = value_size P f a and value_size P f b and plain 1
  value_size P f (Conditional c a b) = value_size P f c and value_size P f a and value_size P f b and plain 2
  value_size P f (Convert kind a) = value_size P f a and plain (conversion_size (known_kind a) kind)
  value_size P f (AssignNumber i a) = value_size P f a and plain (by_variable i f.slots 2 0)
  value_size P f (Update moment i operator computed kept a) =
      value_size P f a and plain (2 + copy_size moment + conversion_size (binary_kind operator computed) kept + by_variable i f.slots 2 0)
  value_size P f (Call g given) = arguments_size P f given and plain (entering_size P gives.Number g (number_count given) (object_count given))
  value_size P f (Send receiver selector given) = receiver_size P f receiver and arguments_size P f given and plain 1
  value_size P f (GetField a class index) = reference_size P f a and plain 1
  value_size P f (SetField a class index b) = reference_size P f a and value_size P f b and plain 1
  value_size P f (UpdateField moment a class index operator computed kept b) =
      reference_size P f a and value_size P f b and plain (4 + copy_size moment + conversion_size (binary_kind operator computed) kept)
  value_size P f (NotSame a b) = reference_size P f a and reference_size P f b and plain 1
  value_size P f (IsObject a) = reference_size P f a and plain 1
  value_size P f _ = plain 1

  pub reference_size : Program → Function → Reference → Size
  reference_size P f Nil = plain 1
  reference_size P f Itself = taking 1
  reference_size P f (Variable i) = taking (by_variable i (function_places f) 1 2)
  reference_size P f (ObjectConditional c a b) = value_size P f c and reference_size P f a and reference_size P f b and plain 2
  reference_size P f (AssignObject i a) = reference_size P f a and taking (by_variable i (function_places f) 1 0 + 1)
  reference_size P f (GetObjectField a class index) = reference_size P f a and taking 1
  reference_size P f (SetObjectField a class index b) = reference_size P f a and reference_size P f b and taking 2
  reference_size P f (Alloc a) = value_size P f a and taking 1
  reference_size P f (New from a) = value_size P f a and taking (new_size P from a)
  reference_size P f (ObjectCall g given) = arguments_size P f given and taking (entering_size P gives.Object g (number_count given) (object_count given))
  reference_size P f (ObjectSend receiver selector given) = receiver_size P f receiver and arguments_size P f given and taking 1

  pub receiver_size : Program → Function → Receiver → Size
  receiver_size P f (ClassValue a) = value_size P f a
  receiver_size P f (ClassSuper from) = plain 1
  receiver_size P f (ObjectValue a) = reference_size P f a
  receiver_size P f (ObjectSuper a from) = reference_size P f a

  pub arguments_size : Program → Function → Arguments → Size
  arguments_size P f no_arguments = plain 0
  arguments_size P f (number_argument a others) = value_size P f a and arguments_size P f others
  arguments_size P f (object_argument a others) = reference_size P f a and arguments_size P f others

-- a full-expression: where it takes objects, one action drops the temporaries
abbrev pub full_size : Size → ℕ
full_size s = s.actions + (if s.takes then 1 else 0)

-- An expression that does the same, where nobody uses the number that it gives: an update gives the new number then,
-- for which no copy of the old one is kept.
abbrev pub unused : Value → Value
unused (Update moment i operator computed kept a) = Update After i operator computed kept a
unused (UpdateField moment a class index operator computed kept b) = UpdateField After a class index operator computed kept b
unused a = a

-- whether a statement is one that does nothing
abbrev pub does_nothing : Command → Bool
does_nothing (Sequence first zero no_commands) = true
does_nothing _ = false

-- the end of a scope, at which so many variables are emptied, from the first one on, where the function has them
abbrev pub scope_size : Function → (first count : ℕ) → ℕ
scope_size f first count = lesser count (function_places f - first)

-- the jumps of a loop: one to its end, one back, and one to its beginning, where that isn't what comes first
abbrev pub loop_jumps : Moment → (without_step : Bool) → ℕ
loop_jumps Before true = 2
loop_jumps moment without_step = 3

-- A statement in a function, where a `break` and a `continue` are so many actions: they end the scopes that they leave,
-- and in the body of a loop the first gives its test a 0 and jumps, and the second jumps. One action drops the value of
-- an expression. A return jumps, and without a number it gives 0; an object is stored before in the last place, where
-- there is one. A choice has two jumps.
abbrev mutual
  pub command_size : Program → Function → (breaks continues : ℕ) → Command → ℕ
  command_size P f breaks continues (Sequence first count all) =
      let ends = scope_size f first count in
      commands_size P f (ends + breaks) (ends + continues) all + ends
  command_size P f breaks continues (Evaluate a) = full_size (value_size P f (unused a)) + 1
  command_size P f breaks continues (EvaluateReference a) = full_size (reference_size P f a) + 1
  command_size P f breaks continues (InitVariable i a) = full_size (reference_size P f a) + by_variable (Local i) (function_places f) 1 0 + 1
  command_size P f breaks continues (Return None) = 2
  command_size P f breaks continues (Return (Some a)) = full_size (value_size P f a) + 1
  command_size P f breaks continues (Give a) = full_size (reference_size P f a) + lesser 1 (function_places f) + 3
  command_size P f breaks continues (If test a b) =
      full_size (value_size P f test) + command_size P f breaks continues a + command_size P f breaks continues b + 2
  command_size P f breaks continues (While moment test step body) =
      loop_jumps moment (does_nothing step) + command_size P f breaks continues step + full_size (value_size P f test) + command_size P f 2 1 body
  command_size P f breaks continues Break = breaks
  command_size P f breaks continues Continue = continues

  pub commands_size : Program → Function → (breaks continues : ℕ) → Commands → ℕ
  commands_size P f breaks continues no_commands = 0
  commands_size P f breaks continues (and_command c others) = command_size P f breaks continues c + commands_size P f breaks continues others

-- A function declares its places, stores its parameters and forgets their references, and stores `self` by four actions
-- where it owns that. At its end it gives 0 and jumps, as a `break` and a `continue` do that are in no loop. Where it
-- is left its variables that name objects are emptied, those that hold numbers are taken, and one action goes back.
abbrev pub function_size : Program → Function → ℕ
function_size P f =
    let opening = function_places f + 2 * object_parameters f + 4 * lesser (owned_by f) (function_places f) in
    opening + commands_size P f 2 2 f.body + f.names + f.slots + 3

-- a method and a dealloc: messages and the ends of objects enter their functions there
abbrev pub method_size : Program → Method → ℕ
method_size P m = entering_size P m.gives m.runs (passes m.sign m.takes) m.objects

abbrev pub dealloc_size : Program → Option ℕ → ℕ
dealloc_size P None = 0
dealloc_size P (Some f) = entering_size P gives.Number f 0 0

abbrev pub class_size : Program → Class → ℕ
class_size P c = dealloc_size P c.dealloc + sum_by (method_size P) c.methods

-- A program: the call of main and two actions more; its functions, and two more that give 0 and nil, by 3 and 4 actions; and its classes.
unfoldable pub program_size : Program → ℕ
program_size P = entering_size P gives.Number P.main 0 0 + sum_by (function_size P) P.functions + sum_by (class_size P) P.classes + 9
