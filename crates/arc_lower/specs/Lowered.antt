-- Which actions a checked program becomes. A function's variables lie on the stack, the first one deepest, and its
-- operands above them. An expression leaves one number more on the stack, or one reference more, and a statement leaves
-- both as they were. Temporaries hold what references name, and are dropped together, at the end of the
-- full-expression.
use Rattle.std.specs.Prelude.{ℕ, zero, suc, pred, ◌+◌, ◌-◌, ◌/◌, Bool, true, false, nat_lt, if◌then◌else◌, pos, List, [], ◌∷◌, ◌++◌, length, take, drop, slice_get, slice_index_or, Option, Some, None}
use Rattle.std.specs.List.{list_any}
use Rattle.arc_ast.specs.declared.tree.BinaryOperator.{BinaryOperator}
use Rattle.arc_ast.specs.declared.tree.Kind.{Kind}
use Rattle.arc_ast.specs.declared.tree.Kind.TheVariants as k
use Rattle.arc_ast.specs.declared.tree.Moment.{Moment}
use Rattle.arc_ast.specs.declared.tree.Moment.TheVariants.{Before, After}
use Rattle.arc_spec.specs.declared.location.Location.{Location}
use Rattle.arc_spec.specs.declared.location.Location.TheVariants.{Local, Global}
use Rattle.arc_spec.specs.Resolved.{Piece, Bytes, Decimal, Character, Value, Number, ReadByte, Print, Unary, Binary, Conditional, Convert, AssignNumber, Update, Receiver, ClassValue, ClassSuper, ObjectValue, ObjectSuper, UpdateField, Reference, Itself, Variable, ObjectConditional, AssignObject, GetObjectField, SetObjectField, New, ObjectCall, ObjectSend, Arguments, no_arguments, number_argument, object_argument, Command, Sequence, Evaluate, EvaluateReference, InitVariable, Give, If, While, Break, Continue, Commands, no_commands, and_command, Function, Program}
use Rattle.arc_spec.specs.Resolved as resolved
use Rattle.arc_spec.specs.declared.class.Method.{Method}
use Rattle.arc_spec.specs.declared.class.Gives.{Gives}
use Rattle.arc_spec.specs.declared.class.Gives.TheVariants as gives
use Rattle.arc_spec.specs.Classes.{Class, same_gives, new_selector, init_selector}
use Rattle.arc_spec.specs.Meaning.{function_at, nothing_giving, function_places}
use Rattle.arc_code.specs.declared.code.TheConstants.{MOST_TEXT}
use Rattle.arc_code.specs.declared.instr.Op.{Op}
use Rattle.arc_code.specs.declared.instr.Op.TheVariants.{Num, Bin, Un, Narrow, Pop, Get, Set, PrintNum, PrintByte, GetChar, Declare, Nil, ReadSelf, ReadRef, ReadGlobal, ReadField, Hold, Forget, Alloc, Finds, GetField, SetField, NotSame, IsObject}
use Rattle.arc_code.specs.declared.instr.Op.TheVariants as ops
use Rattle.arc_code.specs.declared.instr.Instr.TheVariants.{Plain, PrintText, Jump, JumpZero, Call, Send, SendSuper, SendTo, SendToSuper, StoreStrong, StoreGlobal, StoreField, Empty, DropAll, Settle, Return, EndStep}
use Rattle.arc_code.specs.declared.instr.Instr.TheVariants as instrs
use Rattle.arc_code.specs.Effects.{effect, passes}
use Rattle.arc_ir.specs.declared.action.Target.TheVariants.{Skip, Back, At}
use Rattle.arc_lower.specs.declared.frame.Turn.{Turn}
use Rattle.arc_lower.specs.declared.frame.Scope.{Scope}
use Rattle.arc_lower.specs.PlainActions.{PlainAction}
use Rattle.arc_lower.specs.KnownKinds.{is_within, binary_kind, known_kind}
use Rattle.arc_lower.specs.Size.{number_count, object_count, owned_by, object_parameters, has_new, unused, does_nothing}

-- prints the first of so many values that lie below the count of bytes, the first one deepest; nothing where there is none
abbrev pub conversion_actions : PlainAction → (left : ℕ) → List PlainAction
conversion_actions print zero = []
conversion_actions print (suc left) = Plain (Get (suc left)) ∷ print ∷ []

-- prints a text: so many parts of as many bytes as one instruction prints at most, and then the rest
abbrev pub part_actions : (full : ℕ) → (bytes : List ℕ) → List PlainAction
part_actions zero bytes = PrintText bytes ∷ []
part_actions (suc full) bytes = PrintText (take MOST_TEXT bytes) ∷ part_actions full (drop MOST_TEXT bytes)

-- prints a text; an empty text is one action that prints nothing (this project's own choice)
abbrev pub text_actions : (bytes : List ℕ) → List PlainAction
text_actions bytes = part_actions ((length bytes - 1) / MOST_TEXT) bytes

-- prints a piece of a format, where so many values aren't printed yet
abbrev pub piece_actions : Piece → (left : ℕ) → List PlainAction
piece_actions (Bytes bytes) left = text_actions bytes
piece_actions Decimal left = conversion_actions (Plain PrintNum) left
piece_actions Character left = conversion_actions (Plain PrintByte) left

-- how many values aren't printed yet after a piece
abbrev pub left_after : Piece → (left : ℕ) → ℕ
left_after (Bytes bytes) left = left
left_after Decimal left = pred left
left_after Character left = pred left

abbrev pub format_actions : List Piece → (left : ℕ) → List PlainAction
format_actions [] left = []
format_actions (piece ∷ others) left = piece_actions piece left ++ format_actions others (left_after piece left)

-- takes so many numbers
abbrev pub pop_actions : ℕ → List PlainAction
pop_actions zero = []
pop_actions (suc n) = Plain Pop ∷ pop_actions n

-- puts the top number in the place of the last of so many numbers below it, and takes the others
abbrev pub keep_actions : ℕ → List PlainAction
keep_actions zero = []
keep_actions (suc n) = Plain (Set n) ∷ pop_actions n

-- prints a format after its values, and leaves the count of bytes alone, as an int
abbrev pub print_actions : List Piece → (values : ℕ) → List PlainAction
print_actions pieces n = Plain (Num (pos 0)) ∷ [] ++ (format_actions pieces n ++ (Plain (Narrow k.Int) ∷ [] ++ keep_actions n))

-- the number of a variable, above which so many operands lie where it is one of the function; 0 for one that there isn't
abbrev pub get_actions : (slots depth : ℕ) → Location → List PlainAction
get_actions slots depth (Global i) = Plain (ops.GetGlobal i) ∷ []
get_actions slots depth (Local i) = if nat_lt i slots then Plain (Get (depth + (slots - suc i))) ∷ [] else Plain (Num (pos 0)) ∷ []

-- puts a copy of the top number, below which so many operands lie, in a variable's place, where there is one
abbrev pub set_actions : (slots depth : ℕ) → Location → List PlainAction
set_actions slots depth (Global i) = Plain (Get 0) ∷ Plain (ops.SetGlobal i) ∷ []
set_actions slots depth (Local i) = if nat_lt i slots then Plain (Get 0) ∷ Plain (Set (suc depth + (slots - suc i))) ∷ [] else []

-- puts 0 on the stack so many times
abbrev pub zero_actions : ℕ → List PlainAction
zero_actions zero = []
zero_actions (suc n) = Plain (Num (pos 0)) ∷ zero_actions n

-- makes so many numbers on top the variables of a function: those beyond are taken, and those that lack are 0
abbrev pub fit_actions : (values slots : ℕ) → List PlainAction
fit_actions values slots = pop_actions (values - slots) ++ zero_actions (slots - values)

-- takes so many references
abbrev pub forget_actions : ℕ → List PlainAction
forget_actions zero = []
forget_actions (suc n) = Plain Forget ∷ forget_actions n

-- so many references to nil
abbrev pub nil_actions : ℕ → List PlainAction
nil_actions zero = []
nil_actions (suc n) = Plain Nil ∷ nil_actions n

-- makes so many references, the last ones, those of the parameters of a function: those beyond are taken, and those that lack are nil
abbrev pub fit_object_actions : (objects parameters : ℕ) → List PlainAction
fit_object_actions objects parameters = forget_actions (objects - parameters) ++ nil_actions (parameters - objects)

-- so many variables that name objects
abbrev pub declare_actions : ℕ → List PlainAction
declare_actions zero = []
declare_actions (suc n) = Plain Declare ∷ declare_actions n

-- so many variables, from the first one on, take what the last references name, the last one first; the references are taken
abbrev pub take_actions : (first count : ℕ) → List PlainAction
take_actions first zero = []
take_actions first (suc n) = StoreStrong (first + n) ∷ Plain Forget ∷ take_actions first n

-- the first variable of so many takes `self`
abbrev pub own_actions : (names : ℕ) → List PlainAction
own_actions zero = []
own_actions (suc n) = Plain ReadSelf ∷ StoreStrong 0 ∷ Plain Forget ∷ DropAll ∷ []

-- names what a variable names, and a temporary takes it; nil for a variable that there isn't
abbrev pub read_actions : (names : ℕ) → Location → List PlainAction
read_actions names (Global i) = Plain (ReadGlobal i) ∷ []
read_actions names (Local i) = if nat_lt i names then Plain (ReadRef i) ∷ [] else Plain Nil ∷ Plain Hold ∷ []

-- a variable takes what the last reference names, where there is such a variable
abbrev pub store_actions : (names : ℕ) → Location → List PlainAction
store_actions names (Global i) = StoreGlobal i ∷ []
store_actions names (Local i) = if nat_lt i names then StoreStrong i ∷ [] else []

-- whether an action has a temporary take an object
abbrev pub action_takes : PlainAction → Bool
action_takes x = nat_lt 0 (effect x).temporaries

-- drops the temporaries after actions that take some
abbrev pub drop_actions : List PlainAction → List PlainAction
drop_actions xs = if list_any action_takes xs then DropAll ∷ [] else []

-- empties a variable, where there is one
abbrev pub empty_actions : (names i : ℕ) → List PlainAction
empty_actions names i = if nat_lt i names then Empty i ∷ [] else []

-- empties so many variables, from the first one on, in the reverse of their order
abbrev pub all_empty_actions : (names first count : ℕ) → List PlainAction
all_empty_actions names first zero = []
all_empty_actions names first (suc n) = empty_actions names (first + n) ++ all_empty_actions names first n

-- A function that gives 0 stands after the others, and one that gives nil: one that there isn't, or that gives
-- something else than is wanted, is called as one of these.
abbrev pub all_functions : Program → List Function
all_functions P = P.functions ++ nothing_giving gives.Number ∷ nothing_giving gives.Object ∷ []

abbrev pub number_of_nothing : Program → (wanted : Gives) → ℕ
number_of_nothing P gives.Number = length P.functions
number_of_nothing P gives.Object = suc (length P.functions)

abbrev pub gives_at : Program → (wanted : Gives) → (f : ℕ) → Bool
gives_at P wanted f = gives_of (slice_get P.functions f)
  where
    gives_of : Option Function → Bool
    gives_of None = false
    gives_of (Some g) = same_gives g.gives wanted

abbrev pub number_of : Program → (wanted : Gives) → (f : ℕ) → ℕ
number_of P wanted f = if gives_at P wanted f then f else number_of_nothing P wanted

abbrev pub slots_of : Program → (wanted : Gives) → (f : ℕ) → ℕ
slots_of P wanted f = (function_at P wanted f).slots

abbrev pub parameters_of : Program → (wanted : Gives) → (f : ℕ) → ℕ
parameters_of P wanted f = object_parameters (function_at P wanted f)

-- makes so many numbers and so many references what a function takes
abbrev pub passing_actions : Program → (wanted : Gives) → (f values objects : ℕ) → List PlainAction
passing_actions P wanted f values objects = fit_actions values (slots_of P wanted f) ++ fit_object_actions objects (parameters_of P wanted f)

-- calls a function with so many numbers and so many objects
abbrev pub call_actions : Program → (wanted : Gives) → (f values objects : ℕ) → List PlainAction
call_actions P wanted f values objects = passing_actions P wanted f values objects ++ Call (number_of P wanted f) wanted ∷ []

-- makes an object of the class on top, and gives what `init` of it gives, of which alone a temporary is left
abbrev pub making_actions : List PlainAction
making_actions = Plain Alloc ∷ SendTo init_selector 0 0 gives.Object ∷ Settle ∷ []

-- who gets a message: a class, `super` in a class method, an object, or `super`
pub data Message : Type 0 where
  ToClass : (selector : ℕ) → Message
  ToSuperClass : (from selector : ℕ) → Message
  ToObject : (selector : ℕ) → Message
  ToSuper : (from selector : ℕ) → Message

-- Where a loop is entered: at its step, at its test, or at its body. A turn is the step, the test and the body, one after another.
pub data Entry : Type 0 where
  AtStep : Entry
  AtTest : Entry
  AtBody : Entry

-- What a part of a function does, and where control goes. A variable that holds a number lies below so many operands.
pub data Block : Type 0 where
  -- nothing
  Idle : Block
  -- an operation on operands and temporaries
  One : Op → Block
  -- a variable is read, and takes the number on top
  Load : (depth : ℕ) → Location → Block
  Store : (depth : ℕ) → Location → Block
  -- a variable that names an object is read, and takes what the last reference names
  Read : Location → Block
  Assign : Location → Block
  -- a field of the object of the reference before the last one takes what that names
  AssignField : (class index : ℕ) → Block
  -- so many variables are emptied, from the first one on
  Clear : (first count : ℕ) → Block
  -- a format, a call and a message, with so many numbers and so many objects; a call and a message want a number or an object
  Format : List Piece → (values objects : ℕ) → Block
  Calls : (wanted : Gives) → (f values objects : ℕ) → Block
  SendsMessage : (wanted : Gives) → Message → (values objects : ℕ) → Block
  -- what the root's `new` does with the class on top
  Making : Block
  -- the first where a class, or one above it, has a `new` of its own, else the second
  IfNew : (class : ℕ) → Block → Block → Block
  -- the place of the result takes what the last reference names
  Answer : Block
  -- one after another
  Then : Block → Block → Block
  -- takes a number: the first where it isn't 0, else the second
  Fork : Block → Block → Block
  -- the step, the test, which leaves a number, and the body while that isn't 0
  Loop : Entry → (step test body : Block) → Block
  -- leaves the loop in whose body it stands
  Quit : Block
  -- goes on with the next turn of that loop
  Advance : Block
  -- a full-expression and what is done with its value; then the temporaries are dropped, where it takes any
  FullExpression : Block → Block → Block
  -- leaves the function at its exit, with its result on top
  Leave : (exit : ℕ) → Block

abbrev pub message_action : (wanted : Gives) → Message → (values objects : ℕ) → PlainAction
message_action wanted (ToClass selector) n m = Send selector n m wanted
message_action wanted (ToSuperClass from selector) n m = SendSuper from selector n m wanted
message_action wanted (ToObject selector) n m = SendTo selector n m wanted
message_action wanted (ToSuper from selector) n m = SendToSuper from selector n m wanted

-- where no loop's turn is
abbrev pub no_turn : Turn
no_turn = record { begin = 0; out = 0 }

-- Where a block stands: inside a full-expression, or between others, from a place on, in the body of a loop whose turn
-- begins at one place, and which is left at another where its test gave 0.
pub data Spot : Type 0 where
  Inside : Spot
  Between : (here : ℕ) → Turn → Spot

-- so many actions further
abbrev pub past : ℕ → Spot → Spot
past n Inside = Inside
past n (Between here turn) = Between (here + n) turn

abbrev pub turn_at : Spot → Turn
turn_at Inside = no_turn
turn_at (Between here turn) = turn

-- the body of a loop whose turn begins here, with so many actions of its step and of its test
abbrev pub body_spot : (steps tests : ℕ) → Spot → Spot
body_spot steps tests Inside = Inside
body_spot steps tests (Between here turn) = Between (here + steps + tests + 1) (record { begin = here; out = here + steps + tests })

-- the jump by which a loop is entered elsewhere than where its turn begins
abbrev pub enter_actions : Entry → (steps tests : ℕ) → List PlainAction
enter_actions AtStep steps tests = []
enter_actions AtTest steps tests = Jump (Skip steps) ∷ []
enter_actions AtBody steps tests = Jump (Skip (steps + tests + 1)) ∷ []

-- how many actions that is
abbrev pub enter_size : Entry → ℕ
enter_size AtStep = 0
enter_size _ = 1

-- a turn, which goes on with the next one
abbrev pub turn_actions : (steps tests body : List PlainAction) → List PlainAction
turn_actions steps tests body =
    steps ++ (tests ++ (JumpZero (Skip (suc (length body))) ∷ [] ++ (body ++ Jump (Back (suc (length steps + length tests + length body))) ∷ [])))

-- The actions of a block, in a function with so many variables that hold numbers and so many that name objects. What
-- leaves a loop gives the 0 for which its test leaves it.
abbrev pub flat : Program → (slots names : ℕ) → Spot → Block → List PlainAction
flat P slots names e Idle = []
flat P slots names e (One o) = Plain o ∷ []
flat P slots names e (Load depth i) = get_actions slots depth i
flat P slots names e (Store depth i) = set_actions slots depth i
flat P slots names e (Read i) = read_actions names i
flat P slots names e (Assign i) = store_actions names i
flat P slots names e (Clear first count) = all_empty_actions names first count
flat P slots names e (AssignField class index) = StoreField class index ∷ []
flat P slots names e (Format pieces n m) = forget_actions m ++ print_actions pieces n
flat P slots names e (Calls wanted f n m) = call_actions P wanted f n m
flat P slots names e (SendsMessage wanted message n m) = message_action wanted message n m ∷ []
flat P slots names e Making = making_actions
flat P slots names e (IfNew class a b) = if has_new P class then flat P slots names e a else flat P slots names e b
flat P slots names e Answer = store_actions names (Local (names - 1))
flat P slots names e (Then a b) =
    let xs = flat P slots names e a in
    xs ++ flat P slots names (past (length xs) e) b
flat P slots names e (Fork a b) =
    let first = flat P slots names (past 1 e) a in
    let second = flat P slots names (past 1 (past (length first) (past 1 e))) b in
    JumpZero (Skip (suc (length first))) ∷ [] ++ (first ++ (Jump (Skip (length second)) ∷ [] ++ second))
flat P slots names e (Loop entry step test body) =
    let begin = past (enter_size entry) e in
    let steps = flat P slots names begin step in
    let tests = flat P slots names (past (length steps) begin) test in
    enter_actions entry (length steps) (length tests) ++ turn_actions steps tests (flat P slots names (body_spot (length steps) (length tests) begin) body)
flat P slots names e Quit = Plain (Num (pos 0)) ∷ Jump (At (turn_at e).out) ∷ []
flat P slots names e Advance = Jump (At (turn_at e).begin) ∷ []
flat P slots names e (FullExpression a b) =
    let xs = flat P slots names Inside a in
    xs ++ (flat P slots names Inside b ++ drop_actions xs)
flat P slots names e (Leave exit) = Jump (At exit) ∷ []

-- An update has the old number on top. Where it gives that, a copy of it lies below what follows,
abbrev pub old_block : Moment → Block
old_block Before = One (Get 0)
old_block After = Idle

-- and is left alone at the end.
abbrev pub given_block : Moment → Block
given_block Before = One Pop
given_block After = Idle

-- how many operands lie below the new number, where so many lie below the old one
abbrev pub below_new : Moment → (depth : ℕ) → ℕ
below_new Before depth = suc depth
below_new After depth = depth

-- a number of a known kind as one of another kind
abbrev pub narrow_block : (known kind : Kind) → Block
narrow_block known kind = if is_within known kind then Idle else One (Narrow kind)

-- what follows the old number: the right operand, the new number, and where it is stored
abbrev pub update_block : Moment → (right : Block) → BinaryOperator → (computed kept : Kind) → (store : Block) → Block
update_block moment right operator computed kept store =
    Then (old_block moment) (Then right (Then (One (Bin operator computed)) (Then (narrow_block (binary_kind operator computed) kept) (Then store (given_block moment)))))

-- how many operands lie below the arguments of a message: a class that gets it is one more
abbrev pub below_arguments : Receiver → (depth : ℕ) → ℕ
below_arguments (ClassValue a) depth = suc depth
below_arguments (ClassSuper from) depth = suc depth
below_arguments (ObjectValue a) depth = depth
below_arguments (ObjectSuper a from) depth = depth

abbrev pub message_to : Receiver → (selector : ℕ) → Message
message_to (ClassValue a) selector = ToClass selector
message_to (ClassSuper from) selector = ToSuperClass from selector
message_to (ObjectValue a) selector = ToObject selector
message_to (ObjectSuper a from) selector = ToSuper from selector

-- What `new` does, after the number of the class that gets it, where its method is looked up from a class, or from that
-- of the number: the class's own method is found when the program is lowered, where it is known.
abbrev pub new_block : (from : Option ℕ) → (class : Value) → Block
new_block (Some from) class = IfNew from (SendsMessage gives.Object (ToSuperClass from new_selector) 0 0) Making
new_block None (Number (pos c)) = IfNew c (SendsMessage gives.Object (ToClass new_selector) 0 0) Making
new_block None class = Then (One (Finds new_selector)) (Fork (SendsMessage gives.Object (ToClass new_selector) 0 0) Making)

-- An expression leaves one operand more. What gets a message lies below its arguments; one to `super` goes to `self`,
-- in a class method the first variable.
abbrev mutual
  pub value_block : (depth : ℕ) → Value → Block
  value_block depth (Number n) = One (Num n)
  value_block depth ReadByte = One GetChar
  value_block depth (Print pieces arguments) = Then (arguments_block depth arguments) (Format pieces (number_count arguments) (object_count arguments))
  value_block depth (Unary operator kind a) = Then (value_block depth a) (One (Un operator kind))
  value_block depth (Binary operator kind a b) = Then (value_block depth a) (Then (value_block (suc depth) b) (One (Bin operator kind)))
  value_block depth (Conditional c a b) = Then (value_block depth c) (Fork (value_block depth a) (value_block depth b))
  value_block depth (Convert kind a) = Then (value_block depth a) (narrow_block (known_kind a) kind)
  value_block depth (resolved.Read i) = Load depth i
  value_block depth (AssignNumber i a) = Then (value_block depth a) (Store depth i)
  value_block depth (Update moment i operator computed kept a) =
      let below = below_new moment depth in
      Then (Load depth i) (update_block moment (value_block (suc below) a) operator computed kept (Store below i))
  value_block depth (resolved.Call f arguments) = Then (arguments_block depth arguments) (Calls gives.Number f (number_count arguments) (object_count arguments))
  value_block depth (resolved.Send receiver selector arguments) =
      Then (receiver_block depth receiver) (Then (arguments_block (below_arguments receiver depth) arguments)
      (SendsMessage gives.Number (message_to receiver selector) (number_count arguments) (object_count arguments)))
  value_block depth (resolved.GetField a class index) = Then (reference_block depth a) (One (GetField class index))
  value_block depth (resolved.SetField a class index b) = Then (reference_block depth a) (Then (value_block depth b) (One (SetField class index)))
  value_block depth (UpdateField moment a class index operator computed kept b) =
      Then (reference_block depth a) (Then (One ops.Again) (Then (One (GetField class index))
      (update_block moment (value_block (suc (below_new moment depth)) b) operator computed kept (One (SetField class index)))))
  value_block depth (resolved.NotSame a b) = Then (reference_block depth a) (Then (reference_block depth b) (One NotSame))
  value_block depth (resolved.IsObject a) = Then (reference_block depth a) (One IsObject)

  -- leaves one reference more, to what it gives
  pub reference_block : (depth : ℕ) → Reference → Block
  reference_block depth resolved.Nil = One Nil
  reference_block depth Itself = One ReadSelf
  reference_block depth (Variable i) = Read i
  reference_block depth (ObjectConditional c a b) = Then (value_block depth c) (Fork (reference_block depth a) (reference_block depth b))
  reference_block depth (AssignObject i a) = Then (reference_block depth a) (Then (Assign i) (One Hold))
  reference_block depth (GetObjectField a class index) = Then (reference_block depth a) (One (ReadField class index))
  reference_block depth (SetObjectField a class index b) =
      Then (reference_block depth a) (Then (reference_block depth b) (Then (AssignField class index) (One Hold)))
  reference_block depth (resolved.Alloc a) = Then (value_block depth a) (One Alloc)
  reference_block depth (New from a) = Then (value_block depth a) (new_block from a)
  reference_block depth (ObjectCall f arguments) = Then (arguments_block depth arguments) (Calls gives.Object f (number_count arguments) (object_count arguments))
  reference_block depth (ObjectSend receiver selector arguments) =
      Then (receiver_block depth receiver) (Then (arguments_block (below_arguments receiver depth) arguments)
      (SendsMessage gives.Object (message_to receiver selector) (number_count arguments) (object_count arguments)))

  -- leaves the class that gets a message as one operand more, or a reference to the object
  pub receiver_block : (depth : ℕ) → Receiver → Block
  receiver_block depth (ClassValue a) = value_block depth a
  receiver_block depth (ClassSuper from) = Load depth (Local 0)
  receiver_block depth (ObjectValue a) = reference_block depth a
  receiver_block depth (ObjectSuper a from) = reference_block depth a

  -- leaves an operand for each number, and a reference for each object
  pub arguments_block : (depth : ℕ) → Arguments → Block
  arguments_block depth no_arguments = Idle
  arguments_block depth (number_argument a others) = Then (value_block depth a) (arguments_block (suc depth) others)
  arguments_block depth (object_argument a others) = Then (reference_block depth a) (arguments_block depth others)

-- full-expressions
abbrev pub full_expression_block : Value → Block
full_expression_block a = FullExpression (value_block 0 a) Idle

abbrev pub full_object_expression_block : Reference → Block
full_object_expression_block a = FullExpression (reference_block 0 a) (One Forget)

-- a variable begins with an object
abbrev pub begin_block : ℕ → Reference → Block
begin_block i a = FullExpression (reference_block 0 a) (Then (Assign (Local i)) (One Forget))

-- an object is the result
abbrev pub answer_block : Reference → Block
answer_block a = FullExpression (reference_block 0 a) (Then Answer (One Forget))

-- leaves a function with 0
abbrev pub nothing_given : (exit : ℕ) → Block
nothing_given exit = Then (One (Num (pos 0))) (Leave exit)

-- a loop with its test before or after each turn, which jumps to where it begins, unless that is what comes first
abbrev pub entry : Moment → (without_step : Bool) → Entry
entry Before true = AtStep
entry Before false = AtTest
entry After without_step = AtBody

abbrev pub loop_block : Moment → (without_step : Bool) → (step test body : Block) → Block
loop_block moment without_step step test body = Loop (entry moment without_step) (if without_step then Idle else step) test body

-- A statement of a function that is left there leaves the operands as they were; a return without a value gives 0. A
-- `break` is one block, a `continue` another, which empty the scopes that they leave, the innermost first.
abbrev mutual
  pub command_block : (exit : ℕ) → (breaks continues : Block) → Command → Block
  command_block exit breaks continues (Sequence first count all) =
      Then (commands_block exit (Then (Clear first count) breaks) (Then (Clear first count) continues) all) (Clear first count)
  command_block exit breaks continues (Evaluate a) = Then (full_expression_block (unused a)) (One Pop)
  command_block exit breaks continues (EvaluateReference a) = full_object_expression_block a
  command_block exit breaks continues (InitVariable i a) = begin_block i a
  command_block exit breaks continues (resolved.Return None) = nothing_given exit
  command_block exit breaks continues (resolved.Return (Some a)) = Then (full_expression_block a) (Leave exit)
  command_block exit breaks continues (Give a) = Then (answer_block a) (nothing_given exit)
  command_block exit breaks continues (If test a b) = Then (full_expression_block test) (Fork (command_block exit breaks continues a) (command_block exit breaks continues b))
  command_block exit breaks continues (While moment test step body) =
      loop_block moment (does_nothing step) (command_block exit breaks continues step) (full_expression_block test) (command_block exit Quit Advance body)
  command_block exit breaks continues Break = breaks
  command_block exit breaks continues Continue = continues

  pub commands_block : (exit : ℕ) → (breaks continues : Block) → Commands → Block
  commands_block exit breaks continues no_commands = Idle
  commands_block exit breaks continues (and_command c others) = Then (command_block exit breaks continues c) (commands_block exit breaks continues others)

-- what a function does; it gives 0 at its end, and where a `break` or a `continue` in no loop leaves it
abbrev pub body_block : (exit : ℕ) → Commands → Block
body_block exit body = Then (commands_block exit (nothing_given exit) (nothing_given exit) body) (nothing_given exit)

-- ---- the actions of parts of a function

-- the actions of the parts of an update
abbrev pub old_actions : Moment → List PlainAction
old_actions Before = Plain (Get 0) ∷ []
old_actions After = []

abbrev pub given_actions : Moment → List PlainAction
given_actions Before = Plain Pop ∷ []
given_actions After = []

-- those of a conversion
abbrev pub narrow_actions : (known kind : Kind) → List PlainAction
narrow_actions known kind = if is_within known kind then [] else Plain (Narrow kind) ∷ []

abbrev pub value_actions : Program → (slots names depth : ℕ) → Value → List PlainAction
value_actions P slots names depth a = flat P slots names Inside (value_block depth a)

abbrev pub reference_actions : Program → (slots names depth : ℕ) → Reference → List PlainAction
reference_actions P slots names depth a = flat P slots names Inside (reference_block depth a)

abbrev pub receiver_actions : Program → (slots names depth : ℕ) → Receiver → List PlainAction
receiver_actions P slots names depth a = flat P slots names Inside (receiver_block depth a)

abbrev pub argument_actions : Program → (slots names depth : ℕ) → Arguments → List PlainAction
argument_actions P slots names depth all = flat P slots names Inside (arguments_block depth all)

-- those of a call and of a message, and of `new` of the class on top, of which the program finds out whether it has such a method
abbrev pub invoked_actions : Program → (slots names depth : ℕ) → (wanted : Gives) → (f : ℕ) → Arguments → List PlainAction
invoked_actions P slots names depth wanted f arguments =
    flat P slots names Inside (Then (arguments_block depth arguments) (Calls wanted f (number_count arguments) (object_count arguments)))

abbrev pub sent_actions : Program → (slots names depth : ℕ) → (wanted : Gives) → Receiver → (selector : ℕ) → Arguments → List PlainAction
sent_actions P slots names depth wanted receiver selector arguments =
    flat P slots names Inside (Then (receiver_block depth receiver) (Then (arguments_block (below_arguments receiver depth) arguments)
    (SendsMessage wanted (message_to receiver selector) (number_count arguments) (object_count arguments))))

abbrev pub new_found_actions : List PlainAction
new_found_actions =
    Plain (Finds new_selector) ∷ JumpZero (Skip 2) ∷ Send new_selector 0 0 gives.Object ∷ Jump (Skip 3) ∷ making_actions

abbrev pub full_expression_actions : Program → (slots names : ℕ) → Value → List PlainAction
full_expression_actions P slots names a = flat P slots names Inside (full_expression_block a)

abbrev pub full_object_expression_actions : Program → (slots names : ℕ) → Reference → List PlainAction
full_object_expression_actions P slots names a = flat P slots names Inside (full_object_expression_block a)

abbrev pub begin_actions : Program → (slots names i : ℕ) → Reference → List PlainAction
begin_actions P slots names i a = flat P slots names Inside (begin_block i a)

abbrev pub answer_actions : Program → (slots names : ℕ) → Reference → List PlainAction
answer_actions P slots names a = flat P slots names Inside (answer_block a)

-- Where a statement stands in a function: the place where that is left, the loop in whose body it is, where there is
-- one, and the scopes between the two, or those of the function, the innermost first.
pub record Surroundings : Type 0 where
  pub exit : ℕ
  pub turn : Option Turn
  pub scopes : List Scope

abbrev pub within_scopes : List Scope → Block → Block
within_scopes [] b = b
within_scopes (s ∷ others) b = Then (Clear s.first s.count) (within_scopes others b)

-- the actions that empty the variables of these scopes
abbrev pub scopes_actions : (names : ℕ) → List Scope → List PlainAction
scopes_actions names [] = []
scopes_actions names (s ∷ others) = all_empty_actions names s.first s.count ++ scopes_actions names others

abbrev pub leaving : (exit : ℕ) → Option Turn → (within_loop : Block) → Block
leaving exit None within_loop = nothing_given exit
leaving exit (Some turn) within_loop = within_loop

abbrev pub breaking : Surroundings → Block
breaking s = within_scopes s.scopes (leaving s.exit s.turn Quit)

abbrev pub continuing : Surroundings → Block
continuing s = within_scopes s.scopes (leaving s.exit s.turn Advance)

abbrev pub spot : (here : ℕ) → Option Turn → Spot
spot here None = Between here no_turn
spot here (Some turn) = Between here turn

abbrev pub command_actions : Program → (slots names here : ℕ) → Surroundings → Command → List PlainAction
command_actions P slots names here s c = flat P slots names (spot here s.turn) (command_block s.exit (breaking s) (continuing s) c)

abbrev pub commands_actions : Program → (slots names here : ℕ) → Surroundings → Commands → List PlainAction
commands_actions P slots names here s all = flat P slots names (spot here s.turn) (commands_block s.exit (breaking s) (continuing s) all)

-- what a function begins with: its places of objects, of which the first take `self`, where it owns that, and what it is given
abbrev pub opening_actions : Function → List PlainAction
opening_actions f =
    declare_actions (function_places f) ++ (take_actions (owned_by f) (object_parameters f) ++ (if f.owns then own_actions (function_places f) else []))

-- what a function does from its entry on, which is at this place
abbrev pub body_actions : Program → (exit entry : ℕ) → Function → List PlainAction
body_actions P exit entry f =
    let opening = opening_actions f in
    opening ++ flat P f.slots (function_places f) (Between (entry + length opening) no_turn) (body_block exit f.body)

abbrev pub leaving_action : Gives → PlainAction
leaving_action gives.Number = Return
leaving_action gives.Object = instrs.Give

-- leaves a function: its variables that name objects are emptied, and the number on top is put in the place of those
-- that hold numbers, as its result, or as one that nobody uses, where it gives an object
abbrev pub leave_actions : Function → List PlainAction
leave_actions f = all_empty_actions (function_places f) 0 f.names ++ (keep_actions f.slots ++ leaving_action f.gives ∷ [])

-- where a function is entered whose first action has this number
abbrev pub entry_of : (place : ℕ) → Function → ℕ
entry_of place f = place + length (leave_actions f)

-- a function: what leaves it stands before its entry
abbrev pub function_actions : Program → (place : ℕ) → Function → List PlainAction
function_actions P place f = leave_actions f ++ body_actions P place (entry_of place f) f

-- functions, one after the other
abbrev pub functions_actions : Program → (place : ℕ) → List Function → List PlainAction
functions_actions P place [] = []
functions_actions P place (f ∷ others) =
    let first = function_actions P place f in
    first ++ functions_actions P (place + length first) others

-- where each of them is entered
abbrev pub entries_from : Program → (place : ℕ) → List Function → List ℕ
entries_from P place [] = []
entries_from P place (f ∷ others) = entry_of place f ∷ entries_from P (place + length (function_actions P place f)) others

-- where a program begins: a call of main without arguments, and the end; and after it where the ends of objects go on
abbrev pub start_actions : Program → List PlainAction
start_actions P = call_actions P gives.Number P.main 0 0 ++ (Return ∷ [] ++ EndStep ∷ [])

-- where the ends of objects go on
abbrev pub end_step_of : Program → ℕ
end_step_of P = slots_of P gives.Number P.main + parameters_of P gives.Number P.main + 2

abbrev pub entries_of : Program → List ℕ
entries_of P = entries_from P (length (start_actions P)) (all_functions P)

-- A stub, to which a message goes, or the end of an object: it makes so many numbers and objects what a function takes,
-- and goes on where that is entered.
abbrev pub stub_actions : Program → (entries : List ℕ) → (wanted : Gives) → (values objects f : ℕ) → List PlainAction
stub_actions P entries wanted values objects f = passing_actions P wanted f values objects ++ Jump (At (slice_index_or entries (number_of P wanted f) 0)) ∷ []

-- the stubs of methods, one after the other
abbrev pub methods_actions : Program → (entries : List ℕ) → List Method → List PlainAction
methods_actions P entries [] = []
methods_actions P entries (m ∷ others) = stub_actions P entries m.gives (passes m.sign m.takes) m.objects m.runs ++ methods_actions P entries others

-- the stub of a dealloc, where there is one
abbrev pub dealloc_actions : Program → (entries : List ℕ) → Option ℕ → List PlainAction
dealloc_actions P entries None = []
dealloc_actions P entries (Some f) = stub_actions P entries gives.Number 0 0 f

-- the stub of a class's dealloc, and those of its methods
abbrev pub class_actions : Program → (entries : List ℕ) → Class → List PlainAction
class_actions P entries c = dealloc_actions P entries c.dealloc ++ methods_actions P entries c.methods

abbrev pub classes_actions : Program → (entries : List ℕ) → List Class → List PlainAction
classes_actions P entries [] = []
classes_actions P entries (c ∷ others) = class_actions P entries c ++ classes_actions P entries others

-- the methods, each of which runs its stub; the first stub begins at this place
abbrev pub linked_methods : Program → (entries : List ℕ) → (place : ℕ) → List Method → List Method
linked_methods P entries place [] = []
linked_methods P entries place (m ∷ others) =
    record { sign = m.sign; selector = m.selector; takes = m.takes; objects = m.objects; gives = m.gives; runs = place }
    ∷ linked_methods P entries (place + length (stub_actions P entries m.gives (passes m.sign m.takes) m.objects m.runs)) others

-- a dealloc runs its stub at this place
abbrev pub linked_dealloc : (place : ℕ) → Option ℕ → Option ℕ
linked_dealloc place None = None
linked_dealloc place (Some f) = Some place

abbrev pub linked_class : Program → (entries : List ℕ) → (place : ℕ) → Class → Class
linked_class P entries place c = record {
  superclass = c.superclass;
  methods = linked_methods P entries (place + length (dealloc_actions P entries c.dealloc)) c.methods;
  dealloc = linked_dealloc place c.dealloc;
  fields = c.fields;
}

abbrev pub linked_classes : Program → (entries : List ℕ) → (place : ℕ) → List Class → List Class
linked_classes P entries place [] = []
linked_classes P entries place (c ∷ others) = linked_class P entries place c ∷ linked_classes P entries (place + length (class_actions P entries c)) others

-- the start and all functions
abbrev pub running_actions : Program → List PlainAction
running_actions P = start_actions P ++ functions_actions P (length (start_actions P)) (all_functions P)

abbrev pub lowered : Program → List PlainAction
lowered P = running_actions P ++ classes_actions P (entries_of P) P.classes

abbrev pub classes_linked : Program → List Class
classes_linked P = linked_classes P (entries_of P) (length (running_actions P)) P.classes
