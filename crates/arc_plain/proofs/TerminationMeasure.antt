-- The measure by which the interpreter ends: how much of a program is left to go through, which falls with each call.
use Rattle.std.proofs.Common.{arith, ◌≡◌, ℕ, zero, suc, ◌+◌, ◌<◌, ◌≤◌, List, [], ◌∷◌, Some, None, Vec, Box, Global, length, get_or, sym, ap, subst}
use Rattle.arc_checked.specs.declared.program.Value as c
use Rattle.arc_checked.specs.declared.program.Reference as r
use Rattle.arc_checked.specs.declared.program.Receiver as rc
use Rattle.arc_checked.specs.declared.program.Argument as g
use Rattle.arc_checked.specs.declared.program.Argument.TheVariants.{Number', Object'}
use Rattle.arc_checked.specs.declared.program.Command as d
use Rattle.arc_checked.specs.declared.program.Piece.{Piece}
use Rattle.arc_checked.specs.declared.program.CheckedFunction.{CheckedFunction}
use Rattle.arc_checked.specs.declared.program.Checked.{Checked}
use Rattle.arc_spec.specs.Resolved.{Value, Number, ReadByte, Print, Unary, Binary, Conditional, Convert, Read, AssignNumber, Update, Call, Send, Receiver, ClassValue, ClassSuper, ObjectValue, ObjectSuper, GetField, SetField, UpdateField, NotSame, IsObject, Reference, Nil, Itself, Variable, ObjectConditional, AssignObject, GetObjectField, SetObjectField, Alloc, New, ObjectCall, ObjectSend, Arguments, no_arguments, number_argument, object_argument, Command, Sequence, Evaluate, EvaluateReference, InitVariable, Return, Give, If, While, Break, Continue, Commands, no_commands, and_command, Function}
use Rattle.arc_checked.specs.Checked.{program_of, functions, value, arguments, and_argument, reference, receiver, command, commands}
use Rattle.arc_checked.proofs.NodeParts.{is_print, is_invoked, is_sent, is_object_invoked, is_object_sent, is_sequence}
use Rattle.arc_plain.proofs.LoopsAndFailures.{nothing_below}
use Rattle.arc_plain.specs.declared.context.Context.{Context}

abbrev mutual
  pub value_weight : Value → ℕ
  value_weight (Number n) = 1
  value_weight ReadByte = 1
  value_weight (Print pieces arguments) = 2 + arguments_weight arguments
  value_weight (Unary operator kind a) = suc (value_weight a)
  value_weight (Binary operator kind a b) = 2 + value_weight a + value_weight b
  value_weight (Conditional c a b) = 2 + value_weight c + value_weight a + value_weight b
  value_weight (Convert kind a) = suc (value_weight a)
  value_weight (Read i) = 1
  value_weight (AssignNumber i a) = suc (value_weight a)
  value_weight (Update moment i operator computed kept a) = 2 + value_weight a
  value_weight (Call f arguments) = 2 + arguments_weight arguments
  value_weight (Send receiver selector arguments) = 3 + receiver_weight receiver + arguments_weight arguments
  value_weight (GetField a class index) = suc (reference_weight a)
  value_weight (SetField a class index b) = 2 + reference_weight a + value_weight b
  value_weight (UpdateField moment a class index operator computed kept b) = 2 + reference_weight a + value_weight b
  value_weight (NotSame a b) = 2 + reference_weight a + reference_weight b
  value_weight (IsObject a) = suc (reference_weight a)

  pub reference_weight : Reference → ℕ
  reference_weight Nil = 1
  reference_weight Itself = 1
  reference_weight (Variable i) = 1
  reference_weight (ObjectConditional c a b) = 2 + value_weight c + reference_weight a + reference_weight b
  reference_weight (AssignObject i a) = 2 + reference_weight a
  reference_weight (GetObjectField a class index) = suc (reference_weight a)
  reference_weight (SetObjectField a class index b) = 4 + reference_weight a + reference_weight b
  reference_weight (Alloc a) = suc (value_weight a)
  reference_weight (New from a) = 5 + value_weight a
  reference_weight (ObjectCall f arguments) = 2 + arguments_weight arguments
  reference_weight (ObjectSend receiver selector arguments) = 3 + receiver_weight receiver + arguments_weight arguments

  pub receiver_weight : Receiver → ℕ
  receiver_weight (ClassValue a) = suc (value_weight a)
  receiver_weight (ClassSuper from) = 1
  receiver_weight (ObjectValue a) = suc (reference_weight a)
  receiver_weight (ObjectSuper a from) = suc (reference_weight a)

  pub arguments_weight : Arguments → ℕ
  arguments_weight no_arguments = 0
  arguments_weight (number_argument a others) = 2 + value_weight a + arguments_weight others
  arguments_weight (object_argument a others) = 2 + reference_weight a + arguments_weight others

-- what one argument weighs
abbrev pub argument_weight : g.Argument → ℕ
argument_weight x = arguments_weight (and_argument x no_arguments)

abbrev mutual
  pub command_weight : Command → ℕ
  command_weight (Sequence first count all) = 4 + commands_weight all
  command_weight (Evaluate a) = 4 + value_weight a
  command_weight (EvaluateReference a) = 3 + reference_weight a
  command_weight (InitVariable i a) = 4 + reference_weight a
  command_weight (Return None) = 1
  command_weight (Return (Some a)) = 4 + value_weight a
  command_weight (Give a) = 4 + reference_weight a
  command_weight (If test a b) = 4 + value_weight test + command_weight a + command_weight b
  command_weight (While moment test a b) = 7 + value_weight test + command_weight a + command_weight b
  command_weight Break = 1
  command_weight Continue = 1

  pub commands_weight : Commands → ℕ
  commands_weight no_commands = 0
  commands_weight (and_command c others) = suc (command_weight c + commands_weight others)

abbrev pub functions_weight : List Function → ℕ
functions_weight [] = 0
functions_weight (f ∷ others) = commands_weight f.body + functions_weight others

-- so many levels of calls, where the functions of one weigh less than `one`
abbrev pub levels_weight : ℕ → (one : ℕ) → ℕ
levels_weight zero one = 0
levels_weight (suc n) one = one + levels_weight n one

-- what the functions of a program weigh
abbrev pub program_weight : Context → ℕ
program_weight context = functions_weight (program_of context.program.now).functions

-- what the calls and ends that may still begin weigh
abbrev pub levels_left : Context → ℕ
levels_left context = levels_weight context.levels (6 + program_weight context)

before_others : (x : g.Argument) (others : Arguments) → arguments_weight (and_argument x others) ≡ argument_weight x + arguments_weight others
before_others (Number' q a) others = omega arith
before_others (Object' q a) others = omega arith

pub argument_in : (vs : List g.Argument) (i : ℕ) (v : g.Argument) → i < length vs → v ≡ get_or vs i v → argument_weight v ≤ arguments_weight (arguments vs)
argument_in [] i v below is = nothing_below below
argument_in (a ∷ vs) zero v below is =
    let whole = before_others a (arguments vs) in
    subst (λ x. argument_weight x ≤ arguments_weight (and_argument a (arguments vs))) (sym is) (omega (arith, whole))
argument_in (a ∷ vs) (suc i) v below is = let deep = argument_in vs i v (omega (arith, below)) is in let whole = before_others a (arguments vs) in omega (arith, deep, whole)

pub number_lighter : (vs : List g.Argument) (i : ℕ) (v : g.Argument) (a : Value) → i < length vs → v ≡ get_or vs i v → and_argument v no_arguments ≡ number_argument a no_arguments → value_weight a < arguments_weight (arguments vs)
number_lighter vs i v a below is kind = let most = argument_in vs i v below is in omega (arith, most, ap arguments_weight kind)

pub object_lighter : (vs : List g.Argument) (i : ℕ) (v : g.Argument) (a : Reference) → i < length vs → v ≡ get_or vs i v → and_argument v no_arguments ≡ object_argument a no_arguments → reference_weight a < arguments_weight (arguments vs)
object_lighter vs i v a below is kind = let most = argument_in vs i v below is in omega (arith, most, ap arguments_weight kind)

-- a receiver weighs something
pub receiver_counts : (x : Receiver) → 0 < receiver_weight x
receiver_counts (ClassValue a) = omega arith
receiver_counts (ClassSuper from) = omega arith
receiver_counts (ObjectValue a) = omega arith
receiver_counts (ObjectSuper a from) = omega arith

pub command_in : (cs : List d.Command) (i : ℕ) (v : d.Command) → i < length cs → v ≡ get_or cs i v → command_weight (command v) < commands_weight (commands cs)
command_in [] i v below is = nothing_below below
command_in (a ∷ cs) zero v below is = subst (λ x. command_weight (command x) < suc (command_weight (command a) + commands_weight (commands cs))) (sym is) (omega arith)
command_in (a ∷ cs) (suc i) v below is = let deep = command_in cs i v (omega (arith, below)) is in omega (arith, deep)

pub print_lighter : (v : c.Value) (all : Vec Piece Global) (given : Vec g.Argument Global) (shapes : List Piece) (these : List g.Argument) → v ≡ c.Print all given → shapes ≡ all.items → these ≡ given.items
    → suc (arguments_weight (arguments these)) < value_weight (value v)
print_lighter v all given shapes these is same_shapes same =
    omega (arith, ap value_weight (is_print v all given shapes these is same_shapes same))

pub call_lighter : (v : c.Value) (f : ℕ) (given : Vec g.Argument Global) (these : List g.Argument) → v ≡ c.Call f given → these ≡ given.items
    → suc (arguments_weight (arguments these)) < value_weight (value v)
call_lighter v f given these is same =
    omega (arith, ap value_weight (is_invoked v f given these is same))

pub sent_lighter : (v : c.Value) (a : Box rc.Receiver Global) (selector : ℕ) (given : Vec g.Argument Global) (got : rc.Receiver) (these : List g.Argument)
    → v ≡ c.Send a selector given → got ≡ a.value → these ≡ given.items → 2 + receiver_weight (receiver got) + arguments_weight (arguments these) < value_weight (value v)
sent_lighter v a selector given got these is same_receiver same =
    omega (arith, ap value_weight (is_sent v a selector given got these is same_receiver same))

pub object_call_lighter : (v : r.Reference) (f : ℕ) (given : Vec g.Argument Global) (these : List g.Argument) → v ≡ r.ObjectCall f given → these ≡ given.items
    → suc (arguments_weight (arguments these)) < reference_weight (reference v)
object_call_lighter v f given these is same =
    omega (arith, ap reference_weight (is_object_invoked v f given these is same))

pub object_sent_lighter : (v : r.Reference) (a : Box rc.Receiver Global) (selector : ℕ) (given : Vec g.Argument Global) (got : rc.Receiver) (these : List g.Argument)
    → v ≡ r.ObjectSend a selector given → got ≡ a.value → these ≡ given.items → 2 + receiver_weight (receiver got) + arguments_weight (arguments these) < reference_weight (reference v)
object_sent_lighter v a selector given got these is same_receiver same =
    omega (arith, ap reference_weight (is_object_sent v a selector given got these is same_receiver same))

pub sequence_lighter : (v : d.Command) (first count : ℕ) (all : Vec d.Command Global) (these : List d.Command) → v ≡ d.Sequence first count all → these ≡ all.items
    → 3 + commands_weight (commands these) < command_weight (command v)
sequence_lighter v first count all these is same =
    omega (arith, ap command_weight (is_sequence v first count all these is same))

function_in : (fs : List CheckedFunction) (i : ℕ) (f : CheckedFunction) → i < length fs → f ≡ get_or fs i f → commands_weight (commands f.body.items) ≤ functions_weight (functions fs)
function_in [] i f below is = nothing_below below
function_in (g ∷ fs) zero f below is = subst (λ (x : CheckedFunction). commands_weight (commands x.body.items) ≤ commands_weight (commands g.body.items) + functions_weight (functions fs)) (sym is) (omega arith)
function_in (g ∷ fs) (suc i) f below is = let deep = function_in fs i f (omega (arith, below)) is in omega (arith, deep)

-- the body of a function is no heavier than all of them
pub body_lighter : (context : Context) (all : List CheckedFunction) (i : ℕ) (f : CheckedFunction) → all ≡ context.program.now.functions.items → i < length all → f ≡ get_or all i f
    → commands_weight (commands f.body.items) ≤ program_weight context
body_lighter context these i f is_all below is =
    let most : functions_weight (functions these) ≡ program_weight context = ap (λ l. functions_weight (functions l)) is_all in
    omega (arith, function_in these i f below is, most)

-- a level
pub level_lighter : (context inner : Context) → context.levels ≡ suc inner.levels → inner.program.now ≡ context.program.now
    → levels_left inner + (6 + program_weight inner) ≡ levels_left context
level_lighter context inner deeper same =
    let whole : levels_left context ≡ (6 + program_weight context) + levels_weight inner.levels (6 + program_weight context) = ap (λ n. levels_weight n (6 + program_weight context)) deeper in
    let weight : program_weight inner ≡ program_weight context = ap (λ (p : Checked). functions_weight (program_of p).functions) same in
    let part : levels_left inner ≡ levels_weight inner.levels (6 + program_weight context) = ap (λ n. levels_weight inner.levels (6 + n)) weight in
    omega (arith, whole, weight, part)
