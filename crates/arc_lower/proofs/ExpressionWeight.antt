-- The weight of an expression by those of its parts: how much of it is left to lower, which falls with each call.
use Rattle.std.proofs.Common.{arith, ◌≡◌, ℕ, suc, ◌+◌, ◌<◌, ◌≤◌, List, ◌∷◌, length, get_or}
use Rattle.arc_checked.specs.declared.program.Argument as g
use Rattle.arc_checked.specs.declared.program.Argument.TheVariants.{Number', Object'}
use Rattle.arc_spec.specs.Resolved.{Value, Print, Unary, Binary, Conditional, Convert, AssignNumber, Update, Call, Send, Receiver, ClassValue, ClassSuper, ObjectValue, ObjectSuper, GetField, SetField, UpdateField, NotSame, IsObject, Reference, ObjectConditional, AssignObject, GetObjectField, SetObjectField, Alloc, New, ObjectCall, ObjectSend, Arguments, no_arguments, number_argument, object_argument}
use Rattle.arc_checked.specs.Checked.{arguments, and_argument, receiver}

abbrev mutual
  pub value_weight : Value → ℕ
  value_weight (Print pieces arguments) = 2 + arguments_weight arguments
  value_weight (Unary operator kind a) = 2 + value_weight a
  value_weight (Binary operator kind a b) = 2 + value_weight a + value_weight b
  value_weight (Conditional c a b) = 2 + value_weight c + value_weight a + value_weight b
  value_weight (Convert kind a) = 2 + value_weight a
  value_weight (AssignNumber i a) = 2 + value_weight a
  value_weight (Update moment i operator computed kept a) = 3 + value_weight a
  value_weight (Call f arguments) = 2 + arguments_weight arguments
  value_weight (Send receiver selector arguments) = 2 + receiver_weight receiver + arguments_weight arguments
  value_weight (GetField a class index) = 2 + reference_weight a
  value_weight (SetField a class index b) = 2 + reference_weight a + value_weight b
  value_weight (UpdateField moment a class index operator computed kept b) = 3 + reference_weight a + value_weight b
  value_weight (NotSame a b) = 2 + reference_weight a + reference_weight b
  value_weight (IsObject a) = 2 + reference_weight a
  value_weight _ = 1

  pub reference_weight : Reference → ℕ
  reference_weight (ObjectConditional c a b) = 2 + value_weight c + reference_weight a + reference_weight b
  reference_weight (AssignObject i a) = suc (reference_weight a)
  reference_weight (GetObjectField a class index) = 2 + reference_weight a
  reference_weight (SetObjectField a class index b) = 2 + reference_weight a + reference_weight b
  reference_weight (Alloc a) = 2 + value_weight a
  reference_weight (New from a) = 2 + value_weight a
  reference_weight (ObjectCall f arguments) = 2 + arguments_weight arguments
  reference_weight (ObjectSend receiver selector arguments) = 2 + receiver_weight receiver + arguments_weight arguments
  reference_weight _ = 1

  pub receiver_weight : Receiver → ℕ
  receiver_weight (ClassValue a) = suc (value_weight a)
  receiver_weight (ClassSuper from) = 1
  receiver_weight (ObjectValue a) = suc (reference_weight a)
  receiver_weight (ObjectSuper a from) = suc (reference_weight a)

  pub arguments_weight : Arguments → ℕ
  arguments_weight no_arguments = 0
  arguments_weight (number_argument a others) = 2 + value_weight a + arguments_weight others
  arguments_weight (object_argument a others) = 2 + reference_weight a + arguments_weight others

-- what one argument weighs
abbrev pub argument_weight : g.Argument → ℕ
argument_weight x = arguments_weight (and_argument x no_arguments)

before_others : (x : g.Argument) (others : Arguments) → arguments_weight (and_argument x others) ≡ argument_weight x + arguments_weight others
before_others (Number' q a) others = omega arith
before_others (Object' q a) others = omega arith

pub argument_in : (vs : List g.Argument) (i : ℕ) (v : g.Argument) → i < length vs → v ≡ get_or vs i v → argument_weight v ≤ arguments_weight (arguments vs)
argument_in (a ∷ vs) (suc i) v below is = let deep = argument_in vs i v (omega (arith, below)) is in let whole = before_others a (arguments vs) in omega (arith, deep, whole)
argument_in _ i v below is = search (arith, before_others, arguments_weight)
