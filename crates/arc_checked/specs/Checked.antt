-- Checked programs without where they lie in memory.
use Rattle.std.specs.Prelude.{List, [], ◌∷◌, option_map}
use Rattle.arc_checked.specs.declared.program.Piece.{Piece}
use Rattle.arc_checked.specs.declared.program.Piece.TheVariants as p
use Rattle.arc_checked.specs.declared.program.Value.{Value, Row_of-Argument, end_of-Argument, more_of-Argument}
use Rattle.arc_checked.specs.declared.program.Value.TheVariants as v
use Rattle.arc_checked.specs.declared.program.Reference.{Reference}
use Rattle.arc_checked.specs.declared.program.Reference.TheVariants as r
use Rattle.arc_checked.specs.declared.program.Receiver.{Receiver}
use Rattle.arc_checked.specs.declared.program.Receiver.TheVariants as rc
use Rattle.arc_checked.specs.declared.program.Argument.{Argument}
use Rattle.arc_checked.specs.declared.program.Argument.TheVariants as arg
use Rattle.arc_checked.specs.declared.program.Command.{Command, Row_of-Command, end_of-Command, more_of-Command}
use Rattle.arc_checked.specs.declared.program.Command.TheVariants as c
use Rattle.arc_checked.specs.declared.program.CheckedFunction.{CheckedFunction}
use Rattle.arc_checked.specs.declared.program.Checked.{Checked}
use Rattle.arc_spec.specs.Classes.{classes_of}
use Rattle.arc_spec.specs.Resolved as resolved
use Rattle.arc_spec.specs.Resolved.{Number, ReadByte, Print, Unary, Binary, Conditional, Convert, Read, AssignNumber, Update, Call, Send, ClassValue, ClassSuper, ObjectValue, ObjectSuper, GetField, SetField, UpdateField, NotSame, IsObject, Nil, Itself, Variable, ObjectConditional, AssignObject, GetObjectField, SetObjectField, Alloc, New, ObjectCall, ObjectSend, no_arguments, number_argument, object_argument, Sequence, Evaluate, EvaluateReference, InitVariable, Return, Give, If, While, Break, Continue, no_commands, and_command, Bytes, Decimal, Character}

abbrev pub piece : Piece → resolved.Piece
piece (p.Bytes bytes) = Bytes bytes.items
piece p.Decimal = Decimal
piece p.Character = Character

abbrev pub pieces : List Piece → List resolved.Piece
pieces [] = []
pieces (a ∷ others) = piece a ∷ pieces others

abbrev mutual
  pub value : Value → resolved.Value
  value (v.Number n) = Number n
  value v.ReadByte = ReadByte
  value (v.Print' all shape arguments) = Print (pieces all.items) (row_arguments arguments)
  value (v.Unary' operator kind q a) = Unary operator kind (value a)
  value (v.Binary' operator kind q a r b) = Binary operator kind (value a) (value b)
  value (v.Conditional' q c r a s b) = Conditional (value c) (value a) (value b)
  value (v.Convert' kind q a) = Convert kind (value a)
  value (v.Read i) = Read i
  value (v.AssignNumber' i q a) = AssignNumber i (value a)
  value (v.Update' moment i operator computed kept q a) = Update moment i operator computed kept (value a)
  value (v.Call' f shape arguments) = Call f (row_arguments arguments)
  value (v.Send' q a selector shape arguments) = Send (receiver a) selector (row_arguments arguments)
  value (v.GetField' q a class index) = GetField (reference a) class index
  value (v.SetField' q a class index s b) = SetField (reference a) class index (value b)
  value (v.UpdateField' moment q a class index operator computed kept s b) = UpdateField moment (reference a) class index operator computed kept (value b)
  value (v.NotSame' q a s b) = NotSame (reference a) (reference b)
  value (v.IsObject' q a) = IsObject (reference a)

  pub reference : Reference → resolved.Reference
  reference r.Nil = Nil
  reference r.Itself = Itself
  reference (r.Variable i) = Variable i
  reference (r.ObjectConditional' q c r a s b) = ObjectConditional (value c) (reference a) (reference b)
  reference (r.AssignObject' i q a) = AssignObject i (reference a)
  reference (r.GetObjectField' q a class index) = GetObjectField (reference a) class index
  reference (r.SetObjectField' q a class index s b) = SetObjectField (reference a) class index (reference b)
  reference (r.Alloc' q a) = Alloc (value a)
  reference (r.New' from q a) = New from (value a)
  reference (r.ObjectCall' f shape arguments) = ObjectCall f (row_arguments arguments)
  reference (r.ObjectSend' q a selector shape arguments) = ObjectSend (receiver a) selector (row_arguments arguments)

  pub receiver : Receiver → resolved.Receiver
  receiver (rc.ClassValue' q a) = ClassValue (value a)
  receiver (rc.ClassSuper from) = ClassSuper from
  receiver (rc.ObjectValue' q a) = ObjectValue (reference a)
  receiver (rc.ObjectSuper' q a from) = ObjectSuper (reference a) from

  -- an argument before others
  pub and_argument : Argument → resolved.Arguments → resolved.Arguments
  and_argument (arg.Number' q x) others = number_argument (value x) others
  and_argument (arg.Object' q x) others = object_argument (reference x) others

  pub row_arguments : {n : _} → Row_of-Argument n → resolved.Arguments
  row_arguments end_of-Argument = no_arguments
  row_arguments (more_of-Argument x row) = and_argument x (row_arguments row)

abbrev pub arguments : List Argument → resolved.Arguments
arguments [] = no_arguments
arguments (x ∷ others) = and_argument x (arguments others)

abbrev mutual
  pub command : Command → resolved.Command
  command (c.Sequence' first count shape all) = Sequence first count (row_commands all)
  command (c.Evaluate a) = Evaluate (value a)
  command (c.EvaluateReference a) = EvaluateReference (reference a)
  command (c.InitVariable i a) = InitVariable i (reference a)
  command (c.Return a) = Return (option_map value a)
  command (c.Give a) = Give (reference a)
  command (c.If' test q a r b) = If (value test) (command a) (command b)
  command (c.While' moment test q a r b) = While moment (value test) (command a) (command b)
  command c.Break = Break
  command c.Continue = Continue

  pub row_commands : {n : _} → Row_of-Command n → resolved.Commands
  row_commands end_of-Command = no_commands
  row_commands (more_of-Command a row) = and_command (command a) (row_commands row)

abbrev pub commands : List Command → resolved.Commands
commands [] = no_commands
commands (a ∷ others) = and_command (command a) (commands others)

abbrev pub functions : List CheckedFunction → List resolved.Function
functions [] = []
functions (f ∷ others) = record { slots = f.slots; names = f.names; parameters = f.parameters; gives = f.gives; owns = f.owns; body = commands f.body.items } ∷ functions others

abbrev pub program_of : Checked → resolved.Program
program_of c = record { functions = functions c.functions.items; main = c.main; globals = c.globals.items; strong_globals = c.strong_globals; classes = classes_of c.classes.items }
