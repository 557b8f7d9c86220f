-- A program whose names are resolved, whose kinds are known and whose conversions are written.
use Rattle.std.specs.Prelude.{ℕ, ℤ, Bool, List, Option}
use Rattle.arc_ast.specs.declared.tree.Kind.{Kind}
use Rattle.arc_ast.specs.declared.tree.Moment.{Moment}
use Rattle.arc_ast.specs.declared.tree.UnaryOperator.{UnaryOperator}
use Rattle.arc_ast.specs.declared.tree.BinaryOperator.{BinaryOperator}
use Rattle.arc_spec.specs.declared.class.Gives.{Gives}
use Rattle.arc_spec.specs.Classes.{Class}
pub use Rattle.arc_spec.specs.declared.location.Location.{Location}
pub use Rattle.arc_spec.specs.declared.location.Location.TheVariants.{Local, Global}

-- what a format prints in turn (C99, section 7.19.6.1): bytes as they are, the next value as a decimal number, or its low 8 bits as a byte
pub data Piece : Type 0 where
  Bytes : List ℕ → Piece
  Decimal : Piece
  Character : Piece

mutual
  -- An expression that gives a number; an operator has the kind in which it computes. A variable goes by its number in its function, or in the program; functions, classes and
  -- selectors go by their numbers in the program, and a class is a value by its number. A field goes by its number in the objects that have it, with the class whose
  -- own field it is; fields that hold numbers and those that name objects are numbered apart. An update has the kind in which it computes, and that of what it updates.
  pub data Value : Type 0 where
    Number : ℤ → Value
    ReadByte : Value
    Print : List Piece → Arguments → Value
    Unary : UnaryOperator → Kind → Value → Value
    Binary : BinaryOperator → Kind → Value → Value → Value
    Conditional : Value → Value → Value → Value
    Convert : Kind → Value → Value
    Read : Location → Value
    AssignNumber : Location → Value → Value
    Update : Moment → Location → BinaryOperator → (computed kept : Kind) → Value → Value
    Call : ℕ → Arguments → Value
    Send : Receiver → (selector : ℕ) → Arguments → Value
    GetField : Reference → (class index : ℕ) → Value
    SetField : Reference → (class index : ℕ) → Value → Value
    UpdateField : Moment → Reference → (class index : ℕ) → BinaryOperator → (computed kept : Kind) → Value → Value
    NotSame : Reference → Reference → Value
    IsObject : Reference → Value

  -- An expression that gives an object or nil: `nil`, `self`, a variable, one of two by a test, an assignment to a variable, a field, an assignment to one, `alloc` of a
  -- class, `new` of a class, a call and a message. A variable goes by its number among those that name objects, of its function or of the program. `new` has the class
  -- from which its method is looked up, where that isn't the class that gets it but one above, as for `super`.
  pub data Reference : Type 0 where
    Nil : Reference
    Itself : Reference
    Variable : Location → Reference
    ObjectConditional : Value → Reference → Reference → Reference
    AssignObject : Location → Reference → Reference
    GetObjectField : Reference → (class index : ℕ) → Reference
    SetObjectField : Reference → (class index : ℕ) → Reference → Reference
    Alloc : Value → Reference
    New : (from : Option ℕ) → Value → Reference
    ObjectCall : ℕ → Arguments → Reference
    ObjectSend : Receiver → (selector : ℕ) → Arguments → Reference

  -- What gets a message: a class, by its number, or an object. One to `super` goes to `self`, which in a class method is the class that got the message and in a method of
  -- objects stands here, and has the class from which its method is looked up (OPL, "Messages to self and super").
  pub data Receiver : Type 0 where
    ClassValue : Value → Receiver
    ClassSuper : (from : ℕ) → Receiver
    ObjectValue : Reference → Receiver
    ObjectSuper : Reference → (from : ℕ) → Receiver

  -- what a function or a method is passed, in its order: numbers, and objects or nil
  pub data Arguments : Type 0 where
    no_arguments : Arguments
    number_argument : Value → Arguments → Arguments
    object_argument : Reference → Arguments → Arguments

mutual
  -- A statement. A sequence has so many variables of its own that name objects, from the first one on; the beginning of such a variable is what it names first.
  -- `Give` returns an object or nil. `While` is a loop with its test before or after each turn of its body, and a step that comes after each turn.
  pub data Command : Type 0 where
    Sequence : (first count : ℕ) → Commands → Command
    Evaluate : Value → Command
    EvaluateReference : Reference → Command
    InitVariable : ℕ → Reference → Command
    Return : Option Value → Command
    Give : Reference → Command
    If : Value → Command → Command → Command
    While : (tested : Moment) → Value → (step body : Command) → Command
    Break : Command
    Continue : Command

  pub data Commands : Type 0 where
    no_commands : Commands
    and_command : Command → Commands → Commands

-- A function with how many variables it has that hold numbers, and how many that name objects; what it gives; and whether it owns `self`. Of each sort the first
-- variables are its parameters; those that name objects are so many. A method is one too; the first number of a class method is `self`, the class that got the message,
-- which is passed to it before its arguments (OPL, "Using Hidden Arguments"). In a method that owns `self` this is the first variable that names an object, before the
-- parameters, so that it may be assigned and is dropped last (ARC, "Semantics of init"; the order is this project's own choice).
pub record Function : Type 0 where
  pub slots : ℕ
  pub names : ℕ
  pub parameters : ℕ
  pub gives : Gives
  pub owns : Bool
  pub body : Commands

-- the functions of a program, which of them is main, what the variables of the whole program hold first that hold numbers, how many variables of the whole program name
-- objects, each of which begins as nil, and the classes, whose methods run functions
pub record Program : Type 0 where
  pub functions : List Function
  pub main : ℕ
  pub globals : List ℤ
  pub strong_globals : ℕ
  pub classes : List Class
